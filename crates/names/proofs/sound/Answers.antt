-- `sound` meets its contract. Assumes nothing.
use Rattle.std.proofs.Common.{◌≡◌, true, false, ◌&&◌, sym, ap, ◌∙◌, inl, inr, length, leb, le-leb, rules, tests}
use Rattle.std.proofs.lemmas.Bool.{lt-leb}
use Rattle.std.proofs.lemmas.Iterator.{YieldsList-from_slice}
use Rattle.std.proofs.lemmas.Iterator.Search.{all_from_yields_List}
use Rattle.std.proofs.Math.Seq.{take-length}
use Rattle.base.specs.Bytes.{is_name}
use Rattle.base.specs.Lists.{all, once}
use Rattle.names.specs.Names.{sound_names}
use Rattle.names.proofs.sound.Goals as goal

pub returns-then-unique : goal.returns-then-unique
unfolding sound_names
returns-then-unique c =
    let names = c.live-names.result.now in
    let named : c.all.result ≡ all (is_name 4) names =
    all_from_yields_List (is_name 4) _ _ c.all.result c.all.ensures.ran (YieldsList-from_slice names cc) (λ x b q k. search (rules, tests)) in
    let unique : once names ≡ true = sym (ap once (take-length names)) ∙ sym c.once-unique.ensures.exact ∙ c.if-unique.true.1 in
    let fits = le-leb c.word_at.result (length c.places.result.now) c.if-unique.true.0 in
    record { exact = rw (sym c.live-names.ensures, sym c.word_at.ensures.exact, sym c.places.ensures, fits, unique) named }

pub returns-else-unique : goal.returns-else-unique
unfolding sound_names
returns-else-unique c =
    let names = c.live-names.result.now in
    let fails : (leb c.word_at.result (length c.places.result.now) && once names) ≡ false =
    elim c.if-unique.either [
      | inl n ↦ rw (le-leb c.word_at.result (length c.places.result.now) n.0, sym (ap once (take-length names)) ∙ sym c.once-unique.ensures.exact ∙ n.1)
      | inr n ↦ rw (lt-leb c.word_at.result (length c.places.result.now) n)
    ] in
    record { exact = rw (sym c.live-names.ensures, sym c.word_at.ensures.exact, sym c.places.ensures, fails) (search rules) }
