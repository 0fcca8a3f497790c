-- The soundness check as a whole: the parts make up what it is to be sound. Assumes nothing.
use Rattle.std.specs.Prelude.{◌≡◌, ℕ, Bool, true, List, slice_index}
use Rattle.std.proofs.Common.{sym, ◌∙◌, arith, Fits}
use Rattle.std.proofs.Math.Path.{ap}
use Rattle.std.specs.Int.{w64}
use borrow.Author.Tests.{leb-true, le-leb, eqb-true, eq-eqb}
use Rattle.base.specs.Lists.{all, once}
use Rattle.base.specs.Bytes.{is_bytes}
use Rattle.base.specs.Laws.Tests.{both, bool_ext, and_i}
use Rattle.model.proofs.Laws.SoundInterval.{view, unview}
use Rattle.names.specs.Names.{Names}
use Rattle.request_rows.specs.Table.{view_of, register_of, live, slots_in}
use Rattle.request_rows.specs.Stands.{Memory, memory, limits_of, interval_at, Means, sound_r}
use Rattle.request_rows.specs.Laws.Ties.{small, sound_here, sound_back}
use Rattle.request_sound.specs.Sound.{checked}
use Rattle.request_sound.specs.Laws.Row.{word_name, live_words}
use Rattle.request_sound.specs.Laws.Model.{names_few, names_sound, sound_names_lem, names_column, slots_column, running_column, held_column, rows_few, rows_laid, rows_sound_lem, sound_rows}

module _ (m : Memory) (bytes : is_bytes m.area ≡ true) (words : all word_name (live m.requests) ≡ true) where
  abbrev tick : ℕ
  tick = register_of m.requests

  means : Means m tick
  means = omega arith

  abbrev found : Bool
  found = checked m.programs m.terminals m.requests (slots_in m.area)

  checked_sound : found ≡ true → sound_r m ≡ true
  unfolding interval_at
  checked_sound h =
      let p4 = both _ _ h in
      let p3 = both _ _ p4.0 in
      let p2 = both _ _ p3.0 in
      let p1 = both _ _ p2.0 in
      let head = both _ _ p2.1 in
      let apart3 = both _ _ p4.1 in
      let apart2 = both _ _ apart3.0 in
      let apart1 = both _ _ apart2.0 in
      let laid = rows_laid m bytes words p3.1 apart1.1 in
      (sound_back m tick means
      (record {
        programs = names_few m.programs p1.0;
        terminals = names_few m.terminals p1.1;
        requests = leb-true _ _ head.1;
        register = eqb-true _ _ head.0;
        laid = laid;
      })
      (unview record {
        programs = names_sound m.programs p1.0;
        terminals = names_sound m.terminals p1.1;
        requests = record {
          fit = rows_few m laid;
          unique = ap once (names_column tick tick m.area (live m.requests)) ∙ apart1.0;
          sound = rows_sound_lem m bytes words p3.1;
          runs = ap once (running_column tick tick m.area (live m.requests)) ∙ apart2.1;
          holds = ap once (held_column tick tick m.area (live m.requests)) ∙ apart3.1;
        };
      })).soundly

  sound_checked : sound_r m ≡ true → found ≡ true
  unfolding interval_at
  sound_checked s =
      let b = small m s in
      let v = view {L = limits_of m} {i = interval_at tick m} (sound_here m tick (record { means = means; soundly = s })) in
      let q = v.requests in
      let head = and_i (eq-eqb _ _ b.register) (le-leb _ _ b.requests) in
      let of-all =
      and_i (ap once (sym (names_column tick tick m.area (live m.requests))) ∙ q.unique) (ap once (sym (slots_column (live m.requests))) ∙ b.laid.apart) in
      and_i
      (and_i (and_i (and_i (sound_names_lem m.programs b.programs v.programs) (sound_names_lem m.terminals b.terminals v.terminals)) head)
      (sound_rows m bytes words b.laid q.sound))
      (and_i (and_i of-all (ap once (sym (running_column tick tick m.area (live m.requests))) ∙ q.runs))
      (ap once (sym (held_column tick tick m.area (live m.requests))) ∙ q.holds))

  checked_is : found ≡ sound_r m
  checked_is = bool_ext found (sound_r m) checked_sound sound_checked

-- from what the code found of the parts
pub whole : (p e : Names) (w area : List ℕ) → is_bytes area ≡ true → ((i : ℕ) → Fits w64 (slice_index w i))
    → (slots : ℕ) (r : Bool) → slots ≡ slots_in area → r ≡ checked p e (view_of w) slots → r ≡ sound_r (memory p e (view_of w) area)
whole p e w area bytes words slots r hs h = h ∙ rw hs (checked_is (memory p e (view_of w) area) bytes (live_words w words))
