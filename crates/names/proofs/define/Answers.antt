-- `define` meets its contract. Assumes nothing.
use Rattle.std.proofs.Common.{sym, ap, ◌∙◌, length, arith}
use Rattle.words.specs.Laws.Said.{said_plain}
use Rattle.names.specs.Laws.Define.{blank_name, known_name, no_place_lem, name_stored}
use Rattle.names.proofs.define.Goals as goal

pub returns-then-name-eq-NONE : goal.returns-then-name-eq-NONE
returns-then-name-eq-NONE c =
    let a = c.args in
    record { exact = said_plain _ _ 0 _ _ c.plain.ensures.exact (blank_name a.t.now a.name c.if-name-eq-NONE.true) }

pub returns-then-known : goal.returns-then-known
returns-then-known c =
    let a = c.args in
    record { exact = said_plain _ _ 0 _ _ c.plain-then-known.ensures.exact (known_name a.t.now a.name c.if-name-eq-NONE.false (sym c.known.ensures.exact ∙ c.if-known.true)) }

pub returns-then-n-places : goal.returns-then-n-places
returns-then-n-places c =
    let a = c.args in
    let few = ap length c.places.ensures in
    record {
      exact = said_plain _ _ 0 _ _ c.plain-then-n-places.ensures.exact
          (no_place_lem a.t.now a.name c.if-name-eq-NONE.false (sym c.known.ensures.exact ∙ c.if-known.false) _ (ap length c.live-n.ensures) (omega arith));
    }

pub returns : goal.returns
returns c =
    let a = c.args in
    let more = ap length c.places.ensures in
    record {
      exact = said_plain _ _ 0 _ _ c.plain-2.ensures.exact
          (name_stored a.t.now _ _ a.name _ (rw c.from.ensures at c.put_word.ensures.exact) c.put_word-2.ensures.exact c.if-name-eq-NONE.false (sym c.known.ensures.exact ∙ c.if-known.false) (ap length c.live-n.ensures) (omega arith));
    }
