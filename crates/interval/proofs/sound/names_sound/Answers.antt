-- `sound::names_sound` meets its contract. Assumes nothing.
use Rattle.std.proofs.Common.{ℕ, ◌^◌, ◌<◌, Bool, ◌&&◌, List, length, get_or, take, leb, sym, ap, ◌∙◌, arith}
use Rattle.base.specs.Lists.{all, once}
use Rattle.base.specs.Bytes.{is_name}
use Rattle.interval.proofs.SoundLaws.{name_hit, name_once, name_named, name_twice}
use Rattle.interval.proofs.sound.names_sound.Goals as goal

pub returns-then-has : goal.returns-then-has
returns-then-has c =
    let a = c.args in
    let named : Bool = all (is_name 4) (take a.count a.names.now) in
    name_twice c.front-known.result.now c.loop-i.i c.loop-i-test.true (sym c.has.ensures.exact ∙ c.if-has.true) (leb a.count (length a.names.now)) named
    ∙ ap (λ (k : List ℕ). leb a.count (length a.names.now) && once k && named) c.front-known.ensures.exact

pub loop-i-preserved : goal.loop-i-preserved
loop-i-preserved c =
    let l = c.loop-i in
    let known : List ℕ = c.front-known.result.now in
    let low : get_or known l.i 0 < 2 ^ 32 = omega (arith, c.type_inv.known l.i) in
    record {
      unique = name_once known l.i c.loop-i-test.true (sym c.has.ensures.exact ∙ c.if-has.false) l.invariant.unique;
      named = name_named known l.i c.loop-i-test.true (name_hit (get_or known l.i 0) low c.if-name-eq-NONE.false) l.invariant.named;
    }
