-- `sound::named_once` meets its contract: the names before i stand once. Assumes nothing.
use Rattle.std.proofs.Common.{ℕ, ◌≡◌, length, take, get_or, map, sym, ap, ◌∙◌, arith}
use Rattle.std.proofs.Math.ListN.{length-map}
use Rattle.std.specs.Option.{is_some}
use Rattle.base.specs.Lists.{has, once}
use Rattle.base.specs.Laws.Maps.{map_take}
use Rattle.base.specs.Laws.Scans.{once_hit, once_miss}
use Rattle.settings.specs.Rows.{named, name_of}
use Rattle.settings.specs.Table.{view_of}
use Rattle.settings.proofs.Coded.{named_before}
use Rattle.settings.proofs.Places.{position_any}
use Rattle.settings.proofs.sound.named_once.Goals as goal
use Rattle.settings.proofs.sound.named_once.Goals.{After-is_some}

-- is the name in row i among those before it
twice : (c : After-is_some) → let names = map name_of (view_of c.args.settings.now).rows in
    has (get_or names c.loop-i.i 0) (take c.loop-i.i names) ≡ is_some c.place.result
twice c =
    let l = (view_of c.args.settings.now).rows in
    named_before l c.loop-i.i (omega arith) c.name_at.result c.name_at.ensures.exact
    ∙ sym (ap is_some c.place.ensures ∙ position_any (named c.name_at.result) (take c.loop-i.i l))

pub returns-then-is_some : goal.returns-then-is_some
returns-then-is_some c =
    let n = c.args.n in
    let l = (view_of c.args.settings.now).rows in
    let k : length (map name_of l) ≡ length l = length-map l name_of in
    sym (ap once (map_take name_of n l)
    ∙ once_miss (map name_of l) n c.loop-i.i c.loop-i-test.true (omega arith) (twice (goal.at.returns-then-is_some c).After-is_some ∙ sym c.if-is_some.ensures))

pub loop-i-preserved : goal.loop-i-preserved
loop-i-preserved c =
    let l = (view_of c.args.settings.now).rows in
    let k : length (map name_of l) ≡ length l = length-map l name_of in
    once_hit (map name_of l) c.args.n c.loop-i.i c.loop-i-test.true (omega arith)
    (twice (goal.at.loop-i-preserved c).After-is_some ∙ sym c.if-is_some.ensures) c.loop-i.invariant

pub returns : goal.returns
returns c =
    let n = c.args.n in
    let l = (view_of c.args.settings.now).rows in
    let e : c.loop-i.i ≡ n = omega arith in
    sym (ap once (map_take name_of n l) ∙ ap (λ (k : ℕ). once (take k (map name_of l))) (sym e) ∙ c.loop-i.invariant)
