-- `sound::named_once` meets its contract: the names before i stand once. Assumes nothing.
use Rattle.std.proofs.Common.{◌≡◌, length, take, get_or, map, sym, ap, ap₂, ◌∙◌, arith}
use Rattle.std.proofs.Math.ListN.{length-map, get_or-map}
use Rattle.std.proofs.Math.Seq.{take-length}
use Rattle.base.specs.Lists.{has, once}
use Rattle.base.specs.Laws.Counting.{has_map}
use Rattle.base.specs.Laws.Maps.{map_take}
use Rattle.base.specs.Laws.Scans.{once_hit, once_miss}
use Rattle.handlers.specs.Rows.{out_row}
use Rattle.handlers.specs.Names.{name_of}
use Rattle.handlers.proofs.sound.named_once.Goals as goal
use Rattle.handlers.proofs.sound.named_once.Goals.{After-named}

-- is the name in row i among those before it
twice : (c : After-named) → let names = map name_of c.args.rows.now in has (get_or names c.loop-i.i 0) (take c.loop-i.i names) ≡ c.named.result
twice c =
    let l = c.args.rows.now in
    let i = c.loop-i.i in
    ap₂ has (get_or-map name_of l i out_row) (sym (map_take name_of i l))
    ∙ has_map name_of (get_or l i out_row).name (take i l) ∙ sym c.named.ensures

pub returns-then-named : goal.returns-then-named
returns-then-named c =
    let l = c.args.rows.now in
    let names = map name_of l in
    let n : length names ≡ length l = length-map l name_of in
    sym (ap once (sym (take-length names))
    ∙ once_miss names (length names) c.loop-i.i (omega arith) (omega arith) (twice (goal.at.returns-then-named c).After-named ∙ c.if-named.true))

pub loop-i-preserved : goal.loop-i-preserved
loop-i-preserved c =
    let l = c.args.rows.now in
    let names = map name_of l in
    let n : length names ≡ length l = length-map l name_of in
    once_hit names (length names) c.loop-i.i (omega arith) (omega arith) (twice (goal.at.loop-i-preserved c).After-named ∙ c.if-named.false) c.loop-i.invariant
