-- `queue_ops::delete::keep_others` meets its contract: i entries are swept, and j of them stay. Assumes nothing.
use Rattle.std.proofs.Common.{◌<◌, length, arith, ◌∙◌}
use Rattle.queue_ops.proofs.SweepLaws.{turn_hit, turn_miss, swept_as}
use Rattle.queue_ops.proofs.delete.keep_others.Goals as goal
use Rattle.queue_ops.proofs.delete.keep_others.Goals.{else-o-name, then-o-name}

pub loop-i-preserved : goal.loop-i-preserved
loop-i-preserved c =
    let l = c.loop-i in
    let a = c.args in
    let p = c.split_at_mut-owner in
    let h : l.i < length p.result.0.now = omega arith in
    let g : l.i < length p.result.1.now = omega arith in
    let s = l.invariant.swept in
    elim c.if-o-name.branch [
      | then-o-name w ↦ record {
        moved = omega (arith, w.j-is);
        swept = swept_as (w.v-is ∙ w.clear-v.ensures.exact) w.j-is w.owner-is w.slot-is
            (turn_hit a.name _ _ a.u l.i h g l.v l.j l.owner l.slot s w.if-o-name.true);
      }
      | else-o-name w ↦ record {
        moved = omega (arith, w.j-is);
        swept = swept_as w.v-is w.j-is w.owner-is w.slot-is
            (turn_miss a.name _ _ a.u l.i h g l.v l.j l.owner l.slot s w.if-o-name.false);
      }
    ]
