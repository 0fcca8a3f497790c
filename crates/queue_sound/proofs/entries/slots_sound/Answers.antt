-- `queue_sound::entries::slots_sound` meets its contract: what is left of the slots drains what is left of the bits exactly if all of them drain all.
-- Assumes nothing.
use Rattle.std.proofs.Common.{arith, sym, ap, ◌∙◌}
use Rattle.queue_sound.proofs.Drains.{drains, drained, drain_miss, drain_end}
use Rattle.queue_sound.proofs.entries.slots_sound.Goals as goal

pub returns-then-not-is_used : goal.returns-then-not-is_used
returns-then-not-is_used c =
    let l = c.loop-s in
    let a = c.args in
    sym (drain_miss c.front-s-items.result.now l.s-index l.v (omega arith) (sym c.is_used.ensures.exact ∙ c.if-not-is_used.true))
    ∙ l.invariant.left ∙ ap (drains a.u) c.front-s-items.ensures.exact ∙ drained a.u l.invariant.first a.n a.slot.now (omega arith)

pub returns : goal.returns
returns c =
    let l = c.loop-s in
    let a = c.args in
    sym (drain_end c.front-s-items.result.now l.s-index l.v (omega arith))
    ∙ l.invariant.left ∙ ap (drains a.u) c.front-s-items.ensures.exact ∙ drained a.u l.invariant.first a.n a.slot.now (omega arith)
