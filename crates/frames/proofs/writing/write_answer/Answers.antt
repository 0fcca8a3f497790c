-- `writing::write_answer` meets its contract: no room, or the ten bytes and the copy behind them (proofs/Puts.antt).
-- Assumes nothing.
use mathlib.Core.Path.{ap, ◌∙◌}
use lib.ListN.{take}
use Rattle.frames.specs.Writing.{written}
use Rattle.frames.proofs.Puts.{none_put, all_put, head_alone}
use Rattle.frames.proofs.writing.write_answer.Goals as goal
use Rattle.frames.proofs.writing.write_answer.Goals.{then-n-gt0, else-n-gt0}

pub returns-then-out-n : goal.returns-then-out-n
returns-then-out-n c =
    let a = c.args in
    let own = c.front-own.ensures.exact ∙ ap (take a.len) c.front.ensures.exact in
    record { exact = none_put a.condition a.action a.label a.number a.bytes.now a.len _ a.out.now own c.if-out-n.true }

pub returns : goal.returns
returns c =
    let a = c.args in
    let own = c.front-own.ensures.exact ∙ ap (take a.len) c.front.ensures.exact in
    elim c.if-n-gt0.branch [
      | then-n-gt0 w ↦ record {
        exact = ap (written _) w.out-is ∙ all_put a.condition a.action a.label a.number a.bytes.now a.len _ _ a.out.now _ own w.copy_from_slice.ensures.after c.if-out-n.false
            c.put_head.ensures.exact;
      }
      | else-n-gt0 w ↦ record {
        exact = ap (written _) w.out-is ∙ head_alone a.condition a.action a.label a.number a.bytes.now a.len _ a.out.now _ own w.if-n-gt0.false c.if-out-n.false
            c.put_head.ensures.exact;
      }
    ]
