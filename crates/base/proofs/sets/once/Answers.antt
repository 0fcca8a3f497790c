-- `sets::once` meets its contract: what is passed has none twice, and what stands before and at i does. Assumes nothing.
use Rattle.std.proofs.Common.{sym, ap, ◌∙◌, length, arith}
use Rattle.std.proofs.Math.Seq.{take-length}
use Rattle.base.specs.Lists.{once}
use Rattle.base.specs.Laws.Scans.{once_hit, once_miss}
use Rattle.base.proofs.sets.once.Goals as goal

pub returns-then-has : goal.returns-then-has
returns-then-has c =
    let l = c.front-first.result.now in
    record {
      exact = sym (once_miss l (length l) c.loop-i.i (omega arith) (omega arith) (sym c.has.ensures.exact ∙ c.if-has.true))
          ∙ ap once (take-length l ∙ c.front-first.ensures.exact);
    }

pub loop-i-preserved : goal.loop-i-preserved
loop-i-preserved c =
    let l = c.front-first.result.now in
    once_hit l (length l) c.loop-i.i (omega arith) (omega arith) (sym c.has.ensures.exact ∙ c.if-has.false) c.loop-i.invariant
