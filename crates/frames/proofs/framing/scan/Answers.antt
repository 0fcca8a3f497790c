-- `framing::scan` meets its contract. The invariant: the records passed and those left are those behind the header (proofs/Counted.antt).
-- Assumes nothing.
use mathlib.Core.Path.{sym, ◌∙◌}
use native.Mathlib.Omega.{arith}
use Rattle.frames.specs.Laws.Reading.{record_told}
use Rattle.frames.proofs.Counted.{passed_more, passed_end, passed_bad}
use Rattle.frames.proofs.framing.scan.Goals as goal

pub loop-next-smaller : goal.loop-next-smaller
loop-next-smaller c =
    let t = (record_told _ _ _ _ (sym c.in-Record.is ∙ c.record_at.ensures.exact)).1 in
    let w = c.loop-next.invariant.within in
    omega arith

pub loop-next-preserved : goal.loop-next-preserved
loop-next-preserved c = passed_more _ _ _ _ c.loop-next.invariant _ _ (sym c.in-Record.is ∙ c.record_at.ensures.exact)

pub returns-in-End : goal.returns-in-End
returns-in-End c =
    passed_end _ _ _ _ c.loop-next.invariant (sym c.in-End.is ∙ c.record_at.ensures.exact)

pub returns-in-Bad : goal.returns-in-Bad
returns-in-Bad c =
    passed_bad _ _ _ _ c.loop-next.invariant (sym c.in-Bad.is ∙ c.record_at.ensures.exact)
