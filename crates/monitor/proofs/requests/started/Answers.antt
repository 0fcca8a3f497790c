-- `requests::started` meets its contract: three stores are the sixteen bytes. Assumes nothing.
use mathlib.Core.Path.{ap, ◌∙◌}
use Rattle.monitor.specs.Answers.{saying}
use Rattle.monitor.proofs.Laid.{laid_out}
use Rattle.monitor.proofs.requests.started.Goals as goal

pub returns : goal.returns
returns c =
    let a = c.args.task in
    c.carrying.ensures
    ∙ ap (saying 0 c.args.passed)
    (laid_out a.name a.program a.terminal _ _ _ (c.copy_from_slice.ensures.after ∙ c.to_be_bytes.ensures)
    (c.copy_from_slice-2.ensures.after ∙ c.to_be_bytes-2.ensures) (c.copy_from_slice-3.ensures.after ∙ c.to_be_bytes-3.ensures))
