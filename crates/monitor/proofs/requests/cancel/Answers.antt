-- `requests::cancel` meets its contract. Assumes nothing.
use mathlib.Core.Path.{ap, ◌∙◌}
use Rattle.interval.specs.Cancel.{cancel_in}
use Rattle.monitor.proofs.Asking.{told, plainly}
use Rattle.interval.specs.Runs.{cancelled_of}
use Rattle.monitor.proofs.requests.cancel.Goals as goal

pub returns : goal.returns
returns c = record {
  exact = told cancelled_of (c.cancel-d.ensures.exact ∙ ap (cancel_in c.args.t) c.name_at.ensures.exact)
      (plainly c.cancel_code.ensures c.plain.ensures.exact);
}
