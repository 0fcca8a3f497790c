-- `requests::start` meets its contract. Assumes nothing.
use mathlib.Core.Path.{ap, ◌∙◌}
use Rattle.interval.specs.Start.{start_in}
use Rattle.monitor.proofs.Asking.{told, plainly, read_alike}
use Rattle.interval.specs.Runs.{started_of}
use Rattle.monitor.proofs.requests.start.Goals as goal

pub returns : goal.returns
returns c = record {
  exact = told started_of
      (c.start-s.ensures.exact
      ∙ ap (start_in c.args.t)
      (read_alike c.name_at.ensures.exact c.number4_at.ensures.exact c.number4_at-2.ensures.exact
      c.number4_at-3.ensures.exact c.rest_at.ensures.exact))
      (plainly c.start_code.ensures c.plain.ensures.exact);
}
