-- `requests::advance` meets its contract. Assumes nothing.
use mathlib.Core.Path.{ap, ◌∙◌}
use Rattle.interval.specs.Advance.{advance_of}
use Rattle.monitor.proofs.Asking.{told}
use Rattle.interval.specs.Runs.{advanced_of}
use Rattle.monitor.proofs.requests.advance.Goals as goal

pub returns : goal.returns
returns c = record { exact = told advanced_of (c.advance-a.ensures.exact ∙ ap (advance_of c.args.t) c.number4_at.ensures.exact) c.passing.ensures }
