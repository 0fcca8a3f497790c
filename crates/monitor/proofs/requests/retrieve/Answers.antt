-- `requests::retrieve` meets its contract. Assumes nothing.
use mathlib.Core.Path.{ap₂, ◌∙◌}
use Rattle.interval.specs.Retrieve.{retrieve_in}
use Rattle.monitor.proofs.Asking.{told}
use Rattle.interval.specs.Runs.{retrieved_of}
use Rattle.monitor.proofs.requests.retrieve.Goals as goal

pub returns : goal.returns
returns c = record {
  exact = told retrieved_of
      (c.retrieve-g.ensures.exact ∙ ap₂ (retrieve_in c.args.t) c.issuer-task.ensures.exact c.room_at-room.ensures.exact)
      c.handing.ensures;
}
