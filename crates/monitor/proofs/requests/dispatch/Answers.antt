-- `requests::dispatch` meets its contract. Assumes nothing.
use Rattle.monitor.proofs.Asking.{told}
use Rattle.interval.specs.Runs.{dispatched_of}
use Rattle.monitor.proofs.requests.dispatch.Goals as goal

pub returns : goal.returns
returns c = record { exact = told dispatched_of c.dispatch-d.ensures.exact c.dispatching.ensures }
