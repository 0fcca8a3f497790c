-- `retrieve::retrieve` meets its contract. Assumes nothing.
use Rattle.interval.specs.Retrieve.{retrieved}
use Rattle.interval.proofs.Laws.Retrieve.{retrieve_both}
use Rattle.interval.proofs.retrieve.retrieve.Goals as goal

pub returns : goal.returns
returns c =
    let a = c.args in
    let r = c.retrieve-outcome in
    let all = retrieve_both a.t a.task a.room (retrieved r.new.self r.result) r.ensures.exact in
    record { exact = all.0; model = all.1; small = r.ensures.small }
