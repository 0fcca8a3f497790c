-- `cancel::cancel` meets its contract. Assumes nothing.
use Rattle.interval.specs.Cancel.{cancelled}
use Rattle.interval.proofs.Laws.Cancel.{cancel_both}
use Rattle.interval.proofs.cancel.cancel.Goals as goal

pub returns : goal.returns
returns c =
    let all = cancel_both c.args.t c.args.name (cancelled c.cancel-outcome.new.self c.cancel-outcome.result) c.cancel-outcome.ensures in
    record { exact = all.0; model = all.1 }
