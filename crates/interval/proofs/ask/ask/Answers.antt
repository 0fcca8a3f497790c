-- `ask::ask` meets its contract. Assumes nothing.
use Rattle.interval.specs.Laws.Fresh.{ask_both}
use Rattle.interval.proofs.ask.ask.Goals as goal

pub returns : goal.returns
returns c =
    let all = ask_both c.args.t in
    record { exact = all.0; model = all.1 }
