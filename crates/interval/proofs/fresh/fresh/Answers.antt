-- `fresh::fresh` meets its contract. Assumes nothing.
use Rattle.interval.specs.Laws.Fresh.{fresh_both}
use Rattle.interval.proofs.fresh.fresh.Goals as goal

pub returns : goal.returns
returns c =
    let all = fresh_both c.args.register _ c.no_row-q.ensures in
    record { exact = all.0; model = all.1 }
