-- `fresh` meets its contract: no row, no entry, and every bit clear. Assumes nothing.
use Rattle.queues.specs.Fresh.{fresh}
use Rattle.queues.specs.Laws.Fresh.{fresh_both}
use Rattle.queues.proofs.fresh.fresh.Goals as goal

pub returns : goal.returns
unfolding fresh
returns c = let all = fresh_both _ (cc c.none.ensures.exact) in
    record { exact = all.0; model = all.1 }
