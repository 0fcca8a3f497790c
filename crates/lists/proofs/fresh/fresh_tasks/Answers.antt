-- `fresh::fresh_tasks` meets its contract. Assumes nothing.
use Rattle.lists.proofs.Again.{tasks_again}
use Rattle.lists.proofs.fresh.fresh_tasks.Goals as goal

pub returns : goal.returns
returns c = tasks_again _ c.fresh-t.result c.fresh-t.ensures.exact
