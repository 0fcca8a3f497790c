-- `fresh::fresh_requests` meets its contract. Assumes nothing.
use Rattle.lists.proofs.Again.{requests_again}
use Rattle.lists.proofs.fresh.fresh_requests.Goals as goal

pub returns : goal.returns
returns c = requests_again c.args.register _ c.fresh-t.result c.fresh-t.ensures.exact
