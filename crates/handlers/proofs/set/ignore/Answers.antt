-- `set::ignore` meets its contract. Assumes nothing.
use Rattle.handlers.specs.Set.{ignore_in}
use Rattle.handlers.proofs.Clauses.{ignore_both}
use Rattle.handlers.proofs.set.ignore.Goals as goal

pub returns : goal.returns
unfolding ignore_in
returns c =
    let a = c.args in
    let all = ignore_both a.t a.name a.condition _ c.set_to.ensures in
    record { exact = all.0; model = all.1 }
