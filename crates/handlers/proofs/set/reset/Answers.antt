-- `set::reset` meets its contract. Assumes nothing.
use Rattle.handlers.specs.Set.{reset_in}
use Rattle.handlers.proofs.Clauses.{reset_both}
use Rattle.handlers.proofs.set.reset.Goals as goal

pub returns : goal.returns
unfolding reset_in
returns c =
    let a = c.args in
    let all = reset_both a.t a.name a.condition _ c.set_to.ensures in
    record { exact = all.0; model = all.1 }
