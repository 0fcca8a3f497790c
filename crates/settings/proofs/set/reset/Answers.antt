-- `set::reset` meets its contract. Assumes nothing.
use Rattle.settings.specs.Table.{view_of}
use Rattle.settings.specs.Set.{reset_in}
use Rattle.settings.proofs.Clauses.{reset_obeys}
use Rattle.settings.proofs.set.reset.Goals as goal

pub returns : goal.returns
unfolding reset_in
returns c =
    let a = c.args in
    let s = c.set_to.ensures in
    record { exact = s; model = reset_obeys (view_of a.settings.now) a.task a.condition c.set_to.result (view_of c.set_to.new.settings) s }
