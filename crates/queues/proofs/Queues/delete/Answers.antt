-- `Queues::delete` meets its contract. Assumes nothing.
use Rattle.std.proofs.Common.{sym, ◌∙◌}
use Rattle.queues.proofs.DeleteCases.{delete_freed}
use Rattle.queues.proofs.Queues.delete.Goals as goal

pub returns : goal.returns
returns c =
    delete_freed c.args.self.now c.args.name c.if-name-eq-BLANK.false c.in-Some.row (sym c.row.ensures ∙ c.in-Some.is) c.shut.new.self c.sweep.new.self
    c.sweep.result c.shut.ensures c.sweep.ensures.left c.sweep.ensures.gone
