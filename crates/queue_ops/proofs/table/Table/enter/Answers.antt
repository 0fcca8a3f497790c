-- `queue_ops::table::Table::enter` meets its contract. Assumes nothing.
use Rattle.queue_ops.proofs.AppendCases.{enters}
use Rattle.queue_ops.proofs.table.Table.enter.Goals as goal

pub returns-clause-left : goal.returns-clause-left
returns-clause-left c =
    let a = c.args in
    let t = a.self.now in
    enters t.at t.words.now t.laid a.u a.e a.name a.k a.size c.requires.0 c.requires.1
