-- `queue_ops::table::Table::resize` meets its contract. Assumes nothing.
use Rattle.queue_rows.specs.Rewrite.{resized}
use Rattle.queue_rows.specs.Laws.Columns.{len_stored}
use Rattle.queue_ops.proofs.table.Table.resize.Goals as goal

pub returns-clause-left : goal.returns-clause-left
unfolding resized
returns-clause-left c =
    let t = c.args.self.now in
    len_stored t.at t.words.now t.laid c.args.s c.args.size c.requires
