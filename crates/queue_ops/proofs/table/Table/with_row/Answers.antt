-- `queue_ops::table::Table::with_row` meets its contract. Assumes nothing.
use Rattle.std.proofs.Common.{sym, ◌∙◌, arith}
use Rattle.queue_rows.specs.Laws.Columns.{names_lies}
use Rattle.queue_ops.specs.Seen.{queues_in}
use Rattle.queue_ops.proofs.AppendCases.{grows, row_made}
use Rattle.queue_ops.proofs.table.Table.with_row.Goals as goal

pub returns-clause-rowed : goal.returns-clause-rowed
returns-clause-rowed c =
    let t = c.args.self.now in
    let n = c.count-count in
    row_made (queues_in t) c.args.name (sym c.knows.ensures.exact ∙ c.if-knows.false) _
    (omega (arith, (names_lies t.at t.words.now t.laid).long, n.ensures.exact, c.if-count-rows.false))
    (grows t.at t.words.now t.laid n.result c.args.name n.ensures.exact c.if-count-rows.false)
