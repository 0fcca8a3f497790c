-- `queue_ops::table::Table::shut_row` meets its contract. Assumes nothing.
use Rattle.std.proofs.Common.{◌≡◌, ℕ, min, arith, refl, ap, ◌∙◌}
use Rattle.queue_ops.specs.Seen.{queues_in}
use Rattle.queue_ops.proofs.DeleteCases.{row_shut}
use Rattle.queue_ops.proofs.table.Table.shut_row.Goals as goal

pub returns-clause-left : goal.returns-clause-left
returns-clause-left c =
    let t = c.args.self.now in
    -- as many rows as are counted, and no more than there are
    let most : c.min-m.result ≡ min (queues_in t).count t.at.rows = c.min-m.ensures ∙ ap (λ (n : ℕ). min n t.at.rows) c.count.ensures.exact in
    row_shut t.at t.words.now t.laid c.args.row c.min-m.result most (omega (arith, c.requires)) _ _ refl refl c.shut.new.t c.shut.ensures.exact
    c.shut-2.new.t c.shut-2.ensures.exact
