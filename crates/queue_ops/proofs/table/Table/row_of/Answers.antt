-- `queue_ops::table::Table::row_of` meets its contract. Assumes nothing.
use Rattle.std.proofs.Common.{ℕ, List, eqb, position, ap, ◌∙◌}
use Rattle.queue_rows.specs.Laws.Columns.{names_lies}
use Rattle.queue_ops.proofs.Seeks.{one_word}
use Rattle.queue_ops.proofs.table.Table.row_of.Goals as goal

pub returns : goal.returns
returns c =
    let t = c.args.self.now in
    let names = (names_lies t.at t.words.now t.laid).whole t.at.pointers t.laid.pointers in
    record {
      exact = c.find.ensures.exact ∙ ap (λ (l : List ℕ). position (λ m. eqb m c.args.name) l) (one_word _ ∙ cc (c.front-counted.ensures.exact, names));
    }
