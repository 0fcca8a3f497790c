-- `queue_ops::table::Table::sweep` meets its contract. Assumes nothing.
use Rattle.std.proofs.Common.{◌≡◌, ℕ, min, ap, ◌∙◌}
use Rattle.slots.specs.Bits.{held}
use Rattle.queue_ops.proofs.DeleteCases.{stays, freed, emptied_left}
use Rattle.queue_ops.proofs.table.Table.sweep.Goals as goal
use Rattle.queue_ops.proofs.table.Table.sweep.Goals.{After-keep_others-kept}

-- as many entries as are in use, and no more than there can be
most : (c : After-keep_others-kept) → c.min-n.result ≡ min (held c.used-u.result) c.args.self.now.at.slots
most c = c.min-n.ensures ∙ ap (λ (n : ℕ). min n c.args.self.now.at.slots) c.count.ensures.exact

pub overflow_sub-result : goal.overflow_sub-result
overflow_sub-result c =
    let t = c.args.self.now in
    let v = c.keep_others-kept in
    stays t.at t.words.now t.laid c.requires c.args.name c.min-n.result c.used-u.result v.result.used v.result.count v.new.entries
    c.used-u.ensures.exact (most (goal.at.overflow_sub-result c).After-keep_others-kept) v.ensures

pub returns-clause-freed : goal.returns-clause-freed
returns-clause-freed c =
    let t = c.args.self.now in
    let v = c.keep_others-kept in
    freed t.at t.words.now t.laid c.requires c.args.name c.min-n.result c.used-u.result v.result.used v.result.count v.new.entries
    c.used-u.ensures.exact (most (goal.at.returns-clause-freed c).After-keep_others-kept) v.ensures

pub returns-clause-left : goal.returns-clause-left
returns-clause-left c =
    let t = c.args.self.now in
    let v = c.keep_others-kept in
    emptied_left t.at t.words.now t.laid c.requires c.args.name c.min-n.result c.used-u.result v.result.used v.result.count v.new.entries
    c.used-u.ensures.exact (most (goal.at.returns-clause-left c).After-keep_others-kept) v.ensures
