-- `queue_ops::read::read_next` meets its contract. Assumes nothing.
use Rattle.std.proofs.Common.{ℕ, ◌+◌, length, rules, refl, ap, ◌∙◌}
use Rattle.model.specs.Plans.{Outcome}
use Rattle.words.specs.Said.{handed}
use Rattle.queue_rows.specs.Table.{Queues}
use Rattle.queue_rows.specs.Read.{read_in, read_next_in}
use Rattle.queue_ops.specs.Seen.{queues_in}
use Rattle.queue_ops.proofs.Answers.{through}
use Rattle.queue_ops.proofs.ReadCases.{pointer_read, read_behind}
use Rattle.queue_ops.proofs.read.read_next.Goals as goal

pub returns : goal.returns
unfolding read_next_in
returns c =
    let a = c.args in
    let t = c.new-table.result in
    let q = queues_in t in
    record {
      exact = through t c.give.new.self a.queues.now _ (length a.items.now) (λ (x : Queues). x)
          (λ (x : Queues). read_next_in x a.items.now a.name a.room) c.new-table.ensures.sized c.new-table.ensures.lent (search rules)
          c.give.ensures.same.at (search rules) _ refl c.give.result _ a.body.now
          (c.give.ensures.exact
          ∙ ap (λ (x : Outcome Queues). handed x a.body.now)
          (read_behind t.at t.words.now t.laid a.name c.new-table.ensures.sized.few a.items.now c.pointer_of.result c.saturating_add-place.result a.room c.saturating_add-place.ensures
          ∙ ap (λ (i : ℕ). read_in q a.items.now a.name (i + 1) a.room)
          (pointer_read t.at t.words.now t.laid a.name c.row_of-row.result c.row_of-row.ensures.exact c.pointer_of.result c.pointer_of.ensures)));
    }
