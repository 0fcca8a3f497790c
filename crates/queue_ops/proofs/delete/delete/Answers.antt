-- `queue_ops::delete::delete` meets its contract. Assumes nothing.
use Rattle.std.proofs.Common.{◌≡◌, ◌<◌, min, length, arith, rules, refl, ap, ◌∙◌, length-take}
use Rattle.words.specs.declared.said.Condition.TheVariants.{Normal, UnknownQueue, InvalidRequest}
use Rattle.words.specs.Laws.Said.{said_plain}
use Rattle.queue_rows.specs.Table.{Queues, view_of, entries, owners}
use Rattle.queue_rows.specs.Delete.{delete_from}
use Rattle.queue_rows.specs.Laws.Columns.{names_lies, owner_lies}
use Rattle.queue_ops.specs.Seen.{queues_in}
use Rattle.queue_ops.proofs.Answers.{plain_through}
use Rattle.queue_ops.proofs.Seeks.{Named, row_known, row_unknown, copies_le}
use Rattle.queue_ops.proofs.DeleteCases.{delete_blank, delete_unknown, delete_done}
use Rattle.queue_ops.proofs.delete.delete.Goals as goal
use Rattle.queue_ops.proofs.delete.delete.Goals.{In-Some}

named : (c : In-Some) → Named (queues_in c.new-table.result) c.args.name c.in-Some.row
named c = row_known (queues_in c.new-table.result) c.args.name c.row_of.result c.row_of.ensures.exact c.in-Some.row c.in-Some.is

-- the row is one of those that are counted
counted : (c : In-Some) → let t = c.new-table.result in c.in-Some.row < min (queues_in t).count t.at.rows
counted c =
    let t = c.new-table.result in
    let q = queues_in t in
    omega (arith, (named c).below, length-take q.count q.names, (names_lies t.at t.words.now t.laid).long)

pub returns-then-name-eq-BLANK : goal.returns-then-name-eq-BLANK
returns-then-name-eq-BLANK c =
    let a = c.args in
    let q = view_of a.queues.now (length a.items.now) in
    record { exact = said_plain c.plain.result InvalidRequest 0 q _ c.plain.ensures.exact (delete_blank q a.name c.if-name-eq-BLANK.true) }

pub returns-in_default : goal.returns-in_default
returns-in_default c =
    let a = c.args in
    let t = c.new-table.result in
    let q = queues_in t in
    record {
      exact = plain_through t t a.queues.now _ (length a.items.now) (λ (x : Queues). x) (λ (x : Queues). delete_from x a.name)
          c.new-table.ensures.sized c.new-table.ensures.lent (search rules) refl (search rules) _ refl c.plain-in_default.result UnknownQueue 0
          c.plain-in_default.ensures.exact
          (delete_unknown q a.name c.if-name-eq-BLANK.false (row_unknown q a.name c.row_of.result c.row_of.ensures.exact c.in_default.is));
    }

pub overflow_cast-freed : goal.overflow_cast-freed
overflow_cast-freed c =
    let p = c.shut_row.new.self in
    let q = queues_in p in
    let slots : p.at.slots ≡ c.new-table.result.at.slots = ap (λ x. x.slots) c.shut_row.ensures.same.at in
    omega (
      arith,
      c.sweep-freed.ensures.freed,
      copies_le c.args.name (owners q),
      length-take (entries q) q.owner,
      (owner_lies p.at p.words.now p.laid).long,
      slots,
      c.new-table.ensures.sized.few,
    )

pub returns : goal.returns
returns c =
    let a = c.args in
    let t = c.new-table.result in
    let p = c.shut_row.new.self in
    let u = c.sweep-freed.new.self in
    let k = named (goal.at.returns c).In-Some in
    record {
      exact = plain_through t u a.queues.now _ (length a.items.now) (λ (x : Queues). x) (λ (x : Queues). delete_from x a.name)
          c.new-table.ensures.sized c.new-table.ensures.lent (search rules) (c.sweep-freed.ensures.same.at ∙ c.shut_row.ensures.same.at) (search rules) _ refl
          c.plain-2.result Normal c.sweep-freed.result c.plain-2.ensures.exact
          (delete_done (queues_in t) a.name c.if-name-eq-BLANK.false k.known (queues_in p) (queues_in u) c.in-Some.row c.sweep-freed.result k.at
          c.shut_row.ensures.left c.sweep-freed.ensures.left c.sweep-freed.ensures.freed);
    }
