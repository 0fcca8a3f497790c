-- `queue_ops::table::Table::give` meets its contract. Assumes nothing.
use Rattle.std.proofs.Common.{◌≡◌, ℕ, ◌+◌, ◌-◌, ◌*◌, take, drop, arith, ap}
use Rattle.words.specs.declared.said.Condition.TheVariants.{InvalidRequest, UnknownQueue, NoSuchItem}
use Rattle.words.specs.Laws.Said.{said_plain}
use Rattle.queue_ops.specs.Seen.{queues_in}
use Rattle.queue_ops.proofs.Seeks.{Named, Lying, row_known, row_unknown, slot_known, slot_unknown}
use Rattle.queue_ops.proofs.ReadCases.{read_blank, read_unknown, read_none, Lasts, lasts, given}
use Rattle.queue_ops.proofs.table.Table.give.Goals as goal
use Rattle.queue_ops.proofs.table.Table.give.Goals.{In-Some, In-Some-slot_at}

named : (c : In-Some) → Named (queues_in c.args.self.now) c.args.asked.name c.in-Some.row
named c = row_known (queues_in c.args.self.now) c.args.asked.name c.args.asked.row c.requires.row c.in-Some.row c.in-Some.is

there : (c : In-Some-slot_at) → Lying (queues_in c.args.self.now) c.args.asked.name c.args.asked.place c.in-Some-slot_at.s
there c =
    let a = c.args in
    slot_known (queues_in a.self.now) a.asked.name a.asked.place c.slot_at.result c.slot_at.ensures.exact c.in-Some-slot_at.s c.in-Some-slot_at.is

-- where a slot is found
here : (c : In-Some-slot_at) →
    let a = c.args in
    Lasts a.self.now.at a.self.now.words.now a.items.now c.in-Some-slot_at.s
here c =
    let a = c.args in
    let t = a.self.now in
    lasts t.at t.words.now a.items.now a.asked.name c.in-Some.row a.asked.place a.room c.in-Some-slot_at.s t.laid c.requires.lent
    (row_known (queues_in t) a.asked.name a.asked.row c.requires.row c.in-Some.row c.in-Some.is) (there c)

pub returns-then-name-eq-BLANK-clause-exact : goal.returns-then-name-eq-BLANK-clause-exact
returns-then-name-eq-BLANK-clause-exact c =
    let a = c.args in
    let q = queues_in a.self.now in
    said_plain c.plain.result InvalidRequest 0 q _ c.plain.ensures.exact
    (read_blank q a.items.now a.asked.name a.asked.place a.room c.if-name-eq-BLANK.true) a.body.now

pub returns-in_default-clause-exact : goal.returns-in_default-clause-exact
returns-in_default-clause-exact c =
    let a = c.args in
    let q = queues_in a.self.now in
    said_plain c.plain-in_default.result UnknownQueue 0 q _ c.plain-in_default.ensures.exact
    (read_unknown q a.items.now a.asked.name a.asked.place a.room c.if-name-eq-BLANK.false
    (row_unknown q a.asked.name a.asked.row c.requires.row c.in_default.is)) a.body.now

pub returns-in_default-slot_at-clause-exact : goal.returns-in_default-slot_at-clause-exact
returns-in_default-slot_at-clause-exact c =
    let a = c.args in
    let q = queues_in a.self.now in
    said_plain c.plain-in_default-slot_at.result NoSuchItem 0 q _ c.plain-in_default-slot_at.ensures.exact
    (read_none q a.items.now a.asked.name a.asked.place a.room c.if-name-eq-BLANK.false
    (named (goal.at.returns-in_default-slot_at-clause-exact c).In-Some).known
    (slot_unknown q a.asked.name a.asked.place c.slot_at.result c.slot_at.ensures.exact c.in_default-slot_at.is)) a.body.now

pub overflow_add-at : goal.overflow_add-at
overflow_add-at c =
    let h = here (goal.at.overflow_add-at c).In-Some-slot_at in omega (arith, h.short, h.ends, c.min-len.ensures)

pub slice_bounds-lay-end : goal.slice_bounds-lay-end
slice_bounds-lay-end c =
    let h = here (goal.at.slice_bounds-lay-end c).In-Some-slot_at in omega (arith, h.short, h.ends, c.min-len.ensures)

pub overflow_cast-result : goal.overflow_cast-result
overflow_cast-result c = omega (arith, (here (goal.at.overflow_cast-result c).In-Some-slot_at).short)

pub invariant_of-result : goal.invariant_of-result
invariant_of-result c = record { short = omega (arith, (here (goal.at.invariant_of-result c).In-Some-slot_at).short, c.min-len.ensures) }

pub returns-clause-exact : goal.returns-clause-exact
returns-clause-exact c =
    let a = c.args in
    let t = a.self.now in
    let at : ℕ = c.in-Some-slot_at.s * 64 in
    let k : at + c.min-len.result - at ≡ c.min-len.result = omega arith in
    given t.at t.words.now a.items.now a.asked.name c.in-Some.row a.asked.place a.room c.in-Some-slot_at.s t.laid c.requires.lent
    (named (goal.at.returns-clause-exact c).In-Some) (there (goal.at.returns-clause-exact c).In-Some-slot_at)
    c.if-name-eq-BLANK.false c.min-len.result c.of_cut.result
    (omega (arith, (here (goal.at.returns-clause-exact c).In-Some-slot_at).short, c.min-len.ensures)) (take (at + c.min-len.result - at) (drop at a.items.now)) _ a.body.now c.min-len.ensures c.of_cut.ensures.exact
    (ap (λ (j : ℕ). take j (drop at a.items.now)) k) c.lay.ensures.exact
