-- `queue_ops::table::Table::into_slot` meets its contract. Assumes nothing.
use Rattle.model.specs.Plans.{done}
use Rattle.std.proofs.Common.{◌≡◌, ℕ, ◌+◌, length, min, arith, rules, sym, ap, ap₂, ◌∙◌, subst}
use Rattle.base.specs.Lists.{copies}
use Rattle.slots.specs.Bits.{held, free_for, marked}
use Rattle.slots.specs.Told.{Typed, Free}
use Rattle.slots.specs.declared.Used.{Used}
use Rattle.words.specs.declared.said.Condition.TheVariants.{Normal, NoSpace}
use Rattle.words.specs.Laws.Said.{said_plain}
use Rattle.queue_rows.specs.Table.{entries, owners, store}
use Rattle.queue_ops.specs.Entry.{entered}
use Rattle.queue_ops.specs.Seen.{queues_in}
use Rattle.queue_ops.proofs.AppendCases.{Within, within, slot_none, slot_taken}
use Rattle.queue_ops.proofs.table.Table.into_slot.Goals as goal
use Rattle.queue_ops.proofs.table.Table.into_slot.Goals.{After-free_slot, After-items_of-place}

-- the slot that is free, by what the words say
free : (c : After-free_slot) →
    let t = c.args.self.now in
    c.free_slot.result ≡ free_for (min c.args.may t.at.slots) (queues_in t).used
free c = c.free_slot.ensures.exact ∙ ap₂ free_for c.min.ensures c.used-u.ensures.exact

-- what the stores ask; the occupancy is two words
fits : (c : After-items_of-place) →
    let q = queues_in c.args.self.now in
    Within (entries q) c.in-Some.k (copies c.args.name (owners q)) c.args.self.now.at.slots
fits c =
    let a = c.args in
    let t = a.self.now in
    let k : ℕ = c.in-Some.k in
    let typed : Typed c.used-u.result = record { low = search rules; high = search rules } in
    within t.at t.words.now t.laid a.may c.min.result a.name k (subst (λ (x : Used). Typed x) c.used-u.ensures.exact typed)
    (subst (λ (x : Used). Free c.min.result x k) c.used-u.ensures.exact (c.free_slot.ensures.found.some k c.in-Some.is))
    (sym (c.free_slot.ensures.exact ∙ ap₂ free_for c.min.ensures c.used-u.ensures.exact) ∙ c.in-Some.is)

pub returns-in_default-clause-exact : goal.returns-in_default-clause-exact
returns-in_default-clause-exact c =
    let a = c.args in
    let q = queues_in a.self.now in
    said_plain c.plain.result NoSpace 0 (store q a.items.now) _ c.plain.ensures.exact
    (slot_none q a.items.now a.name a.item.now _ (sym (free (goal.at.returns-in_default-clause-exact c).After-free_slot) ∙ c.in_default.is))

pub overflow_add-place : goal.overflow_add-place
overflow_add-place c = omega (arith, (fits c).few, c.items_of-place.ensures)

pub enter-requires : goal.enter-requires
enter-requires c =
    let w = fits (goal.at.enter-requires c).After-items_of-place in
    let e : c.count.result ≡ entries (queues_in c.args.self.now) = c.count.ensures.exact ∙ ap (λ (x : Used). held x) c.used-u.ensures.exact in
    (omega (arith, w.entry, e), w.slot)

pub overflow_mul-k : goal.overflow_mul-k
overflow_mul-k c = omega (arith, (fits (goal.at.overflow_mul-k c).After-items_of-place).below)

pub overflow_cast-place : goal.overflow_cast-place
overflow_cast-place c = omega (arith, (fits (goal.at.overflow_cast-place c).After-items_of-place).few, c.items_of-place.ensures)

pub returns-clause-exact : goal.returns-clause-exact
returns-clause-exact c =
    let a = c.args in
    let q = queues_in a.self.now in
    let e : c.count.result ≡ entries q = c.count.ensures.exact ∙ ap (λ (x : Used). held x) c.used-u.ensures.exact in
    let v : c.mark.result ≡ marked q.used c.in-Some.k = c.mark.ensures.exact ∙ ap (λ (x : Used). marked x c.in-Some.k) c.used-u.ensures.exact in
    said_plain c.plain-2.result Normal (c.items_of-place.result + 1) (store (queues_in c.enter.new.self) c.store.new.d) _ c.plain-2.ensures.exact
    (ap (λ (n : ℕ). done (store (queues_in c.enter.new.self) c.store.new.d) (n + 1)) c.items_of-place.ensures
    ∙ slot_taken q a.items.now a.name a.item.now _ c.in-Some.k c.mark.result _ _
    (sym (free (goal.at.returns-clause-exact c).After-free_slot) ∙ c.in-Some.is) v
    (c.enter.ensures.left ∙ ap (λ (n : ℕ). entered q c.mark.result n a.name c.in-Some.k (length a.item.now)) e) c.store.ensures.exact)
