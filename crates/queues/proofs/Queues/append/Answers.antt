-- `Queues::append` meets its contract. Assumes nothing.
use Rattle.std.specs.Prelude.{◌≡◌, ◌+◌, ◌*◌, ◌≤◌, List, ℕ, length, leb, Ok}
use Rattle.std.proofs.Common.{sym, ap, ◌∙◌, arith, rules, leb-true}
use Rattle.std.proofs.lemmas.Result.{err_from_is_err_and}
use Rattle.base.specs.Lists.{copies}
use Rattle.base.specs.Laws.Tests.{and_r}
use Rattle.base.specs.Laws.Stored.{stored_fits}
use Rattle.slots.specs.Told.{Free}
use Rattle.queues.specs.declared.Queues.{Queues}
use Rattle.queues.specs.Table.{owners}
use Rattle.queues.specs.Append.{with_queue, put, stored, answer}
use Rattle.queues.proofs.AppendCases.{Clear, checked_clear, row_old, row_new, append_fault, append_no_slot, append_stored}
use Rattle.queues.proofs.Queues.append.Goals as goal
use Rattle.queues.proofs.Queues.append.Goals.{In_ok-row, Joined-row-self, In-Some, then-row-self, else-row-self}

-- no check holds, and the row is below 16
clear : (c : In_ok-row) → Clear c.args.self.now c.args.name (length c.args.item.now) c.in_ok-row.row
clear c = checked_clear c.args.self.now _ _ _ (search rules) (sym c.checked.ensures.is ∙ c.in_ok-row.was)

-- the struct in which the name has a row
joined : (c : Joined-row-self) → Clear c.args.self.now c.args.name (length c.args.item.now) c.in_ok-row.row
    → c.if-row-self.self ≡ with_queue c.args.self.now c.args.name
joined c l =
    elim c.if-row-self.branch [
      | then-row-self w ↦ w.self-is ∙ row_new _ _ _ _ l w.if-row-self.true
      | else-row-self w ↦ w.self-is ∙ row_old _ _ _ _ l w.if-row-self.false
    ]

pub returns-in_err-row : goal.returns-in_err-row
returns-in_err-row c =
    let a = c.args in
    let p = err_from_is_err_and c.from_residual.result c.from_residual.ensures.1 in
    rw (p.1, p.2) (append_fault a.self.now a.items.now a.may a.name a.item.now _ (sym c.checked.ensures.is ∙ c.in_err-row.was))

pub returns-in_default : goal.returns-in_default
returns-in_default c =
    let a = c.args in
    let p = goal.at.returns-in_default c in
    let l = clear p.In_ok-row in
    append_no_slot a.self.now a.items.now a.may a.name a.item.now c.in_ok-row.row l c.if-row-self.self (joined p.Joined-row-self l)
    (sym c.free_slot.ensures.exact ∙ c.in_default.is)

-- the slot that is free
free : (c : In-Some) → Free c.args.may c.if-row-self.self.used c.in-Some.k
free c = c.free_slot.ensures.found.some c.in-Some.k c.in-Some.is

short : (c : In_ok-row) → length c.args.item.now ≤ 64
short c = leb-true (length c.args.item.now) 64 (and_r (leb 1 (length c.args.item.now)) _ (clear c).fits)

pub put-place-requires : goal.put-place-requires
put-place-requires c =
    let p = goal.at.put-place-requires c in
    let f = free p.In-Some in
    (f.room, short p.In_ok-row, f.below)

pub overflow_mul-k : goal.overflow_mul-k
overflow_mul-k c = let f = free (goal.at.overflow_mul-k c).In-Some in omega (arith, f.below)

pub returns : goal.returns
unfolding stored
returns c =
    let a = c.args in
    let p = goal.at.returns c in
    let l = clear p.In_ok-row in
    let f = free p.In-Some in
    let x = c.if-row-self.self in
    let e = c.store.ensures.exact ∙ stored_fits a.items.now (c.in-Some.k * 64) a.item.now (omega (arith, f.below, short p.In_ok-row, c.told-items)) in
    ap (λ (y : Queues). answer y c.store.new.d (Ok c.put-place.result)) c.put-place.ensures.entry
    ∙ ap (λ (k : ℕ). answer (put x a.name (length a.item.now) c.in-Some.k) c.store.new.d (Ok k)) c.put-place.ensures.place
    ∙ ap (λ (b : List ℕ). answer (put x a.name (length a.item.now) c.in-Some.k) b (Ok (copies a.name (owners x) + 1))) e
    ∙ append_stored a.self.now a.items.now a.may a.name a.item.now c.in_ok-row.row l x (joined p.Joined-row-self l) c.in-Some.k
    (sym c.free_slot.ensures.exact ∙ c.in-Some.is)
