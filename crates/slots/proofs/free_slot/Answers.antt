-- `slots::free_slot` meets its contract. Assumes nothing.
use Rattle.std.proofs.Common.{◌≡◌, ◌≤◌, ◌⊎◌, Some, None, sym, ap, ◌∙◌, inl, inr, arith, rules, ltb, ltb-true, ltb-false}
use Rattle.base.specs.Laws.Tests.{by_test}
use Rattle.slots.specs.Bits.{free_for, held}
use Rattle.slots.specs.Told.{Typed}
use Rattle.slots.proofs.Laws.Free.{free_some, free_none, found}
use Rattle.slots.proofs.free_slot.Goals as goal

pub returns-then-n-min : goal.returns-then-n-min
returns-then-n-min c =
    let a = c.args in
    let t : Typed a.u = record { low = search rules; high = search rules } in
    let e : Some c.lowest.result ≡ free_for a.may a.u =
    ap Some c.lowest.ensures ∙ sym (free_some a.may a.u (omega arith) (omega arith)) in
    record { exact = e; found = found a.u t a.may (Some c.lowest.result) e }

pub returns-else-n-min : goal.returns-else-n-min
returns-else-n-min c =
    let a = c.args in
    let t : Typed a.u = record { low = search rules; high = search rules } in
    let out : (a.may ≤ held a.u) ⊎ (128 ≤ held a.u) =
    by_test (ltb (held a.u) a.may) (λ s. inr (omega (arith, ltb-true (held a.u) a.may s))) (λ s. inl (ltb-false (held a.u) a.may s)) in
    let e : None ≡ free_for a.may a.u = sym (free_none a.may a.u out) in
    record { exact = e; found = found a.u t a.may None e }
