-- The words after listed slots, each in use and none listed twice, are cleared: those bits alone go, and as many slots are in use fewer.
-- Assumes nothing.
use Rattle.std.specs.Prelude.{◌≡◌, List, [], ◌∷◌, ℕ, ◌+◌, ◌≤◌, eqb, length}
use Rattle.std.proofs.Common.{subst, arith, eqb-true, lt-ltb}
use Rattle.base.specs.Choice.{pick}
use Rattle.base.specs.Lists.{copies}
use Rattle.base.specs.Laws.Tests.{by_test, eqb_same, eqb_sym}
use Rattle.slots.specs.Bits.{bit, number, held, cleared}
use Rattle.slots.specs.Told.{Typed}
use Rattle.slots.proofs.Laws.Slots.{cleared_typed, cleared_bit, cleared_held, bit_slot}
use Rattle.slots.specs.Laws.Digits.{bit_le}
use Rattle.slots.specs.declared.Used.{Used}
use Rattle.queues.specs.Delete.{clear_all}

pub record Cleared (u v : Used) (l : List ℕ) : Type 0 where
  pub typed : Typed v
  pub bits : (t : ℕ) → bit (number v) t + copies t l ≡ bit (number u) t
  pub fewer : held v + length l ≡ held u

-- one slot
one_bit : (u : Used) (s t : ℕ) → Typed u → bit (number u) s ≡ 1 → bit (number (cleared u s)) t + pick (eqb s t) 1 0 ≡ bit (number u) t
one_bit u s t w b =
    let c = cleared_bit u w s t in
    by_test (eqb s t)
    (λ e.
    let f : bit (number u) t ≡ 1 = subst (λ (k : ℕ). bit (number u) k ≡ 1) (eqb-true s t e) b in
    let g = rw (eqb_sym t s, e, lt-ltb s 128 (bit_slot u w s b)) at c in
    rw e (omega arith))
    (λ e.
    let g = rw (eqb_sym t s, e) at c in
    rw e (omega arith))

pub clear_all_lem : (l : List ℕ) (u : Used) → Typed u → ((t : ℕ) → copies t l ≤ bit (number u) t) → Cleared u (clear_all u l) l
clear_all_lem [] u w h = record { typed = w; bits = λ t. omega arith; fewer = omega arith }
clear_all_lem (s ∷ l) u w h =
    let one : 1 + copies s l ≤ bit (number u) s = rw (eqb_same s) at (h s) in
    let b : bit (number u) s ≡ 1 = omega (arith, bit_le (number u) s) in
    let r = clear_all_lem l (cleared u s) (cleared_typed u w s) (λ t. omega (arith, h t, one_bit u s t w b)) in
    record {
      typed = r.typed;
      bits = λ t. omega (arith, r.bits t, one_bit u s t w b);
      fewer = omega (arith, r.fewer, cleared_held u w s b);
    }
