-- The free slot that is found is one of those that there are, and no entry's; and what is in use once it is marked. Assumes nothing.
use Rattle.std.specs.Prelude.{◌≡◌, true, false, ◌&&◌, ℕ, zero, suc, ◌/◌, ◌≤◌, ◌<◌, min, eqb, ltb}
use Rattle.std.proofs.Common.{sym, ap, ◌∙◌, suc-le-suc, arith, eqb-true, ne_eqb, lt-ltb}
use Rattle.std.specs.Int.Count.{ones, ones_step}
use Rattle.base.specs.Laws.Tests.{eqb_same, pick_same}
use Rattle.slots.specs.Bits.{bit, number, used_at, free_for, marked}
use Rattle.slots.specs.Told.{Typed}
use Rattle.slots.proofs.Laws.Slots.{used_bit, marked_bit, marked_typed}
use Rattle.slots.proofs.Laws.Free.{free_at}
use Rattle.slots.specs.declared.Used.{Used}
use Rattle.std.specs.Prelude.{Some}
use Rattle.queue_rows.specs.Table.{Queues, slots_in, entries}

-- ---- of any words

-- where the k lowest digits are set, no fewer than k are
ones_least : (w k : ℕ) → ((j : ℕ) → j < k → bit w j ≡ 1) → k ≤ ones w
unfolding bit
ones_least w zero h = omega arith
ones_least w (suc k) h = omega (arith, ones_step w, h zero (omega arith), ones_least (w / 2) k (λ j l. h (suc j) (suc-le-suc l)))

module _ (u : Used) (w : Typed u) where
  used_one : (s : ℕ) → used_at u s ≡ true → bit (number u) s ≡ 1
  used_one s h = eqb-true (bit (number u) s) 1 (sym (used_bit u w s) ∙ h)

  module _ (k : ℕ) where
    pub used_still : (s : ℕ) → used_at u s ≡ true → used_at (marked u k) s ≡ true
    used_still s h =
        used_bit (marked u k) (marked_typed u w k) s
        ∙ rw (marked_bit u w k s, used_one s h, pick_same {A = ℕ} (eqb s k && ltb k 128) 1)

    pub used_now : k < 128 → used_at (marked u k) k ≡ true
    used_now h = used_bit (marked u k) (marked_typed u w k) k ∙ rw (marked_bit u w k k, eqb_same k, lt-ltb k 128 h)

    -- a slot in use is not the free one
    pub used_other : bit (number u) k ≡ 0 → (s : ℕ) → used_at u s ≡ true → eqb s k ≡ false
    used_other z s h =
        ne_eqb s k (λ e. let o : bit (number u) k ≡ 1 = ap (bit (number u)) (sym e) ∙ used_one s h in omega arith)

-- ---- of the slots that there are

-- slot k is one of them, and free, and there is an entry for it
pub record Open (q : Queues) (k : ℕ) : Type 0 where
  pub below : k < slots_in q
  pub clear : bit (number q.used) k ≡ 0
  pub room : entries q < slots_in q

-- as many are in use as stand below the lowest that is free
pub free_open : (q : Queues) → Typed q.used → (may k : ℕ) → free_for (min may (slots_in q)) q.used ≡ Some k → Open q k
free_open q w may k e =
    let fr = free_at q.used w (min may (slots_in q)) k e in
    let share : entries q < slots_in q = omega (arith, fr.share) in
    record { below = omega (arith, ones_least (number q.used) k fr.lowest); clear = fr.clear; room = share }
