-- The slot at a place of a queue's slots. Assumes nothing.
use Rattle.std.specs.Prelude.{◌≡◌, false, ◌||◌, List, ℕ, ◌-◌, ◌<◌, ◌≤◌, eqb, ltb, get_or}
use Rattle.std.proofs.Math.Bool.{true}
use Rattle.std.proofs.Common.{arith}
use Rattle.std.proofs.Math.Dec.{leb}
use Rattle.std.proofs.Math.ListN.{length, get_or-eq_default}
use borrow.Author.Tests.{eqb-false, ltb-true, ltb-false, le-ltb, lt-leb, leb-true, le-leb}
use Rattle.base.specs.Lists.{all}
use Rattle.base.specs.Laws.Tests.{by_test, both}
use Rattle.base.specs.Laws.Keep.{all_get_d}
use Rattle.queue_rows.specs.Place.{has_item, slot_at}

-- where a slot is found, the place is one of the queue's, and the slot is the one there
pub record At (len ss : List ℕ) (p : ℕ) : Type 0 where
  pub from : 1 ≤ p
  pub to : p ≤ length ss
  pub is : slot_at len ss p ≡ get_or ss (p - 1) (length len)
  pub short : get_or len (slot_at len ss p) 0 ≤ 64

module _ (len ss : List ℕ) (p : ℕ) where
  abbrev slot : ℕ
  slot = get_or ss (p - 1) (length len)

  slot_in_lem : slot < length len → p - 1 < length ss
  slot_in_lem h =
      by_test (ltb (p - 1) (length ss)) (ltb-true (p - 1) (length ss))
      (λ e.
      let z : slot ≡ length len = get_or-eq_default ss (length len) (ltb-false (p - 1) (length ss) e) in
      absurd (omega arith))

  found : eqb p 0 ≡ false → has_item len slot ≡ true → slot_at len ss p ≡ slot → At len ss p
  found e f is =
      let h = both (ltb slot (length len)) (leb (get_or len slot 0) 64) f in
      let d : p ≡ 0 → ⊥ = eqb-false p 0 e in
      let b = slot_in_lem (ltb-true slot (length len) h.0) in
      let some : 1 ≤ p = omega arith in
      record { from = some; to = omega arith; is = is; short = rw is (leb-true (get_or len slot 0) 64 h.1) }

  pub at_found : slot_at len ss p < length len → At len ss p
  unfolding slot_at
  at_found h =
      by_test (eqb p 0) (λ e. let g : length len < length len = rw e at h in absurd (omega arith))
      (λ e.
      by_test (has_item len slot) (λ f. found e f (rw (e, f)))
      (λ f. let g : length len < length len = rw (e, f) at h in absurd (omega arith)))

  -- where every slot has an item, a place has none exactly if it is not the queue's
  pub at_none : all (has_item len) ss ≡ true → leb (length len) (slot_at len ss p) ≡ (eqb p 0 || ltb (length ss) p)
  unfolding slot_at
  at_none h =
      let none : leb (length len) (length len) ≡ true = le-leb (length len) (length len) (omega arith) in
      by_test (eqb p 0) (λ e. rw e none)
      (λ e.
      let d : p ≡ 0 → ⊥ = eqb-false p 0 e in
      by_test (ltb (length ss) p)
      (λ f.
      let past : length ss ≤ p - 1 = omega (arith, ltb-true (length ss) p f) in
      rw (e, f, get_or-eq_default ss (length len) past, le-ltb (length len) (length len) (omega arith)) none)
      (λ f.
      let l : p ≤ length ss = ltb-false (length ss) p f in
      let g : has_item len slot ≡ true = all_get_d (has_item len) ss (p - 1) (length len) h (omega arith) in
      rw (e, f, g) (lt-leb (length len) slot (ltb-true slot (length len) (both (ltb slot (length len)) (leb (get_or len slot 0) 64) g).0))))
