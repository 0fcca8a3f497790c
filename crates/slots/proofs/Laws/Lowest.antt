-- The lowest clear digit: what is true of it, that nothing else is it, and that there is one where not all digits are set.
-- For numbers of any width. Assumes nothing.
use Rattle.std.specs.Prelude.{◌≡◌, false, ℕ, zero, suc, ◌+◌, ◌^◌, ◌≤◌, ◌<◌, eqb, ltb}
use Rattle.std.proofs.Common.{ap, ◌∙◌, arith, ltb-true, ltb-false, eqb-true}
use Rattle.std.specs.Int.Count.{ones}
use Rattle.std.proofs.lemmas.Bool.{eqb-false}
use Rattle.base.specs.Laws.Tests.{by_test}
use Rattle.slots.specs.Bits.{bit, clear_from, lowest_clear}
use Rattle.slots.specs.Laws.Digits.{bit_le}
use Rattle.slots.specs.Laws.Ones.{ones_all}

-- r is the lowest clear digit of w's d lowest, or d where each is set
pub record Lowest (w d r : ℕ) : Type 0 where
  pub within : r ≤ d
  pub below : (j : ℕ) → j < r → bit w j ≡ 1
  pub at : r < d → bit w r ≡ 0

clear_from_lem : (w d k n : ℕ) → k + n ≡ d → ((j : ℕ) → j < k → bit w j ≡ 1) → Lowest w d (clear_from w k n)
unfolding clear_from
clear_from_lem w d k zero e h = record { within = omega arith; below = h; at = λ l. absurd (omega arith) }
clear_from_lem w d k (suc n) e h =
    by_test (eqb (bit w k) 0) (λ t. rw t (record { within = omega arith; below = h; at = λ _. eqb-true (bit w k) 0 t }))
    (λ t. rw t (clear_from_lem w d (suc k) n (omega arith) (λ j l. upto j l (set t))))
  where
    set : eqb (bit w k) 0 ≡ false → bit w k ≡ 1
    set t = omega (arith, bit_le w k, eqb-false (bit w k) 0 t)

    upto : (j : ℕ) → j < suc k → bit w k ≡ 1 → bit w j ≡ 1
    upto j l s = by_test (ltb j k) (λ t. h j (ltb-true j k t)) (λ t. let q : j ≡ k = omega (arith, ltb-false j k t) in ap (bit w) q ∙ s)

pub lowest_is : (w d : ℕ) → Lowest w d (lowest_clear w d)
unfolding lowest_clear
lowest_is w d = clear_from_lem w d 0 d (omega arith) (λ j l. absurd (omega arith))

-- there is only one
lowest_le : (w d r s : ℕ) → Lowest w d r → Lowest w d s → s < r → ⊥
lowest_le w d r s a b l = omega (arith, a.below s l, b.at (omega arith))

pub lowest_one : (w d r : ℕ) → Lowest w d r → r ≡ lowest_clear w d
lowest_one w d r a =
    let s = lowest_clear w d in
    let b = lowest_is w d in
    by_test (ltb r s) (λ t. absurd (lowest_le w d s r b a (ltb-true r s t)))
    (λ t. by_test (ltb s r) (λ f. absurd (lowest_le w d r s a b (ltb-true s r f))) (λ f. omega (arith, ltb-false r s t, ltb-false s r f)))

-- where not all d are set there is one
pub lowest_room : (w d : ℕ) → w < 2 ^ d → ones w < d → lowest_clear w d < d
lowest_room w d hw h =
    let r = lowest_clear w d in
    let b = lowest_is w d in
    by_test (ltb r d) (ltb-true r d)
    (λ t. absurd (omega (arith, ones_all d w 1 hw (λ j l. b.below j (omega (arith, ltb-false r d t))))))
