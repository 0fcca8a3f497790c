-- What the machine's operations on a word of 64 digits are in terms of its digits: the test of a bit, a bit set, a bit cleared, and
-- the trailing ones, which end at the lowest clear digit. Assumes nothing.
use Rattle.std.proofs.Common.{◌≡◌, ℕ, zero, suc, ◌+◌, ◌-◌, ◌*◌, ◌/◌, ◌%◌, ◌^◌, ◌≤◌, ◌<◌, eqb, bit_and, bit_or, sym, ap, ◌∙◌, subst, arith, lt_of_le_of_lt, lit≤, mod-lt, w64, eqb-true, ltb, ltb-true, ltb-false}
use lib.Count.{count_trailing_zeros}
use Rattle.std.specs.Int.{bit_at, bit_not, trailing_ones}
use Rattle.std.proofs.lemmas.Bool.{eqb-false}
use Rattle.std.proofs.lemmas.Nat.{and_le_l, or_lt, pow_pos}
use Rattle.std.proofs.lemmas.Nat.Bits.{bit_at_lowest, bit_at-suc, shr_and_one, bit_at_set_same, bit_at_set_other, bit_at_clear_same, bit_at_clear_other, same_from_bits_below, bit_at_ones, bit_at-trailing_ones}
use Rattle.base.specs.Choice.{pick}
use Rattle.base.specs.Laws.Tests.{by_test}
use Rattle.slots.specs.Bits.{bit, with_bit, number, lowest_clear}
use Rattle.slots.specs.Told.{Typed}
use Rattle.slots.specs.Laws.Digits.{bit_put, put_lt}
use Rattle.slots.proofs.Laws.Lowest.{Lowest, lowest_one}
use Rattle.slots.proofs.Laws.Words.{cat_lowest_low, cat_lowest_high}
use Rattle.slots.specs.declared.Used.{Used}

-- a digit is the library's bit
pub bit_is : (w k : ℕ) → bit_at w k ≡ bit w k
unfolding bit
bit_is w zero = bit_at_lowest w
bit_is w (suc k) = bit_at-suc w k ∙ bit_is (w / 2) k

pub tested : (w k : ℕ) → bit_and (w / 2 ^ k) 1 ≡ bit w k
tested w k = shr_and_one w k ∙ bit_is w k

-- ---- a digit set, and cleared

module _ (w k : ℕ) (h : w < 2 ^ 64) (l : k < 64) where
  put_at : (b i : ℕ) → b ≤ 1 → bit_at (with_bit w k b) i ≡ pick (eqb i k) b (bit_at w i)
  put_at b i s = bit_is (with_bit w k b) i ∙ bit_put w k b i s ∙ ap (pick (eqb i k) b) (sym (bit_is w i))

  -- a number whose digit k is b and whose others are those of w
  made : (r b : ℕ) → b ≤ 1 → bit_at r k ≡ b → ((i : ℕ) → i < 64 → (i ≡ k → ⊥) → bit_at r i ≡ bit_at w i) → r < 2 ^ 64 → r ≡ with_bit w k b
  made r b s same other q =
      same_from_bits_below 64 r (with_bit w k b) q (put_lt 64 w k b h l s)
      (λ i m.
      by_test (eqb i k)
      (λ e. rw (put_at b i s, e) (subst (λ (j : ℕ). bit_at r j ≡ b) (sym (eqb-true i k e)) same))
      (λ e. rw (put_at b i s, e) (other i m (eqb-false i k e))))

  pub set_is : bit_or w (1 * 2 ^ k % 2 ^ 64) ≡ with_bit w k 1
  set_is =
      made _ 1 (omega arith) (bit_at_set_same w64 w k l) (λ i m n. bit_at_set_other w64 w k l i n)
      (or_lt 64 w (1 * 2 ^ k % 2 ^ 64) h (mod-lt (1 * 2 ^ k) (pow_pos 64)))

  pub cleared_is : bit_and w (bit_not w64 (1 * 2 ^ k % 2 ^ 64)) ≡ with_bit w k 0
  cleared_is =
      made _ 0 (omega arith) (bit_at_clear_same w64 w k l) (λ i m n. bit_at_clear_other w64 w k l i m n)
      (lt_of_le_of_lt (and_le_l w (bit_not w64 (1 * 2 ^ k % 2 ^ 64))) h)

-- ---- the lowest clear digit

all_set : Lowest (2 ^ 64 - 1) 64 (trailing_ones w64 (2 ^ 64 - 1))
unfolding count_trailing_zeros
all_set = record { within = lit≤ tt; below = λ j l. sym (bit_is (2 ^ 64 - 1) j) ∙ bit_at_ones 64 j l; at = λ l. absurd (omega arith) }

pub trailing_lowest : (w : ℕ) → w < 2 ^ 64 → Lowest w 64 (trailing_ones w64 w)
trailing_lowest w h =
    by_test (ltb (w + 1) (2 ^ 64))
    (λ t.
    let ends = bit_at-trailing_ones w64 w (ltb-true (w + 1) (2 ^ 64) t) in
    record { within = omega arith; below = λ j l. sym (bit_is w j) ∙ ends.2 j l; at = λ l. sym (bit_is w (trailing_ones w64 w)) ∙ ends.1 })
    (λ t. let e : 2 ^ 64 - 1 ≡ w = omega (arith, ltb-false (w + 1) (2 ^ 64) t) in subst (λ (x : ℕ). Lowest x 64 (trailing_ones w64 x)) e all_set)

-- ---- of the two words: the lower's, or the upper's where the lower has none

module _ (u : Used) (t : Typed u) where
  abbrev low : ℕ
  low = trailing_ones w64 u.lo

  abbrev high : ℕ
  high = trailing_ones w64 u.hi

  pub lowest_low : low < 64 → low ≡ lowest_clear (number u) 128
  lowest_low h = lowest_one (number u) 128 low (cat_lowest_low 64 64 u.hi u.lo low (trailing_lowest u.lo t.low) h)

  pub lowest_high : 64 ≤ low → 64 + high ≡ lowest_clear (number u) 128
  lowest_high h =
      let is = trailing_lowest u.lo t.low in
      let e : low ≡ 64 = omega (arith, is.within) in
      let full : Lowest u.lo 64 64 = subst (λ (x : ℕ). Lowest u.lo 64 x) e is in
      lowest_one (number u) 128 (64 + high) (cat_lowest_high 64 64 u.hi u.lo high t.low full (trailing_lowest u.hi t.high))
