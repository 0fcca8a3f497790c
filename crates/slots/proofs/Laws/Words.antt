-- Two words as one number: its digits, a digit of it made b, and its lowest clear digit are the one word's or the other's.
-- For words of any width. Assumes nothing.
use Rattle.std.specs.Prelude.{◌≡◌, ℕ, zero, suc, ◌+◌, ◌-◌, ◌*◌, ◌/◌, ◌^◌, ◌≤◌, ◌<◌, ltb}
use Rattle.std.proofs.Common.{sym, ap, ap₂, ◌∙◌, pow-suc, suc-add, add-mul, mul_comm, mul_assoc, sub-add_cancel, arith, pow-add, ltb-true, ltb-false}
use Rattle.std.proofs.Math.Arith.{digits_lt}
use Rattle.std.specs.Int.Bits.{block_half, block_odd}
use Rattle.base.specs.Laws.Tests.{by_test}
use Rattle.slots.specs.Bits.{bit, with_bit}
use Rattle.slots.specs.Laws.Digits.{part_le}
use Rattle.slots.proofs.Laws.Lowest.{Lowest}

pub bit_low : (d a r k : ℕ) → k < d → bit (a * 2 ^ d + r) k ≡ bit r k
unfolding bit
bit_low zero a r k h = absurd (omega arith)
bit_low (suc d) a r zero h = block_odd a d r
bit_low (suc d) a r (suc k) h = rw block_half (bit_low d a (r / 2) k (omega arith))

pub bit_high : (d a r k : ℕ) → r < 2 ^ d → bit (a * 2 ^ d + r) (d + k) ≡ bit a k
unfolding bit
bit_high zero a r k h =
    let x : a * 1 + r ≡ a = omega arith in
    let y : 0 + k ≡ k = omega arith in
    ap₂ bit x y
bit_high (suc d) a r k h =
    ap (bit (a * 2 ^ suc d + r)) (suc-add d k) ∙ ap (λ (x : ℕ). bit x (d + k)) (block_half a d r)
    ∙ bit_high d a (r / 2) k (let p = pow-suc 2 d in omega arith)

pub cat_lt : (d e a r : ℕ) → a < 2 ^ e → r < 2 ^ d → a * 2 ^ d + r < 2 ^ (e + d)
cat_lt d e a r ha hr = rw (pow-add 2 e d) (digits_lt ha hr)

-- a digit of the lower word, and of the upper, made b
pub cat_put_low : (d a r k b : ℕ) → k < d → a * 2 ^ d + with_bit r k b ≡ with_bit (a * 2 ^ d + r) k b
unfolding with_bit
cat_put_low d a r k b h = rw (bit_low d a r k h) (omega (arith, part_le r k))

shifted : (x d k : ℕ) → x * 2 ^ (d + k) ≡ x * 2 ^ k * 2 ^ d
shifted x d k = ap (λ (y : ℕ). x * y) (pow-add 2 d k ∙ mul_comm (2 ^ d) (2 ^ k)) ∙ sym (mul_assoc x (2 ^ k) (2 ^ d))

pub cat_put_high : (d a r k b : ℕ) → r < 2 ^ d → with_bit a k b * 2 ^ d + r ≡ with_bit (a * 2 ^ d + r) (d + k) b
unfolding with_bit
cat_put_high d a r k b h =
    let x = bit a k * 2 ^ k in
    let y = b * 2 ^ k in
    let z : (a - x) * 2 ^ d + x * 2 ^ d ≡ a * 2 ^ d =
    sym (add-mul (a - x) x (2 ^ d)) ∙ ap (λ (v : ℕ). v * 2 ^ d) (sub-add_cancel (part_le a k)) in
    rw (bit_high d a r k h) (omega (arith, add-mul (a - x) y (2 ^ d), shifted (bit a k) d k, shifted b d k))

-- the lowest clear digit is the lower word's, or the upper's where the lower is full
pub cat_lowest_low : (d e a r k : ℕ) → Lowest r d k → k < d → Lowest (a * 2 ^ d + r) (d + e) k
cat_lowest_low d e a r k o h =
    record {
      within = omega arith;
      below = λ j l. bit_low d a r j (omega arith) ∙ o.below j l;
      at = λ _. bit_low d a r k h ∙ o.at h;
    }

pub cat_lowest_high : (d e a r k : ℕ) → r < 2 ^ d → Lowest r d d → Lowest a e k → Lowest (a * 2 ^ d + r) (d + e) (d + k)
cat_lowest_high d e a r k hr full o =
    record {
      within = omega (arith, o.within);
      below = λ j l. by_test (ltb j d) (λ t. bit_low d a r j (ltb-true j d t) ∙ full.below j (ltb-true j d t)) (λ t. high j l (ltb-false j d t));
      at = λ l. bit_high d a r k hr ∙ o.at (omega arith);
    }
  where
    high : (j : ℕ) → j < d + k → d ≤ j → bit (a * 2 ^ d + r) j ≡ 1
    high j l m =
        let e : d + (j - d) ≡ j = omega arith in
        ap (bit (a * 2 ^ d + r)) (sym e) ∙ bit_high d a r (j - d) hr ∙ o.below (j - d) (omega arith)
