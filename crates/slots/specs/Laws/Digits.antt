-- A number's digits, and one digit made b: that digit is b and every other is as it was. For numbers of any width. Assumes nothing.
use Rattle.std.specs.Prelude.{◌≡◌, refl, ℕ, zero, suc, ◌*◌, ◌/◌, ◌%◌, ◌^◌, ◌≤◌, ◌<◌, eqb}
use Rattle.std.proofs.Common.{sym, ap, ◌∙◌, subst, pow-suc, mul_assoc, arith, pow_mono, eqb-true}
use Rattle.std.proofs.lemmas.Bool.{eqb-false}
use Rattle.base.specs.Choice.{pick}
use Rattle.base.specs.Laws.Tests.{by_test}
use Rattle.slots.specs.Bits.{bit, with_bit}

-- ---- a digit

pub bit_le : (w k : ℕ) → bit w k ≤ 1
unfolding bit
bit_le w zero = omega arith
bit_le w (suc k) = bit_le (w / 2) k

pub bit_zero : (k : ℕ) → bit 0 k ≡ 0
unfolding bit
bit_zero zero = refl
bit_zero (suc k) = bit_zero k

double : (x k : ℕ) → x * 2 ^ suc k ≡ x * 2 ^ k * 2
double x k = rw (pow-suc 2 k) (sym (mul_assoc x (2 ^ k) 2))

-- what a digit stands for is a part of the number
pub part_le : (w k : ℕ) → bit w k * 2 ^ k ≤ w
unfolding bit
part_le w zero = omega arith
part_le w (suc k) = omega (arith, double (bit (w / 2) k) k, part_le (w / 2) k)

-- a number of d digits has no other
pub bit_past : (d w k : ℕ) → w < 2 ^ d → d ≤ k → bit w k ≡ 0
bit_past d w k h l = go (bit w k) refl
  where
    go : (b : ℕ) → bit w k ≡ b → b ≡ 0
    go zero e = refl
    go (suc b) e =
        let o : bit w k ≡ 1 = omega (arith, bit_le w k) in
        absurd (omega (arith, rw o at (part_le w k), pow_mono l))

-- ---- one digit made b

pub put_half : (w k b : ℕ) → with_bit w (suc k) b / 2 ≡ with_bit (w / 2) k b
unfolding bit with_bit
put_half w k b = omega (arith, double (bit (w / 2) k) k, double b k)

pub put_low : (w k b : ℕ) → with_bit w (suc k) b % 2 ≡ w % 2
unfolding bit with_bit
put_low w k b = omega (arith, double (bit (w / 2) k) k, double b k, part_le (w / 2) k)

pub put_same : (w k b : ℕ) → b ≤ 1 → bit (with_bit w k b) k ≡ b
unfolding bit with_bit
put_same w zero b h = omega arith
put_same w (suc k) b h = ap (λ (x : ℕ). bit x k) (put_half w k b) ∙ put_same (w / 2) k b h

put_other : (w k b j : ℕ) → b ≤ 1 → (j ≡ k → ⊥) → bit (with_bit w k b) j ≡ bit w j
unfolding bit with_bit
put_other w zero b zero h n = absurd (n refl)
put_other w zero b (suc j) h n = ap (λ (x : ℕ). bit x j) (omega arith)
put_other w (suc k) b zero h n = put_low w k b
put_other w (suc k) b (suc j) h n = ap (λ (x : ℕ). bit x j) (put_half w k b) ∙ put_other (w / 2) k b j h (λ e. n (ap suc e))

-- that digit is b and every other is as it was
pub bit_put : (w k b j : ℕ) → b ≤ 1 → bit (with_bit w k b) j ≡ pick (eqb j k) b (bit w j)
bit_put w k b j h =
    by_test (eqb j k) (λ e. rw e (subst (λ (x : ℕ). bit (with_bit w k b) x ≡ b) (sym (eqb-true j k e)) (put_same w k b h)))
    (λ e. rw e (put_other w k b j h (eqb-false j k e)))

-- a digit made what it is
pub put_itself : (w k : ℕ) → with_bit w k (bit w k) ≡ w
unfolding with_bit
put_itself w k = omega (arith, part_le w k)

pub first_half : (w b : ℕ) → b ≤ 1 → with_bit w zero b / 2 ≡ w / 2
unfolding bit with_bit
first_half w b h = omega arith

pub put_lt : (d w k b : ℕ) → w < 2 ^ d → k < d → b ≤ 1 → with_bit w k b < 2 ^ d
put_lt zero w k b hw hk h = absurd (omega arith)
put_lt (suc d) w zero b hw hk h = omega (arith, pow-suc 2 d, first_half w b h)
put_lt (suc d) w (suc k) b hw hk h =
    let p = pow-suc 2 d in
    let r : w / 2 < 2 ^ d = omega arith in
    omega (arith, put_half w k b, put_lt d (w / 2) k b r (omega arith) h)

pub put_clear_lt : (d w k : ℕ) → w < 2 ^ d → with_bit w k 0 < 2 ^ d
unfolding with_bit
put_clear_lt d w k h = omega arith
