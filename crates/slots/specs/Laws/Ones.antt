-- How many of a number's digits are set: after one is made b, where all are alike, and by a list that has each set digit once.
-- For numbers of any width. Assumes nothing.
use Rattle.std.specs.Prelude.{◌≡◌, refl, false, List, [], ◌∷◌, ℕ, zero, suc, ◌+◌, ◌*◌, ◌/◌, ◌^◌, ◌≤◌, ◌<◌, eqb, length}
use Rattle.std.proofs.Common.{sym, ap, ◌∙◌, suc-le-suc, pow-suc, suc-mul, arith, eqb-true}
use Rattle.std.specs.Int.Count.{ones, ones_step}
use Rattle.base.specs.Lists.{copies}
use Rattle.base.specs.Laws.Tests.{by_test, eqb_same, eqb_sym}
use Rattle.slots.specs.Bits.{bit, with_bit}
use Rattle.slots.specs.Laws.Digits.{bit_le, put_half, put_low, put_same, bit_put, first_half, put_clear_lt}

pub ones_zero : ones 0 ≡ 0
unfolding ones
ones_zero = refl

pub ones_put : (w k b : ℕ) → b ≤ 1 → ones (with_bit w k b) + bit w k ≡ ones w + b
unfolding bit
ones_put w zero b h =
    omega (
      arith,
      ones_step w,
      ones_step (with_bit w zero b),
      ap ones (first_half w b h),
      put_same w zero b h,
    )
ones_put w (suc k) b h =
    omega (
      arith,
      ones_step w,
      ones_step (with_bit w (suc k) b),
      ap ones (put_half w k b),
      put_low w k b,
      ones_put (w / 2) k b h,
    )

-- where all d digits are alike
pub ones_all : (d w b : ℕ) → w < 2 ^ d → ((j : ℕ) → j < d → bit w j ≡ b) → ones w ≡ d * b
unfolding bit
ones_all zero w b hw h = let e : w ≡ 0 = omega arith in ap ones e ∙ ones_zero ∙ omega arith
ones_all (suc d) w b hw h =
    let p = pow-suc 2 d in
    let r : w / 2 < 2 ^ d = omega arith in
    omega (arith, suc-mul d b, ones_step w, h zero (omega arith), ones_all d (w / 2) b r (λ j l. h (suc j) (suc-le-suc l)))

-- a list that has each set digit once, and nothing else, is as long as there are set digits
module _ (w k : ℕ) (l : List ℕ) (h : (j : ℕ) → copies j (k ∷ l) ≡ bit w j) where
  listed_here : 1 + copies k l ≡ bit w k
  listed_here = rw (eqb_same k) at (h k)

  -- without k the list has the digits of w with digit k clear
  listed_rest : (j : ℕ) → copies j l ≡ bit (with_bit w k 0) j
  listed_rest j =
      let b = bit_put w k 0 j (omega arith) in
      by_test (eqb j k)
      (λ e.
      let z : copies k l ≡ 0 = omega (arith, listed_here, bit_le w k) in
      ap (λ (x : ℕ). copies x l) (eqb-true j k e) ∙ z ∙ sym (rw e at b))
      (λ e.
      let f : eqb k j ≡ false = eqb_sym k j ∙ e in
      let g = rw f at (h j) in
      omega (arith, rw e at b))

pub length_ones : (d w : ℕ) (l : List ℕ) → w < 2 ^ d → ((j : ℕ) → copies j l ≡ bit w j) → length l ≡ ones w
length_ones d w [] hw h = omega (arith, ones_all d w 0 hw (λ j _. sym (h j)))
length_ones d w (k ∷ l) hw h =
    let here = listed_here w k l h in
    let o : bit w k ≡ 1 = omega (arith, bit_le w k) in
    let less : with_bit w k 0 < 2 ^ d = put_clear_lt d w k hw in
    omega (arith, ones_put w k 0 (omega arith), length_ones d (with_bit w k 0) l less (listed_rest w k l h))
