-- Laws of a number that a loop reads a byte a turn, and of the arms of a match on a size: base reads the numbers now, and the arms
-- prove by themselves, so nothing cites these. Assumes nothing.
use Rattle.std.specs.Prelude.{◌≡◌, List, ℕ, ◌+◌, ◌*◌, ◌-◌, ◌^◌, ◌<◌, ◌≤◌, min, length, get_or}
use Rattle.std.proofs.Common.{sym, ◌∙◌, pow-suc, zero-lt-suc, lt_of_lt_of_le, add-one, arith}
use Rattle.std.proofs.Math.Path.{ap}
use Rattle.std.proofs.Math.Nat.{pow-le-pow_right}
use Rattle.base.specs.Bytes.{num}
use Rattle.base.specs.Laws.Bytes.{num_suc}
use Rattle.model.specs.Commands.{fits}
use Rattle.records.specs.Laws.{num_min}
use Rattle.records.specs.Rows.{size_of}
use Rattle.records.specs.declared.Extent.{Extent}

-- i bytes of a number are read
pub record Read (at : ℕ) (l : List ℕ) (a i : ℕ) : Type 0 where
  pub exact : a ≡ num at i l
  pub small : a < 256 ^ i

module _ {at : ℕ} {l : List ℕ} {a i : ℕ} (h : Read at l a i) where
  pub read_more : at + i < length l → get_or l (at + i) 0 < 256 → Read at l (a * 256 + get_or l (at + i) 0) (i + 1)
  read_more w b =
      record {
        exact = rw (add-one i, num_suc at i l w, h.exact);
        small = rw (add-one i, pow-suc 256 i) (let s : a < 256 ^ i = h.small in omega arith);
      }

  pub read_below : i < 8 → a < 256 ^ 7
  read_below s =
      let w : i ≤ 7 = omega arith in
      let p : 256 ^ i ≤ 256 ^ 7 = pow-le-pow_right (zero-lt-suc 255) w in
      lt_of_lt_of_le h.small p

  -- all that are asked for, or that are there
  pub read_all : (k : ℕ) → i ≡ min k (length l - at) → (a ≡ num at k l) × (a < 256 ^ k)
  read_all k e =
      let w : i ≤ k = omega arith in
      (h.exact ∙ ap (λ (m : ℕ). num at m l) e ∙ num_min at k l, lt_of_lt_of_le h.small (pow-le-pow_right (zero-lt-suc 255) w))

-- in an arm that knows the answer x to be k
pub by_size : (n : ℕ) {x k : Extent} → x ≡ k → fits (size_of k) n ≡ fits (size_of x) n
by_size n e = ap (λ (z : Extent). fits (size_of z) n) (sym e)
