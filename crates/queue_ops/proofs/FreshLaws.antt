-- What is seen in words of 0. Assumes nothing.
use mathlib.Core.Path.{◌≡◌, refl, sym, ap, ◌∙◌}
use mathlib.Core.List.{List, ◌∷◌}
use Prim.Native.Nat.{ℕ, zero, suc, ◌+◌, ◌-◌, min}
use native.Mathlib.Omega.{arith}
use lib.ListN.{length, take, drop, get_or, replicate, length-take, length-drop, length-replicate}
use Rattle.queue_rows.specs.Table.{slots_for, rows_for, columns, view_of}
use Rattle.queue_rows.specs.Fresh.{fresh_of}

abbrev pub zeros : ℕ → List ℕ
zeros n = replicate n 0

-- ---- what is seen

take_zeros : (k n : ℕ) → take k (zeros n) ≡ zeros (min k n)
take_zeros zero n = let e : min 0 n ≡ 0 = omega arith in sym (ap zeros e)
take_zeros (suc k) zero = let e : min (suc k) 0 ≡ 0 = omega arith in sym (ap zeros e)
take_zeros (suc k) (suc n) =
    let e : min (suc k) (suc n) ≡ suc (min k n) = omega arith in
    ap (λ (r : List ℕ). 0 ∷ r) (take_zeros k n) ∙ sym (ap zeros e)

drop_zeros : (a n : ℕ) → drop a (zeros n) ≡ zeros (n - a)
drop_zeros zero n = let e : n - 0 ≡ n = omega arith in sym (ap zeros e)
drop_zeros (suc a) zero = let e : 0 - suc a ≡ 0 = omega arith in sym (ap zeros e)
drop_zeros (suc a) (suc n) = let e : suc n - suc a ≡ n - a = omega arith in drop_zeros a n ∙ sym (ap zeros e)

word_zero : (n i : ℕ) → ◌≡◌ {A = ℕ} (get_or (zeros n) i 0) 0
word_zero zero i = refl
word_zero (suc n) zero = refl
word_zero (suc n) (suc i) = word_zero n i

-- a column, and what stands past the columns, as long as in the words before
module _ (w : List ℕ) (a : ℕ) where
  left_zeros : drop a (zeros (length w)) ≡ zeros (length (drop a w))
  left_zeros = drop_zeros a (length w) ∙ ap zeros (sym (length-drop a w))

  part_zeros : (k : ℕ) → take k (drop a (zeros (length w))) ≡ zeros (length (take k (drop a w)))
  part_zeros k =
      ap (take k) left_zeros ∙ take_zeros k (length (drop a w)) ∙ ap zeros (sym (length-take k (drop a w)))

columns_zeros : (Q S : ℕ) (w : List ℕ) → columns Q S (zeros (length w)) ≡ fresh_of (columns Q S w)
unfolding fresh_of
columns_zeros Q S w =
    cc (
      word_zero (length w) 0,
      word_zero (length w) 1,
      word_zero (length w) 2,
      part_zeros w 3 Q,
      part_zeros w (3 + Q) Q,
      part_zeros w (3 + Q + Q) S,
      part_zeros w (3 + Q + Q + S) S,
      part_zeros w (3 + Q + Q + S + S) S,
      left_zeros w (3 + Q + Q + S + S + S),
    )

pub view_zeros : (w : List ℕ) (n : ℕ) → view_of (zeros (length w)) n ≡ fresh_of (view_of w n)
view_zeros w n = rw (length-replicate {A = ℕ} (length w) 0) (columns_zeros (rows_for (length w) (slots_for (length w) n)) (slots_for (length w) n) w)
