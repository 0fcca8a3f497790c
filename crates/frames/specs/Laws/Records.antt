-- The model's `records` one record on: more fuel than bytes changes nothing, and the start value is only handed through.
-- Assumes nothing.
use Rattle.std.specs.Prelude.{◌≡◌, refl, true, false, ◌&&◌, leb, eqb, take}
use Rattle.std.proofs.Math.Path.{ap}
use Rattle.std.proofs.Common.{sym, ◌∙◌, le-leb, leb-true, eq-eqb, ne_eqb}
use mathlib.Core.List.{List, []}
use Prim.Native.Nat.{ℕ, zero, suc, ◌+◌, ◌-◌, ◌≤◌, ◌<◌}
use native.Mathlib.Omega.{arith}
use Rattle.std.proofs.Math.ListN.{length, drop, length-drop}
use Rattle.std.proofs.Math.Seq.{drop-drop}
use Rattle.base.specs.Bytes.{num}
use Rattle.base.specs.Laws.Tests.{by_test, and_l, and_r, and_i, is_false}
use Rattle.model.specs.Lists.{Framed, bad, good, behind, whole, records}
use Rattle.frames.specs.Reading.{next_at, left}

-- ---- a whole record

-- what `whole` says of the record at a place
pub record Whole (l : List ℕ) (at : ℕ) : Type 0 where
  pub two : at + 2 ≤ length l
  pub nine : 9 ≤ num at 2 l
  pub within : next_at l at ≤ length l

module _ (l : List ℕ) (at : ℕ) where
  pub whole_told : whole (drop at l) ≡ true → Whole l at
  whole_told e =
      let n : ℕ = num at 2 l in
      let d : length (drop at l) ≡ length l - at = length-drop at l in
      let ab = and_l (leb 2 (length (drop at l)) && leb 9 n) (leb (2 + n) (length (drop at l))) e in
      let c = leb-true (2 + n) (length (drop at l)) (and_r (leb 2 (length (drop at l)) && leb 9 n) (leb (2 + n) (length (drop at l))) e) in
      let a = leb-true 2 (length (drop at l)) (and_l (leb 2 (length (drop at l))) (leb 9 n) ab) in
      record { two = omega arith; nine = leb-true 9 n (and_r (leb 2 (length (drop at l))) (leb 9 n) ab); within = omega arith }

  pub whole_is : Whole l at → whole (drop at l) ≡ true
  whole_is w =
      let n : ℕ = num at 2 l in
      let d : length (drop at l) ≡ length l - at = length-drop at l in
      and_i (and_i (le-leb 2 (length (drop at l)) (omega arith)) (le-leb 9 n w.nine)) (le-leb (2 + n) (length (drop at l)) (omega arith))

  pub whole_not : (Whole l at → ⊥) → whole (drop at l) ≡ false
  whole_not h = is_false (whole (drop at l)) (λ e. h (whole_told e))

-- ---- fuel

module _ (v : ℕ) where
  records_none : (f : ℕ) (l : List ℕ) → length l ≡ 0 → records v f l ≡ good v []
  records_none zero l e = rw (eq-eqb (length l) 0 e)
  records_none (suc f) l e = rw (eq-eqb (length l) 0 e)

  records_fuel : (f g : ℕ) (l : List ℕ) → length l ≤ f → length l ≤ g → records v f l ≡ records v g l
  records_fuel zero g l h k = let e : length l ≡ 0 = omega arith in records_none zero l e ∙ sym (records_none g l e)
  records_fuel (suc f) zero l h k = let e : length l ≡ 0 = omega arith in records_none (suc f) l e ∙ sym (records_none zero l e)
  records_fuel (suc f) (suc g) l h k =
      let rest : List ℕ = drop (2 + num 0 2 l) l in
      let d : length rest ≡ length l - (2 + num 0 2 l) = length-drop (2 + num 0 2 l) l in
      let i : records v f rest ≡ records v g rest = records_fuel f g rest (omega arith) (omega arith) in
      by_test (eqb (length l) 0) (λ t. rw t)
      (λ t. rw t (by_test (whole l) (λ u. rw u (ap (behind (take (num 0 2 l) (drop 2 l))) i)) (λ u. rw u)))

-- ---- the start value

abbrev pub started : ℕ → Framed → Framed
started v bad = bad
started v (good u rs) = good v rs

started_behind : (v : ℕ) (r : List ℕ) (x : Framed) → behind r (started v x) ≡ started v (behind r x)
started_behind v r bad = refl
started_behind v r (good u rs) = refl

records_started : (v u f : ℕ) (l : List ℕ) → records v f l ≡ started v (records u f l)
records_started v u zero l = by_test (eqb (length l) 0) (λ t. rw t) (λ t. rw t)
records_started v u (suc f) l =
    let r : List ℕ = take (num 0 2 l) (drop 2 l) in
    let rest : List ℕ = drop (2 + num 0 2 l) l in
    let i : records v f rest ≡ started v (records u f rest) = records_started v u f rest in
    by_test (eqb (length l) 0) (λ t. rw t)
    (λ t. rw t (by_test (whole l) (λ w. rw w (ap (behind r) i ∙ started_behind v r (records u f rest))) (λ w. rw w)))

-- ---- what is left from a place on

pub left_started : (v u : ℕ) (l : List ℕ) (at : ℕ) → left v l at ≡ started v (left u l at)
unfolding left
left_started v u l at = records_started v u (length l) (drop at l)

module _ (v : ℕ) (l : List ℕ) (at : ℕ) where
  pub left_end : length l ≤ at → left v l at ≡ good v []
  unfolding left
  left_end h = records_none v (length l) (drop at l) (length-drop at l ∙ omega arith)

  more : left v l at ≡ records v (suc (length l)) (drop at l)
  unfolding left
  more =
      let d : length (drop at l) ≡ length l - at = length-drop at l in
      records_fuel v (length l) (suc (length l)) (drop at l) (omega arith) (omega arith)

  module _ (h : at < length l) where
    some : eqb (length (drop at l)) 0 ≡ false
    some = let d : length (drop at l) ≡ length l - at = length-drop at l in ne_eqb (length (drop at l)) 0 (λ z. omega arith)

    pub left_bad : whole (drop at l) ≡ false → left v l at ≡ bad
    left_bad w = more ∙ rw (some, w)

    pub left_on : whole (drop at l) ≡ true → left v l at ≡ behind (take (num at 2 l) (drop (at + 2) l)) (left v l (next_at l at))
    unfolding left
    left_on w =
        let n : ℕ = num at 2 l in
        let a : drop 2 (drop at l) ≡ drop (at + 2) l = drop-drop 2 at l in
        let k : at + (2 + n) ≡ next_at l at = omega arith in
        let b : drop (2 + n) (drop at l) ≡ drop (next_at l at) l = drop-drop (2 + n) at l ∙ ap (λ (m : ℕ). drop m l) k in
        more ∙ rw (some, w) (ap (λ (x : List ℕ). behind (take n x) (records v (length l) (drop (2 + n) (drop at l)))) a
        ∙ ap (λ (x : List ℕ). behind (take n (drop (at + 2) l)) (records v (length l) x)) b)
