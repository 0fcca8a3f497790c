-- A scan for the first that passes a test, one element a turn: of a list of n the first `count`, or all where that is more. Assumes nothing.
use Rattle.std.specs.Prelude.{ℕ, ◌+◌, ◌<◌, ◌≤◌, min, ◌≡◌, Bool, true, false, List, length, take, drop, get_or}
use Rattle.std.proofs.Common.{sym, ap, ◌∙◌, arith, length-take, get_or-take, lt-ltb, le-ltb}
use Rattle.base.specs.Lists.{any, first, first_at}
use Rattle.base.specs.Laws.Scans.{first_at_hit, first_at_miss, first_at_end}
use Rattle.base.specs.Laws.Keep.{first_at_any, first_none, first_default, get_d_first_at}

module _ {A : Type 0} (p : A → Bool) (l : List A) (count n m : ℕ) where
  -- none before i passes
  pub record Sought (i : ℕ) : Type 0 where
    pub here : i ≤ m
    pub most : m ≡ min count n
    pub long : length l ≡ n
    pub first : first_at p (take count l) ≡ i + first_at p (drop i (take count l))

  pub seeks_start : m ≡ min count n → length l ≡ n → Sought 0
  seeks_start e h = record { here = omega arith; most = e; long = h; first = omega arith }

  -- ---- where it stands
  module _ (e : m ≡ min count n) (h : length l ≡ n) (i : ℕ) (at : i ≡ first_at p (take count l)) where
    pub there : i < m → any p (take count l) ≡ true
    there b = first_at_any p (take count l) ∙ lt-ltb (first_at p (take count l)) (length (take count l)) (omega (arith, length-take count l))

    pub nowhere : m ≤ i → any p (take count l) ≡ false
    nowhere b = first_at_any p (take count l) ∙ le-ltb (first_at p (take count l)) (length (take count l)) (omega (arith, length-take count l))

-- ---- a turn, and the end

module _ {A : Type 0} {p : A → Bool} {l : List A} {count n m i : ℕ} (v : Sought p l count n m i) where
  module _ (h : i < m) where
    pub counted : i < count
    counted = let z = v.most in omega arith

    pub within : i < length l
    within = let z = v.most in let k = v.long in omega arith

    module _ (d : A) where
      pub seeks_hit : p (get_or l i d) ≡ true → i ≡ first_at p (take count l)
      seeks_hit e =
          let z = first_at_hit l count i p d counted within e in
          let f = v.first in
          omega arith

      pub seeks_on : p (get_or l i d) ≡ false → Sought p l count n m (i + 1)
      seeks_on e =
          let z = first_at_miss l count i p d counted within e in
          let f = v.first in
          record { here = omega arith; most = v.most; long = v.long; first = omega arith }

      pub seeks_some : p (get_or l i d) ≡ true → any p (take count l) ≡ true
      seeks_some e = there p l count n m v.most v.long i (seeks_hit e) h

  module _ (h : m ≤ i) where
    pub past : min count (length l) ≤ i
    past = let z = v.most in let k = v.long in omega arith

    pub seeks_end : i ≡ first_at p (take count l)
    seeks_end =
        let z = first_at_end l count i p past in
        let f = v.first in
        omega arith

    pub seeks_none : any p (take count l) ≡ false
    seeks_none = nowhere p l count n m v.most v.long i seeks_end h

  -- what stands there
  module _ (at : i ≡ first_at p (take count l)) (z : A) where
    pub first_there : (d : A) → i < m → get_or l i d ≡ first p z (take count l)
    first_there d h =
        sym (get_or-take count l i d (counted h)) ∙ ap (λ (k : ℕ). get_or (take count l) k d) at
        ∙ get_d_first_at p d (take count l) ∙ first_default p d z (take count l) (there p l count n m v.most v.long i at h)

    pub first_nowhere : m ≤ i → z ≡ first p z (take count l)
    first_nowhere h = sym (first_none p z (take count l) (nowhere p l count n m v.most v.long i at h))
