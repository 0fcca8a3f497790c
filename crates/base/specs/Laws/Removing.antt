-- One less in a single scan: until the first that passes a test is found all stays as it is, and what comes behind it moves down, one a turn.
-- The list of n is put into something; its first `count` are looked at, or all where that is more. Assumes nothing.
use Rattle.std.specs.Prelude.{ℕ, ◌+◌, ◌-◌, ◌<◌, ◌≤◌, min, ◌≡◌, refl, Bool, true, false, List, length, take, get_or, set}
use Rattle.std.proofs.Common.{sym, ap, ◌∙◌, arith, length-take}
use Rattle.base.specs.Lists.{any, first_at, over, cut_at}
use Rattle.base.specs.Laws.Tests.{no}
use Rattle.base.specs.Laws.Cut.{cut_none, cut_more, length_cut}
use Rattle.base.specs.Laws.Scans.{take_least}
use Rattle.base.specs.Laws.Seeking.{Sought, seeks_start, seeks_hit, seeks_on, seeks_none, there}

-- the list at i, once the first that passes was found: what stood before i stands without it
abbrev moved : {A : Type 0} → (A → Bool) → List A → ℕ → ℕ → List A
moved p l count i = over (cut_at (first_at p (take count l)) (take i l)) l

module _ {A S : Type 0} (put : List A → S) (p : A → Bool) (l : List A) (count n m : ℕ) where
  pub record Removing (found : Bool) (t : S) (i : ℕ) : Type 0 where
    pub here : i ≤ m
    pub most : m ≡ min count n
    pub long : length l ≡ n
    pub none : found ≡ false → (t ≡ put l) × Sought p l count n m i
    pub some : found ≡ true → (t ≡ put (moved p l count i)) × (first_at p (take count l) < i)

  pub removing_start : m ≡ min count n → length l ≡ n → Removing false (put l) 0
  removing_start e h = record {
    here = omega arith;
    most = e;
    long = h;
    none = λ f. (refl, seeks_start p l count n m e h);
    some = λ f. no f;
  }

module _ {A S : Type 0} {put : List A → S} {p : A → Bool} {l : List A} {count n m : ℕ} {found : Bool} {t : S} {i : ℕ}
    (v : Removing put p l count n m found t i) where
  abbrev place : ℕ
  place = first_at p (take count l)

  abbrev live : List A
  live = take count l

  module _ (h : i < m) (d : A) where
    -- one more is looked at
    pub removing_on : found ≡ false → Removing put p l count n m (p (get_or l i d)) (put l) (i + 1)
    removing_on f =
        let s = (v.none f).1 in
        record {
          here = omega arith;
          most = v.most;
          long = v.long;
          none = λ e. (refl, seeks_on s h d e);
          some = λ e.
              let k : i ≡ place = seeks_hit s h d e in
              (ap put (sym (cut_none i l) ∙ ap (λ (j : ℕ). over (cut_at j (take (i + 1) l)) l) k), omega arith);
        }

    -- one more moves down
    pub removing_down : found ≡ true → Removing put p l count n m found (put (set (moved p l count i) (i - 1) (get_or (moved p l count i) i d))) (i + 1)
    removing_down f =
        let k = (v.some f).1 in
        let j : i - 1 + 1 ≡ i = omega arith in
        let z = v.most in
        let w = v.long in
        record {
          here = omega arith;
          most = v.most;
          long = v.long;
          none = λ e. no (sym e ∙ f);
          some = λ e. (ap put (rw j at (cut_more place (i - 1) l d (omega arith) (omega arith))), omega arith);
        }

  -- ---- at the end

  module _ (h : m ≤ i) where
    pub removed_none : found ≡ false → any p (take count l) ≡ false
    removed_none f = seeks_none (v.none f).1 h

    module _ (f : found ≡ true) where
      pub removed_some : any p (take count l) ≡ true
      removed_some =
          let k = (v.some f).1 in
          let z = v.here in
          there p l count n m v.most v.long place refl (omega arith)

      pub removed_all : t ≡ put (over (cut_at place live) l)
      removed_all =
          let k : i ≡ min count (length l) = let z = v.most in let w = v.long in let q = v.here in omega arith in
          (v.some f).0 ∙ ap (λ (r : List A). put (over (cut_at place r) l)) (ap (λ (j : ℕ). take j l) k ∙ take_least count l)

      pub removed_count : m - 1 ≡ length (cut_at place live)
      removed_count =
          let k = (v.some f).1 in
          let z = v.most in
          let w = v.long in
          let q = v.here in
          let b = length-take count l in
          omega (arith, length_cut place live (omega arith))
