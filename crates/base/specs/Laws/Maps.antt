-- Laws of lists under a map that the tests do not see, or that brings one test to another, and of maps over one list.
-- Assumes nothing.
use Rattle.std.specs.Prelude.{ℕ, zero, suc, ◌≡◌, refl, Bool, true, false, List, [], ◌∷◌, map, take, set}
use Rattle.std.proofs.Common.{sym, ap}
use Rattle.base.specs.Choice.{pick}
use Rattle.base.specs.Lists.{keep, any, all, first, first_at}
use Rattle.base.specs.Sort.{place, sort}
use Rattle.base.specs.Laws.Tests.{by_test, no, and_l, and_r, and_i}
-- proved already, handed on
pub use Rattle.std.proofs.lemmas.Simd.{map-map}
pub use Rattle.std.proofs.lemmas.List.{map-append}

module _ {A B : Type 0} (f : A → B) where
  -- ---- tests that the map does not change
  module _ (p : A → Bool) (p' : B → Bool) (h : (x : A) → p' (f x) ≡ p x) where
    pub any_map : (l : List A) → any p' (map f l) ≡ any p l
    any_map [] = refl
    any_map (x ∷ l) = cc (h x, any_map l)

    pub all_map : (l : List A) → all p' (map f l) ≡ all p l
    all_map [] = refl
    all_map (x ∷ l) = cc (h x, all_map l)

    pub keep_map : (l : List A) → keep p' (map f l) ≡ map f (keep p l)
    keep_map [] = refl
    keep_map (x ∷ l) = rw (h x, keep_map l) (by_test (p x) (λ t. rw t) (λ t. rw t))

    pub first_map : (d : A) (l : List A) → first p' (f d) (map f l) ≡ f (first p d l)
    first_map d [] = refl
    first_map d (x ∷ l) = rw (h x, first_map d l) (by_test (p x) (λ t. rw t) (λ t. rw t))

    pub first_at_map : (l : List A) → first_at p' (map f l) ≡ first_at p l
    first_at_map [] = refl
    first_at_map (x ∷ l) = cc (h x, first_at_map l)

  -- ---- one test to another
  module _ (p : A → Bool) (q : B → Bool) (i : (x : A) → p x ≡ true → q (f x) ≡ true) where
    pub all_map_imp : (l : List A) → all p l ≡ true → all q (map f l) ≡ true
    all_map_imp [] h = refl
    all_map_imp (x ∷ l) h = and_i (i x (and_l (p x) (all p l) h)) (all_map_imp l (and_r (p x) (all p l) h))

    pub any_map_imp : (l : List A) → any p l ≡ true → any q (map f l) ≡ true
    any_map_imp [] h = h
    any_map_imp (x ∷ l) h =
        by_test (p x) (λ t. rw (i x t)) (λ t. by_test (q (f x)) (λ u. rw u) (λ u. rw u (any_map_imp l (rw t at h))))

  -- what the map makes does not pass
  pub keep_map_none : (q : B → Bool) → ((x : A) → q (f x) ≡ false) → (l : List A) → keep q (map f l) ≡ []
  keep_map_none q h [] = refl
  keep_map_none q h (x ∷ l) = rw (h x) (keep_map_none q h l)

  -- ---- a relation that the map does not change
  module _ (le : A → A → Bool) (le' : B → B → Bool) (h : (x y : A) → le' (f x) (f y) ≡ le x y) where
    pub place_map : (x : A) (l : List A) → place le' (f x) (map f l) ≡ map f (place le x l)
    place_map x [] = refl
    place_map x (y ∷ l) = rw (h x y, place_map x l) (by_test (le x y) (λ t. rw t) (λ t. rw t))

    pub sort_map : (l : List A) → sort le' (map f l) ≡ map f (sort le l)
    sort_map [] = refl
    sort_map (x ∷ l) = rw (sort_map l) (place_map x (sort le l))

  -- ---- maps
  pub map_swap : (g : A → A) (g' : B → B) → ((x : A) → g' (f x) ≡ f (g x)) → (l : List A) → map g' (map f l) ≡ map f (map g l)
  map_swap g g' h [] = refl
  map_swap g g' h (x ∷ l) = cc (h x, map_swap g g' h l)

  pub map_same : (g : A → B) → ((x : A) → f x ≡ g x) → (l : List A) → map f l ≡ map g l
  map_same g h [] = refl
  map_same g h (x ∷ l) = cc (h x, map_same g h l)

  -- ---- at an index
  pub map_take : (i : ℕ) (l : List A) → map f (take i l) ≡ take i (map f l)
  map_take zero l = refl
  map_take (suc i) [] = refl
  map_take (suc i) (x ∷ l) = ap (λ (r : List B). f x ∷ r) (map_take i l)

  pub map_set : (l : List A) (i : ℕ) (x : A) → map f (set l i x) ≡ set (map f l) i (f x)
  map_set [] i x = refl
  map_set (y ∷ l) zero x = refl
  map_set (y ∷ l) (suc i) x = ap (λ (r : List B). f y ∷ r) (map_set l i x)

pub map_id : {A : Type 0} (f : A → A) → ((x : A) → f x ≡ x) → (l : List A) → map f l ≡ l
map_id f h [] = refl
map_id f h (x ∷ l) = cc (h x, map_id f h l)

-- a change of what passes a test, where none does
pub map_none : {A : Type 0} (q : A → Bool) (g : A → A) (l : List A) → any q l ≡ false → map (λ (x : A). pick (q x) (g x) x) l ≡ l
map_none q g [] h = refl
map_none q g (x ∷ l) h = by_test (q x) (λ t. no (sym (rw t at h))) (λ t. rw (t, map_none q g l (rw t at h)))

-- two maps that agree on what passes a test
pub map_all_same : {A B : Type 0} (p : A → Bool) (f g : A → B) → ((x : A) → p x ≡ true → f x ≡ g x) → (l : List A) → all p l ≡ true
    → map f l ≡ map g l
map_all_same p f g i [] h = refl
map_all_same p f g i (x ∷ l) h = cc (i x (and_l (p x) (all p l) h), map_all_same p f g i l (and_r (p x) (all p l) h))
