-- A column of those of a list that have something in it, no two the same: each is looked for among those before it. Assumes nothing.
use Rattle.std.specs.Prelude.{◌≡◌, ℕ, suc, ◌+◌, ◌<◌, ◌≤◌, Bool, true, false, Option, None, Some, List, [], ◌∷◌, ◌++◌, length, take, drop, ◌==◌, slice_index_or, refl}
use Rattle.std.specs.List.{cons_option, filter_map}
use Rattle.std.proofs.Common.{ap₂, ◌∙◌, append-nil, add-one, arith, length-take, take-suc, get_or-take, take-take}
use Rattle.std.proofs.lemmas.List.Elements.{filter_map-append}
use Rattle.std.proofs.Math.Seq.{split_at}
use Rattle.base.specs.Choice.{pick}
use Rattle.base.specs.Lists.{any, has, copies, once}
use Rattle.base.specs.Laws.Tests.{by_test, eqb_same}
use Rattle.base.specs.Laws.Counting.{has_some, copies_append, once_copies, once_snoc}
use Rattle.request_sound.specs.Sound.{key_among}

-- it is that key
abbrev pub is_key : ℕ → Option ℕ → Bool
is_key k None = false
is_key k (Some m) = m == k

-- one key more, if there is one
add_once : (y : Option ℕ) (l : List ℕ) → key_among y l ≡ false → once l ≡ true → once (l ++ cons_option y []) ≡ true
add_once None l s o = rw (append-nil l) o
add_once (Some k) l s o = once_snoc k l s o

two : (y : Option ℕ) (l m : List ℕ) → key_among y l ≡ true → once (l ++ cons_option y m) ≡ false
two None l m s = cc
two (Some k) l m s =
    by_test (once (l ++ (k ∷ m)))
    (λ o.
    let more : 2 ≤ copies k (l ++ (k ∷ m)) = rw (copies_append k l (k ∷ m), eqb_same k) (omega (arith, has_some k l s)) in
    absurd (omega (arith, more, once_copies (l ++ (k ∷ m)) o k)))
    (λ o. o)

module _ {A : Type 0} (g : A → Option ℕ) where
  pub has_column : (k : ℕ) (l : List A) → has k (filter_map g l) ≡ any (λ x. is_key k (g x)) l
  has_column k [] = refl
  has_column k (x ∷ l) = one (g x) (filter_map g l) (any (λ y. is_key k (g y)) l) (has_column k l)
    where
      one : (y : Option ℕ) (m : List ℕ) (b : Bool) → has k m ≡ b → has k (cons_option y m) ≡ pick (is_key k y) true b
      one None m b e = e
      one (Some j) m b e = rw e

  -- in a scan of the first n, at place i
  module _ (l : List A) (n i : ℕ) (d : A) (h : i < n) (b : i < length l) where
    pub once_more : key_among (g (slice_index_or l i d)) (filter_map g (take i l)) ≡ false → once (filter_map g (take i l)) ≡ true
        → once (filter_map g (take (i + 1) l)) ≡ true
    once_more s o =
        let x = slice_index_or l i d in
        rw (add-one i, take-suc l i d b, filter_map-append g (take i l) (x ∷ [])) (add_once (g x) (filter_map g (take i l)) s o)

    -- it stands before and at i
    pub once_not : key_among (g (slice_index_or l i d)) (filter_map g (take i l)) ≡ true → once (filter_map g (take n l)) ≡ false
    once_not s =
        let x = slice_index_or l i d in
        let r : List A = drop (suc i) (take n l) in
        let e : take n l ≡ take i l ++ x ∷ r =
        split_at (take n l) i d (rw length-take (omega arith)) ∙ ap₂ (λ (y : A) (k : List A). k ++ y ∷ r) (get_or-take n l i d h) (take-take i n l (omega arith)) in
        rw (e, filter_map-append g (take i l) (x ∷ r)) (two (g x) (filter_map g (take i l)) (filter_map g r) s)
