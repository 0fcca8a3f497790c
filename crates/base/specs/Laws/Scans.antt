-- What a loop that goes through the first n of a list has left, from place i on: one element less a turn, and nothing at the end;
-- and what it has read. Assumes nothing.
use Rattle.std.specs.Prelude.{ℕ, suc, ◌+◌, ◌<◌, ◌≤◌, min, ◌≡◌, Bool, true, false, List, [], ◌∷◌, ◌++◌, leb, length, take, drop, get_or}
use Rattle.std.proofs.Common.{sym, ap, ap₂, ◌∙◌, add-one, arith, length-take, drop_of_length-le, take-suc, drop-cons, get_or-take, take-take, take_all, eq-eqb, ne_eqb, leb-true, leb-false}
use Rattle.std.proofs.Math.Seq.{take-length, split_at}
use Rattle.base.specs.Lists.{any, all, first_at, has, copies, once}
use Rattle.base.specs.Laws.Tests.{by_test, eqb_same}
use Rattle.base.specs.Laws.Counting.{has_some, copies_append, once_copies, once_snoc}

-- the first n, or all where there are fewer
pub take_least : {A : Type 0} (n : ℕ) (l : List A) → take (min n (length l)) l ≡ take n l
take_least n l =
    by_test (leb n (length l))
    (λ t. let e : min n (length l) ≡ n = omega (arith, leb-true n (length l) t) in ap (λ (k : ℕ). take k l) e)
    (λ t.
    let e : min n (length l) ≡ length l = omega (arith, leb-false n (length l) t) in
    ap (λ (k : ℕ). take k l) e ∙ take-length l ∙ sym (take_all n l (omega (arith, leb-false n (length l) t))))

module _ {A : Type 0} (l : List A) (n i : ℕ) where
  pub left_cons : (d : A) → i < n → i < length l → drop i (take n l) ≡ get_or l i d ∷ drop (i + 1) (take n l)
  left_cons d h b =
      drop-cons (take n l) i d (rw length-take (omega arith))
      ∙ ap₂ (λ (x : A) (k : ℕ). x ∷ drop k (take n l)) (get_or-take n l i d h) (sym (add-one i))

  pub left_end : min n (length l) ≤ i → drop i (take n l) ≡ []
  left_end h = drop_of_length-le (take n l) {i = i} (rw length-take h)

  pub read_cons : (d : A) → i < n → i < length l → take (i + 1) (take n l) ≡ take i (take n l) ++ (get_or l i d ∷ [])
  read_cons d h b =
      ap (λ (k : ℕ). take k (take n l)) (add-one i) ∙ take-suc (take n l) i d (rw length-take (omega arith))
      ∙ ap (λ (x : A). take i (take n l) ++ (x ∷ [])) (get_or-take n l i d h)

  pub read_end : min n (length l) ≤ i → take i (take n l) ≡ take n l
  read_end h = take_all i (take n l) (rw length-take h)

  -- ---- by a test

  module _ (p : A → Bool) where
    pub all_end : min n (length l) ≤ i → all p (drop i (take n l)) ≡ true
    all_end h = rw (left_end h)

    pub any_end : min n (length l) ≤ i → any p (drop i (take n l)) ≡ false
    any_end h = rw (left_end h)

    pub first_at_end : min n (length l) ≤ i → first_at p (drop i (take n l)) ≡ 0
    first_at_end h = rw (left_end h)

    module _ (d : A) (h : i < n) (b : i < length l) where
      pub all_hit : p (get_or l i d) ≡ true → all p (drop (i + 1) (take n l)) ≡ all p (drop i (take n l))
      all_hit t = rw (left_cons d h b, t)

      pub all_miss : p (get_or l i d) ≡ false → all p (drop i (take n l)) ≡ false
      all_miss t = rw (left_cons d h b, t)

      pub any_hit : p (get_or l i d) ≡ true → any p (drop i (take n l)) ≡ true
      any_hit t = rw (left_cons d h b, t)

      pub any_miss : p (get_or l i d) ≡ false → any p (drop (i + 1) (take n l)) ≡ any p (drop i (take n l))
      any_miss t = rw (left_cons d h b, t)

      pub first_at_hit : p (get_or l i d) ≡ true → first_at p (drop i (take n l)) ≡ 0
      first_at_hit t = rw (left_cons d h b, t)

      pub first_at_miss : p (get_or l i d) ≡ false → suc (first_at p (drop (i + 1) (take n l))) ≡ first_at p (drop i (take n l))
      first_at_miss t = rw (left_cons d h b, t)

-- ---- of numbers

module _ (l : List ℕ) (n i x : ℕ) where
  pub copies_end : min n (length l) ≤ i → copies x (drop i (take n l)) ≡ 0
  copies_end h = rw (left_end l n i h)

  module _ (h : i < n) (b : i < length l) where
    pub copies_hit : get_or l i 0 ≡ x → 1 + copies x (drop (i + 1) (take n l)) ≡ copies x (drop i (take n l))
    copies_hit e = rw (left_cons l n i 0 h b, eq-eqb (get_or l i 0) x e)

    pub copies_miss : (get_or l i 0 ≡ x → ⊥) → copies x (drop (i + 1) (take n l)) ≡ copies x (drop i (take n l))
    copies_miss e = rw (left_cons l n i 0 h b, ne_eqb (get_or l i 0) x e) (omega arith)

-- none twice: each is looked for among those before it
module _ (l : List ℕ) (n i : ℕ) (h : i < n) (b : i < length l) where
  pub once_hit : has (get_or l i 0) (take i l) ≡ false → once (take i l) ≡ true → once (take (i + 1) l) ≡ true
  once_hit e o = rw (add-one i, take-suc l i 0 b) (once_snoc (get_or l i 0) (take i l) e o)

  -- it stands before and at i
  twice : has (get_or l i 0) (take i l) ≡ true → 2 ≤ copies (get_or l i 0) (take n l)
  twice e =
      let x = get_or l i 0 in
      let s = split_at (take n l) i 0 (rw length-take (omega arith)) in
      let r = drop (suc i) (take n l) in
      let f : take n l ≡ take i l ++ x ∷ r = s ∙ ap₂ (λ (y : ℕ) (k : List ℕ). k ++ y ∷ r) (get_or-take n l i 0 h) (take-take i n l (omega arith)) in
      rw (f, copies_append x (take i l) (x ∷ r), eqb_same x) (omega (arith, has_some x (take i l) e))

  pub once_miss : has (get_or l i 0) (take i l) ≡ true → once (take n l) ≡ false
  once_miss e =
      by_test (once (take n l)) (λ o. absurd (omega (arith, twice e, once_copies (take n l) o (get_or l i 0)))) (λ o. o)
