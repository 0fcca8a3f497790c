-- Laws of what passes a test in one list: keep, any, all, first and first_at.
-- Assumes nothing.
use Rattle.std.specs.Prelude.{ℕ, zero, suc, ◌+◌, ◌<◌, ◌≤◌, ◌≡◌, refl, Bool, true, false, not, ◌&&◌, ◌||◌, List, [], ◌∷◌, ◌++◌, ltb, length, get_or, set, take, drop, replicate}
use Rattle.std.proofs.Common.{sym, ap, ◌∙◌, append-nil, arith, lt-ltb, le-ltb}
use Rattle.base.specs.Lists.{keep, any, all, first, first_at}
use Rattle.base.specs.Laws.Tests.{by_test, no, and_l, and_r, and_i, or_l, is_false}

module _ {A : Type 0} (p : A → Bool) where
  -- ---- one test
  pub keep_append : (l m : List A) → keep p (l ++ m) ≡ keep p l ++ keep p m
  keep_append [] m = refl
  keep_append (x ∷ l) m = by_test (p x) (λ t. rw (t, keep_append l m)) (λ t. rw (t, keep_append l m))

  pub any_append : (l m : List A) → any p (l ++ m) ≡ (any p l || any p m)
  any_append [] m = refl
  any_append (x ∷ l) m = by_test (p x) (λ t. rw t) (λ t. rw (t, any_append l m))

  -- more behind it
  pub any_more : (l m : List A) → any p l ≡ true → any p (l ++ m) ≡ true
  any_more l m h = any_append l m ∙ or_l (any p l) (any p m) h

  pub keep_snoc : (l : List A) (x : A) → p x ≡ false → keep p (l ++ (x ∷ [])) ≡ keep p l
  keep_snoc l x e = rw (keep_append l (x ∷ []), e) (append-nil (keep p l))

  pub all_append : (l m : List A) → all p (l ++ m) ≡ (all p l && all p m)
  all_append [] m = refl
  all_append (x ∷ l) m = by_test (p x) (λ t. rw (t, all_append l m)) (λ t. rw t)

  pub all_kept : (l : List A) → all p (keep p l) ≡ true
  all_kept [] = refl
  all_kept (x ∷ l) = by_test (p x) (λ t. rw (t, t, all_kept l)) (λ t. rw (t, all_kept l))

  pub all_none : (l : List A) → all (λ x. not (p x)) l ≡ not (any p l)
  all_none [] = refl
  all_none (x ∷ l) = by_test (p x) (λ t. rw t) (λ t. rw (t, all_none l))

  pub keep_all : (l : List A) → all p l ≡ true → keep p l ≡ l
  keep_all [] h = refl
  keep_all (x ∷ l) h = rw (and_l (p x) (all p l) h, keep_all l (and_r (p x) (all p l) h))

  pub keep_none : (l : List A) → all (λ x. not (p x)) l ≡ true → keep p l ≡ []
  keep_none [] h = refl
  keep_none (x ∷ l) h = by_test (p x) (λ t. no (rw t at h)) (λ t. rw t (keep_none l (rw t at h)))

  pub length_keep : (l : List A) → length (keep p l) ≤ length l
  length_keep [] = omega arith
  length_keep (x ∷ l) = by_test (p x) (λ t. rw t (omega (arith, length_keep l))) (λ t. rw t (omega (arith, length_keep l)))

  pub length_split : (l : List A) → length (keep p l) + length (keep (λ x. not (p x)) l) ≡ length l
  length_split [] = omega arith
  length_split (x ∷ l) = by_test (p x) (λ t. rw t (omega (arith, length_split l))) (λ t. rw t (omega (arith, length_split l)))

  any_kept : (l : List A) → any p l ≡ true → 0 < length (keep p l)
  any_kept [] h = no h
  any_kept (x ∷ l) h = by_test (p x) (λ t. rw t (omega arith)) (λ t. rw t (any_kept l (rw t at h)))

  pub keep_drops : (l : List A) → any p l ≡ true → length (keep (λ x. not (p x)) l) < length l
  keep_drops l h = omega (arith, any_kept l h, length_split l)

  -- ---- the first that passes
  pub first_at_none : (l : List A) → any p l ≡ false → first_at p l ≡ length l
  first_at_none [] h = refl
  first_at_none (x ∷ l) h = by_test (p x) (λ t. no (sym (rw t at h))) (λ t. rw t (ap suc (first_at_none l (rw t at h))))

  pub first_at_le : (l : List A) → first_at p l ≤ length l
  first_at_le [] = omega arith
  first_at_le (x ∷ l) = by_test (p x) (λ t. rw t (omega arith)) (λ t. rw t (omega (arith, first_at_le l)))

  pub first_at_lt : (l : List A) → any p l ≡ true → first_at p l < length l
  first_at_lt [] h = no h
  first_at_lt (x ∷ l) h = by_test (p x) (λ t. rw t (omega arith)) (λ t. rw t (omega (arith, first_at_lt l (rw t at h))))

  module _ (d : A) where
    pub first_passes : (l : List A) → any p l ≡ true → p (first p d l) ≡ true
    first_passes [] h = no h
    first_passes (x ∷ l) h = by_test (p x) (λ t. rw (t, t)) (λ t. rw t (first_passes l (rw t at h)))

    pub first_none : (l : List A) → any p l ≡ false → first p d l ≡ d
    first_none [] h = refl
    first_none (x ∷ l) h = by_test (p x) (λ t. no (sym (rw t at h))) (λ t. rw t (first_none l (rw t at h)))

    pub get_d_first_at : (l : List A) → get_or l (first_at p l) d ≡ first p d l
    get_d_first_at [] = refl
    get_d_first_at (x ∷ l) = by_test (p x) (λ t. rw t) (λ t. rw t (get_d_first_at l))

  -- ---- an element, a part
  pub all_get_d : (l : List A) (i : ℕ) (d : A) → all p l ≡ true → i < length l → p (get_or l i d) ≡ true
  all_get_d [] i d h b = absurd (omega arith)
  all_get_d (x ∷ l) zero d h b = and_l (p x) (all p l) h
  all_get_d (x ∷ l) (suc i) d h b = all_get_d l i d (and_r (p x) (all p l) h) (omega arith)

  pub all_get_d_or : (l : List A) (i : ℕ) (d : A) → p d ≡ true → all p l ≡ true → p (get_or l i d) ≡ true
  all_get_d_or [] i d e h = e
  all_get_d_or (x ∷ l) zero d e h = and_l (p x) (all p l) h
  all_get_d_or (x ∷ l) (suc i) d e h = all_get_d_or l i d e (and_r (p x) (all p l) h)

  pub all_set : (l : List A) (i : ℕ) (x : A) → all p l ≡ true → p x ≡ true → all p (set l i x) ≡ true
  all_set [] i x h e = refl
  all_set (y ∷ l) zero x h e = rw e (and_r (p y) (all p l) h)
  all_set (y ∷ l) (suc i) x h e = rw (and_l (p y) (all p l) h) (all_set l i x (and_r (p y) (all p l) h) e)

  pub all_take : (n : ℕ) (l : List A) → all p l ≡ true → all p (take n l) ≡ true
  all_take zero l h = refl
  all_take (suc n) [] h = refl
  all_take (suc n) (x ∷ l) h = rw (and_l (p x) (all p l) h) (all_take n l (and_r (p x) (all p l) h))

  pub all_drop : (n : ℕ) (l : List A) → all p l ≡ true → all p (drop n l) ≡ true
  all_drop zero l h = h
  all_drop (suc n) [] h = refl
  all_drop (suc n) (x ∷ l) h = all_drop n l (and_r (p x) (all p l) h)

  pub all_replicate : (n : ℕ) (x : A) → p x ≡ true → all p (replicate n x) ≡ true
  all_replicate zero x e = refl
  all_replicate (suc n) x e = rw e (all_replicate n x e)

-- ---- two tests
module _ {A : Type 0} (p q : A → Bool) where
  pub all_keep : (l : List A) → all p l ≡ true → all p (keep q l) ≡ true
  all_keep [] h = refl
  all_keep (x ∷ l) h =
      let r = all_keep l (and_r (p x) (all p l) h) in
      by_test (q x) (λ t. rw (t, and_l (p x) (all p l) h) r) (λ t. rw t r)

  pub any_keep : (l : List A) → any p (keep q l) ≡ any (λ x. q x && p x) l
  any_keep [] = refl
  any_keep (x ∷ l) = by_test (q x) (λ t. rw (t, any_keep l)) (λ t. rw (t, any_keep l))

  pub first_in : (d : A) (l : List A) → first p d (keep q l) ≡ first (λ x. q x && p x) d l
  first_in d [] = refl
  first_in d (x ∷ l) = by_test (q x) (λ t. rw (t, first_in d l)) (λ t. rw (t, first_in d l))

  pub keep_keep : (l : List A) → keep p (keep q l) ≡ keep (λ x. q x && p x) l
  keep_keep [] = refl
  keep_keep (x ∷ l) = by_test (q x) (λ t. rw (t, keep_keep l)) (λ t. rw (t, keep_keep l))

  pub keep_comm : (l : List A) → keep p (keep q l) ≡ keep q (keep p l)
  keep_comm [] = refl
  keep_comm (x ∷ l) =
      by_test (p x) (λ t. by_test (q x) (λ u. rw (t, u, t, keep_comm l)) (λ u. rw (t, u, keep_comm l)))
      (λ t. by_test (q x) (λ u. rw (t, u, t, keep_comm l)) (λ u. rw (t, u, keep_comm l)))

  pub all_first : (d : A) (l : List A) → all q l ≡ true → any p l ≡ true → q (first p d l) ≡ true
  all_first d [] h e = no e
  all_first d (x ∷ l) h e = by_test (p x) (λ t. rw t (and_l (q x) (all q l) h)) (λ t. rw t (all_first d l (and_r (q x) (all q l) h) (rw t at e)))

  pub first_or : (d : A) (l : List A) → q d ≡ true → all q l ≡ true → q (first p d l) ≡ true
  first_or d [] e h = e
  first_or d (x ∷ l) e h = by_test (p x) (λ t. rw t (and_l (q x) (all q l) h)) (λ t. rw t (first_or d l e (and_r (q x) (all q l) h)))

  pub any_first_any : (d : A) (l : List A) → any p l ≡ true → q (first p d l) ≡ true → any q l ≡ true
  any_first_any d [] h e = h
  any_first_any d (x ∷ l) h e =
      by_test (q x) (λ u. rw u) (λ u. rw u (by_test (p x) (λ t. no (sym u ∙ (rw t at e))) (λ t. any_first_any d l (rw t at h) (rw t at e))))

  pub all_any : (l : List A) → all q l ≡ true → any p l ≡ true → any (λ x. q x && p x) l ≡ true
  all_any [] h e = e
  all_any (x ∷ l) h e =
      rw (and_l (q x) (all q l) h) (by_test (p x) (λ t. rw t) (λ t. rw t (all_any l (and_r (q x) (all q l) h) (rw t at e))))

  -- ---- the one implies the other
  module _ (i : (x : A) → p x ≡ true → q x ≡ true) where
    pub all_imp : (l : List A) → all p l ≡ true → all q l ≡ true
    all_imp [] h = refl
    all_imp (x ∷ l) h = rw (i x (and_l (p x) (all p l) h)) (all_imp l (and_r (p x) (all p l) h))

    pub any_imp : (l : List A) → any p l ≡ true → any q l ≡ true
    any_imp [] h = h
    any_imp (x ∷ l) h = by_test (p x) (λ t. rw (i x t)) (λ t. by_test (q x) (λ u. rw u) (λ u. rw u (any_imp l (rw t at h))))

    pub none_imp : (l : List A) → any q l ≡ false → any p l ≡ false
    none_imp l h = is_false (any p l) (λ e. no (sym h ∙ any_imp l e))

    -- kept where the other lets it
    pub any_kept_imp : (l : List A) → any p l ≡ true → any p (keep q l) ≡ true
    any_kept_imp [] h = h
    any_kept_imp (x ∷ l) h =
        by_test (p x) (λ t. rw (i x t, t))
        (λ t. let r = any_kept_imp l (rw t at h) in by_test (q x) (λ u. rw (u, t) r) (λ u. rw u r))

  -- ---- they are the same
  module _ (e : (x : A) → p x ≡ q x) where
    pub keep_same : (l : List A) → keep p l ≡ keep q l
    keep_same [] = refl
    keep_same (x ∷ l) = cc (e x, keep_same l)

    pub any_same : (l : List A) → any p l ≡ any q l
    any_same [] = refl
    any_same (x ∷ l) = cc (e x, any_same l)

    pub all_same : (l : List A) → all p l ≡ all q l
    all_same [] = refl
    all_same (x ∷ l) = cc (e x, all_same l)

    pub first_same : (d : A) (l : List A) → first p d l ≡ first q d l
    first_same d [] = refl
    first_same d (x ∷ l) = cc (e x, first_same d l)

    pub first_at_same : (l : List A) → first_at p l ≡ first_at q l
    first_at_same [] = refl
    first_at_same (x ∷ l) = cc (e x, first_at_same l)

-- ---- where the first stands
module _ {A : Type 0} (p : A → Bool) where
  pub first_at_any : (l : List A) → any p l ≡ ltb (first_at p l) (length l)
  first_at_any l =
      by_test (any p l) (λ e. e ∙ sym (lt-ltb (first_at p l) (length l) (first_at_lt p l e)))
      (λ e. e ∙ sym (le-ltb (first_at p l) (length l) (let z = first_at_none p l e in omega arith)))

  -- where one passes, the default does not matter
  pub first_default : (d e : A) (l : List A) → any p l ≡ true → first p d l ≡ first p e l
  first_default d e [] h = no h
  first_default d e (x ∷ l) h = by_test (p x) (λ t. rw t) (λ t. rw t (first_default d e l (rw t at h)))

  pub all_by_get_d : (d : A) (l : List A) → ((i : ℕ) → p (get_or l i d) ≡ true) → all p l ≡ true
  all_by_get_d d [] h = refl
  all_by_get_d d (x ∷ l) h = and_i (h 0) (all_by_get_d d l (λ i. h (suc i)))

-- in what passes q, the first that passes p stands behind those before it that pass q
pub first_at_in : {A : Type 0} (p q : A → Bool) (l : List A)
    → first_at p (keep q l) ≡ length (keep q (take (first_at (λ x. q x && p x) l) l))
first_at_in p q [] = refl
first_at_in p q (x ∷ l) =
    by_test (q x) (λ e. by_test (p x) (λ f. rw (e, f)) (λ f. rw (e, f, e) (ap suc (first_at_in p q l)))) (λ e. rw (e, e) (first_at_in p q l))

-- ---- three tests
pub all_keep_imp : {A : Type 0} (p q r : A → Bool) → ((x : A) → p x ≡ true → q x ≡ true → r x ≡ true) → (l : List A)
    → all p l ≡ true → all r (keep q l) ≡ true
all_keep_imp p q r i [] h = refl
all_keep_imp p q r i (x ∷ l) h =
    let k = all_keep_imp p q r i l (and_r (p x) (all p l) h) in
    by_test (q x) (λ t. rw (t, i x (and_l (p x) (all p l) h) t) k) (λ t. rw t k)
