-- How often a number is in a list, whether it is there, whether none stands twice, whether each is in another list;
-- and lists of things that have a number for a name, also where the one of a name is changed. Assumes nothing.
use Rattle.std.specs.Prelude.{◌≡◌, refl, Bool, true, false, not, ◌&&◌, ◌||◌, List, [], ◌∷◌, ◌++◌, map, ℕ, ◌+◌, ◌≤◌, eqb, leb, length}
use Rattle.std.proofs.Common.{sym, ap, ◌∙◌, subst, zero-add, arith, le-leb, leb-true, leb-false, eqb-true, ne_eqb}
use Rattle.std.proofs.lemmas.Bool.{lt-leb, not-true}
use Rattle.base.specs.Choice.{pick}
use Rattle.base.specs.Lists.{keep, any, all, first, has, copies, once, within}
use Rattle.base.specs.Laws.Tests.{by_test, no, and_l, and_r, and_i, or_r, eqb_same, pick_same}
use Rattle.base.specs.Laws.Keep.{any_append, any_more, all_append, all_none, keep_all, keep_none, keep_comm, keep_drops, any_keep, any_imp, none_imp, any_first_any}
use Rattle.base.specs.Laws.Maps.{any_map, map_none}

-- ---- is it there, and how often

pub has_append : (n : ℕ) (l m : List ℕ) → has n (l ++ m) ≡ (has n l || has n m)
has_append n l m = any_append (λ k. eqb k n) l m

pub has_more : (n : ℕ) (l m : List ℕ) → has n l ≡ true → has n (l ++ m) ≡ true
has_more n l m h = any_more (λ k. eqb k n) l m h

pub copies_append : (x : ℕ) (l m : List ℕ) → copies x (l ++ m) ≡ copies x l + copies x m
copies_append x [] m = omega arith
copies_append x (y ∷ l) m = omega (arith, copies_append x l m)

pub has_copies : (n : ℕ) (l : List ℕ) → has n l ≡ leb 1 (copies n l)
has_copies n [] = refl
has_copies n (m ∷ l) =
    by_test (eqb m n) (λ e. rw e (sym (le-leb 1 (1 + copies n l) (omega arith))))
    (λ e. rw e (has_copies n l ∙ ap (leb 1) (sym (zero-add (copies n l)))))

-- it is not there: no copy
pub has_none : (n : ℕ) (l : List ℕ) → has n l ≡ false → copies n l ≡ 0
has_none n l h = omega (arith, leb-false 1 (copies n l) (sym (has_copies n l) ∙ h))

pub none_has : (n : ℕ) (l : List ℕ) → copies n l ≡ 0 → has n l ≡ false
none_has n l h = has_copies n l ∙ lt-leb 1 (copies n l) (omega arith)

-- it is there: a copy at least
pub has_some : (n : ℕ) (l : List ℕ) → has n l ≡ true → 1 ≤ copies n l
has_some n l h = leb-true 1 (copies n l) (sym (has_copies n l) ∙ h)

pub some_has : (n : ℕ) (l : List ℕ) → 1 ≤ copies n l → has n l ≡ true
some_has n l h = has_copies n l ∙ le-leb 1 (copies n l) h

-- ---- none twice

pub once_head : (n : ℕ) (l : List ℕ) → once (n ∷ l) ≡ true → has n l ≡ false
once_head n l o = not-true (has n l) (and_l (not (has n l)) (once l) o)

pub once_tail : (n : ℕ) (l : List ℕ) → once (n ∷ l) ≡ true → once l ≡ true
once_tail n l o = and_r (not (has n l)) (once l) o

pub once_copies : (l : List ℕ) → once l ≡ true → (n : ℕ) → copies n l ≤ 1
once_copies [] o n = omega arith
once_copies (m ∷ l) o n =
    by_test (eqb m n)
    (λ e.
    let z : copies n l ≡ 0 = subst (λ (k : ℕ). copies k l ≡ 0) (eqb-true m n e) (has_none m l (once_head m l o)) in
    rw e (omega arith))
    (λ e. rw e (omega (arith, once_copies l (once_tail m l o) n)))

pub copies_once : (l : List ℕ) → ((n : ℕ) → copies n l ≤ 1) → once l ≡ true
copies_once [] h = refl
copies_once (m ∷ l) h =
    and_i (ap not (none_has m l (let g = rw (eqb_same m) at (h m) in omega arith))) (copies_once l (λ n. omega (arith, h n)))

pub once_snoc : (n : ℕ) (l : List ℕ) → has n l ≡ false → once l ≡ true → once (l ++ (n ∷ [])) ≡ true
once_snoc n l h o =
    copies_once (l ++ (n ∷ []))
    (λ k.
    rw (copies_append k l (n ∷ []))
    (by_test (eqb n k)
    (λ e.
    let z : copies k l ≡ 0 = subst (λ (j : ℕ). copies j l ≡ 0) (eqb-true n k e) (has_none n l h) in
    rw e (omega arith))
    (λ e. rw e (omega (arith, once_copies l o k)))))

-- ---- each in another list

pub within_says : (l m : List ℕ) → within l m ≡ true → (n : ℕ) → has n l ≡ true → has n m ≡ true
within_says [] m w n h = no h
within_says (x ∷ l) m w n h =
    by_test (eqb x n) (λ e. subst (λ (k : ℕ). has k m ≡ true) (eqb-true x n e) (and_l (has x m) (within l m) w))
    (λ e. within_says l m (and_r (has x m) (within l m) w) n (rw e at h))

pub within_all : (l m : List ℕ) → ((n : ℕ) → has n l ≡ true → has n m ≡ true) → within l m ≡ true
within_all [] m h = refl
within_all (x ∷ l) m h =
    and_i (h x (rw (eqb_same x))) (within_all l m (λ n e. h n (rw e (pick_same (eqb x n) true))))

pub within_append : (l k m : List ℕ) → within (l ++ k) m ≡ (within l m && within k m)
within_append l k m = all_append (λ n. has n m) l k

-- what is in a part is in the whole
pub within_left : (l m k : List ℕ) → within l m ≡ true → within l (m ++ k) ≡ true
within_left l m k w = within_all l (m ++ k) (λ n h. has_more n m k (within_says l m w n h))

pub within_right : (l m k : List ℕ) → within l k ≡ true → within l (m ++ k) ≡ true
within_right l m k w = within_all l (m ++ k) (λ n h. has_append n m k ∙ or_r (has n m) (has n k) (within_says l k w n h))

-- with n taken out, the others are there
others_has : (n k : ℕ) → eqb k n ≡ false → (m : List ℕ) → has k m ≡ true → has k (keep (λ j. not (eqb j n)) m) ≡ true
others_has n k d m h =
    any_keep (λ j. eqb j k) (λ j. not (eqb j n)) m
    ∙ any_imp (λ j. eqb j k) (λ j. not (eqb j n) && eqb j k) (λ j e. rw (eqb-true j k e, d, eqb_same k)) m h

-- no two of l are the same one of m
pub pigeon : (l m : List ℕ) → once l ≡ true → within l m ≡ true → length l ≤ length m
pigeon [] m o w = omega arith
pigeon (x ∷ l) m o w =
    let rest : List ℕ = keep (λ j. not (eqb j x)) m in
    let other : (k : ℕ) → has k l ≡ true → eqb k x ≡ false = λ k h. ne_eqb k x (λ e. no (sym (once_head x l o) ∙ (rw e at h))) in
    omega (
      arith,
      keep_drops (λ j. eqb j x) m (and_l (has x m) (within l m) w),
      pigeon l rest (once_tail x l o)
          (within_all l rest (λ k h. others_has x k (other k h) m (within_says l m (and_r (has x m) (within l m) w) k h))),
    )

-- ---- of things with a name

module _ {A : Type 0} (f : A → ℕ) where
  pub copies_split : (p : A → Bool) (l : List A) (n : ℕ)
      → copies n (map f (keep p l)) + copies n (map f (keep (λ x. not (p x)) l)) ≡ copies n (map f l)
  copies_split p [] n = refl
  copies_split p (x ∷ l) n = let r = copies_split p l n in by_test (p x) (λ e. rw e (omega arith)) (λ e. rw e (omega arith))

  pub copies_keep_le : (p : A → Bool) (l : List A) (n : ℕ) → copies n (map f (keep p l)) ≤ copies n (map f l)
  copies_keep_le p l n = omega (arith, copies_split p l n)

  pub once_keep : (p : A → Bool) (l : List A) → once (map f l) ≡ true → once (map f (keep p l)) ≡ true
  once_keep p l o = copies_once (map f (keep p l)) (λ n. omega (arith, copies_keep_le p l n, once_copies (map f l) o n))

  -- of those that pass, where there are fewer
  pub fewer_once : (a p : A → Bool) (l : List A) → once (map f (keep a l)) ≡ true → once (map f (keep a (keep p l))) ≡ true
  fewer_once a p l o = rw (keep_comm a p l) (once_keep p (keep a l) o)

  pub has_map : (n : ℕ) (l : List A) → has n (map f l) ≡ any (λ x. eqb (f x) n) l
  has_map n l = any_map f (λ x. eqb (f x) n) (λ k. eqb k n) (λ x. refl) l

  -- a change at one name that keeps the name
  pub map_at_names : (g : A → A) (n : ℕ) → ((x : A) → f (g x) ≡ f x) → (l : List A)
      → map f (map (λ x. pick (eqb (f x) n) (g x) x) l) ≡ map f l
  map_at_names g n h [] = refl
  map_at_names g n h (x ∷ l) =
      by_test (eqb (f x) n) (λ e. rw e (cc (h x, map_at_names g n h l))) (λ e. rw e (cc (map_at_names g n h l)))

  -- the first that passes is the first of its name, where names are unique
  pub first_named : (p : A → Bool) (d : A) (l : List A) → once (map f l) ≡ true → any p l ≡ true
      → first (λ x. eqb (f x) (f (first p d l))) d l ≡ first p d l
  first_named p d [] o h = no h
  first_named p d (x ∷ l) o h =
      by_test (p x) (λ t. rw (t, eqb_same (f x)))
      (λ t.
      let h' : any p l ≡ true = rw t at h in
      let e : first p d (x ∷ l) ≡ first p d l = rw t in
      subst (λ (y : A). first (λ (z : A). eqb (f z) (f y)) d (x ∷ l) ≡ y) (sym e)
      (by_test (eqb (f x) (f (first p d l)))
      (λ u.
      let there : has (f (first p d l)) (map f l) ≡ true =
      has_map (f (first p d l)) l ∙ any_first_any p (λ y. eqb (f y) (f (first p d l))) d l h' (eqb_same (f (first p d l))) in
      no (sym (once_head (f x) (map f l) o) ∙ (rw (sym (eqb-true (f x) (f (first p d l)) u)) at there)))
      (λ u. rw u (first_named p d l (once_tail (f x) (map f l) o) h'))))

  module _ (n : ℕ) where
    abbrev named : A → Bool
    named x = eqb (f x) n

    -- the first of that name is the only one
    pub only_named : (x : A) (l : List A) → once (map f (x ∷ l)) ≡ true → eqb (f x) n ≡ true → any (λ y. eqb (f y) n) l ≡ false
    only_named x l o e =
        sym (has_map n l) ∙ subst (λ (k : ℕ). has k (map f l) ≡ false) (eqb-true (f x) n e) (once_head (f x) (map f l) o)

    -- what is true of one of that name is true of the first
    pub all_named : (d : A) (p : A → Bool) (l : List A) → once (map f l) ≡ true → any (λ x. eqb (f x) n) l ≡ true
        → any (λ x. p x && eqb (f x) n) l ≡ p (first (λ x. eqb (f x) n) d l)
    all_named d p [] o h = no h
    all_named d p (x ∷ l) o h =
        by_test (named x)
        (λ e.
        rw (e, none_imp (λ y. p y && named y) named (λ y. and_r (p y) (named y)) l (only_named x l o e))
        (by_test (p x) (λ t. rw t) (λ t. rw t)))
        (λ e.
        let r = all_named d p l (once_tail (f x) (map f l) o) (rw e at h) in
        rw e (by_test (p x) (λ t. rw t r) (λ t. rw t r)))

    -- none of that name is left
    none_left : (x : A) (l : List A) → once (map f (x ∷ l)) ≡ true → named x ≡ true → all (λ y. not (named y)) l ≡ true
    none_left x l o e = all_none named l ∙ ap not (only_named x l o e)

    pub keep_named : (d : A) (l : List A) → once (map f l) ≡ true → any (λ x. eqb (f x) n) l ≡ true
        → keep (λ x. eqb (f x) n) l ≡ first (λ x. eqb (f x) n) d l ∷ []
    keep_named d [] o h = no h
    keep_named d (x ∷ l) o h =
        by_test (named x) (λ e. rw (e, keep_none named l (none_left x l o e)))
        (λ e. rw e (keep_named d l (once_tail (f x) (map f l) o) (rw e at h)))

    pub drop_one : (l : List A) → once (map f l) ≡ true → any (λ x. eqb (f x) n) l ≡ true
        → length (keep (λ x. not (eqb (f x) n)) l) + 1 ≡ length l
    drop_one [] o h = no h
    drop_one (x ∷ l) o h =
        by_test (named x) (λ e. rw (e, keep_all (λ y. not (named y)) l (none_left x l o e)) (omega arith))
        (λ e. rw e (omega (arith, drop_one l (once_tail (f x) (map f l) o) (rw e at h))))

    -- ---- the one of a name is changed

    module _ (d : A) (g : A → A) where
      abbrev the : List A → A
      the l = first (λ x. eqb (f x) n) d l

      abbrev change : A → A
      change x = pick (eqb (f x) n) (g x) x

      -- to what passes still
      pub all_at : (p : A → Bool) (l : List A) → once (map f l) ≡ true → all p l ≡ true → p (g (the l)) ≡ true
          → all p (map change l) ≡ true
      all_at p [] o h e = refl
      all_at p (x ∷ l) o h e =
          let rest : all p l ≡ true = and_r (p x) (all p l) h in
          by_test (named x) (λ t. rw (t, map_none named g l (only_named x l o t)) (and_i (rw t at e) rest))
          (λ t. rw t (and_i (and_l (p x) (all p l) h) (all_at p l (once_tail (f x) (map f l) o) rest (rw t at e))))

      -- of those that pass, by a number that the change keeps
      module _ (a : A → Bool) (k : A → ℕ) (same : (x : A) → k (g x) ≡ k x) where
        -- the one counts for as much as it passes
        abbrev counts : ℕ → Bool → A → ℕ
        counts m b x = pick b (pick (eqb (k x) m) 1 0) 0

        head_at : (m : ℕ) (x : A) (r : List A)
            → copies m (map k (keep a (g x ∷ r))) + counts m (a x) x ≡ copies m (map k (keep a (x ∷ r))) + counts m (a (g x)) x
        head_at m x r =
            by_test (a x)
            (λ t. by_test (a (g x)) (λ u. rw (t, u, same x)) (λ u. rw (t, u) (omega arith)))
            (λ t. by_test (a (g x)) (λ u. rw (t, u, same x) (omega arith)) (λ u. rw (t, u)))

        pub copies_at : (m : ℕ) (l : List A) → once (map f l) ≡ true → any (λ x. eqb (f x) n) l ≡ true
            → copies m (map k (keep a (map change l))) + counts m (a (the l)) (the l)
            ≡ copies m (map k (keep a l)) + counts m (a (g (the l))) (the l)
        copies_at m [] o h = no h
        copies_at m (x ∷ l) o h =
            by_test (named x)
            (λ e. rw (e, map_none named g l (only_named x l o e)) (head_at m x l))
            (λ e.
            let r = copies_at m l (once_tail (f x) (map f l) o) (rw e at h) in
            rw e (by_test (a x) (λ t. rw t (omega (arith, r))) (λ t. rw t r)))

        -- one that newly passes has a number of its own
        pub once_at : (l : List A) → once (map f l) ≡ true → any (λ x. eqb (f x) n) l ≡ true
            → (a (the l) ≡ false → a (g (the l)) ≡ true → has (k (the l)) (map k (keep a l)) ≡ false)
            → once (map k (keep a l)) ≡ true → once (map k (keep a (map change l))) ≡ true
        once_at l o h free u = copies_once (map k (keep a (map change l))) (λ m. few m (a (the l)) (a (g (the l))) free (copies_at m l o h))
          where
            few : (m : ℕ) (b c : Bool) → (b ≡ false → c ≡ true → has (k (the l)) (map k (keep a l)) ≡ false)
                → copies m (map k (keep a (map change l))) + counts m b (the l) ≡ copies m (map k (keep a l)) + counts m c (the l)
                → copies m (map k (keep a (map change l))) ≤ 1
            few m b false w e = omega (arith, e, once_copies (map k (keep a l)) u m)
            few m true true w e = omega (arith, e, once_copies (map k (keep a l)) u m)
            few m false true w e =
                by_test (eqb (k (the l)) m)
                (λ t.
                let z : copies (k (the l)) (map k (keep a l)) ≡ 0 = has_none (k (the l)) (map k (keep a l)) (w refl refl) in
                let y : copies m (map k (keep a l)) ≡ 0 = subst (λ (j : ℕ). copies j (map k (keep a l)) ≡ 0) (eqb-true (k (the l)) m t) z in
                omega (arith, rw t at e))
                (λ t. omega (arith, rw t at e, once_copies (map k (keep a l)) u m))
