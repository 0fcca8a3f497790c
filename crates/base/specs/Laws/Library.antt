-- What the library's methods of slices and iterators say, in the words of Lists. Assumes nothing.
use Rattle.std.specs.Prelude.{ℕ, ◌<◌, ◌≡◌, refl, Bool, true, false, ◌||◌, List, [], ◌∷◌, length, eqb, ltb, Some, None, filter, count_by, position}
use Rattle.std.specs.List.{list_any, list_all, position_or_len}
use Rattle.std.proofs.Common.{sym, ◌∙◌, arith, ltb-true, ltb-false}
use Rattle.std.proofs.lemmas.List.Recursion.{is_count_by}
use Rattle.base.specs.Choice.{pick}
use Rattle.base.specs.Lists.{any, all, keep, first_at, copies}
use Rattle.base.specs.Laws.Tests.{by_test}
use Rattle.base.specs.Laws.Keep.{first_at_le}

module _ {A : Type 0} (p : A → Bool) where
  pub any_of : (l : List A) → list_any p l ≡ any p l
  any_of [] = refl
  any_of (x ∷ l) = elim (p x) as (λ b. (b || list_any p l) ≡ pick b true (any p l)) [ true ↦ refl | false ↦ any_of l ]

  pub all_of : (l : List A) → list_all p l ≡ all p l
  all_of l = refl

  pub keep_of : (l : List A) → filter p l ≡ keep p l
  keep_of l = refl

  pub first_at_of : (l : List A) → position_or_len p l ≡ first_at p l
  first_at_of [] = refl
  first_at_of (x ∷ l) = by_test (p x) (λ t. rw t) (λ t. rw t (omega (arith, first_at_of l)))

  -- the place of the first, as the library gives it
  pub position_of : (l : List A) → position p l ≡ pick (ltb (first_at p l) (length l)) (Some (first_at p l)) None
  position_of l = rw (first_at_of l) (by_test (ltb (first_at p l) (length l)) (λ t. rw t) (λ t. rw t))

  pub position_some : (l : List A) (i : ℕ) → position p l ≡ Some i → (first_at p l ≡ i) × (i < length l)
  position_some l i e =
      let f : pick (ltb (first_at p l) (length l)) (Some (first_at p l)) None ≡ Some i = sym (position_of l) ∙ e in
      by_test (ltb (first_at p l) (length l))
      (λ t. let g : Some (first_at p l) ≡ Some i = rw t at f in let h : first_at p l ≡ i = cc in (h, omega (arith, ltb-true (first_at p l) (length l) t)))
      (λ t. let g : None ≡ Some i = rw t at f in cc)

  pub position_none : (l : List A) → position p l ≡ None → first_at p l ≡ length l
  position_none l e =
      let f : pick (ltb (first_at p l) (length l)) (Some (first_at p l)) None ≡ None = sym (position_of l) ∙ e in
      by_test (ltb (first_at p l) (length l))
      (λ t. let g : Some (first_at p l) ≡ None = rw t at f in cc)
      (λ t. omega (arith, ltb-false (first_at p l) (length l) t, first_at_le p l))

pub copies_of : (n : ℕ) (l : List ℕ) → count_by (λ m. eqb m n) l ≡ copies n l
copies_of n l =
    sym (is_count_by (copies n) (λ m. eqb m n) refl
    (λ m k. by_test (eqb m n) (λ t. rw t) (λ t. rw t (omega arith))) l)
