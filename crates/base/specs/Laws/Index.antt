-- What stands at an index, cut out or changed, is what its name says, where every name stands once. Assumes nothing.
use Rattle.std.specs.Prelude.{ℕ, zero, suc, ◌<◌, ◌≡◌, true, false, not, List, [], ◌∷◌, map, eqb, length, get_or, set}
use Rattle.std.proofs.Common.{sym, ap, ◌∙◌, arith, ne_eqb}
use Rattle.base.specs.Choice.{pick}
use Rattle.base.specs.Lists.{keep, any, has, once, cut_at}
use Rattle.base.specs.Laws.Tests.{by_test, no, eqb_same}
use Rattle.base.specs.Laws.Keep.{all_none, keep_all}
use Rattle.base.specs.Laws.Maps.{map_none}
use Rattle.base.specs.Laws.Counting.{has_map, once_head, once_tail}

module _ {A : Type 0} (f : A → ℕ) where
  -- the name at an index stands in the list
  has_at : (l : List A) (i : ℕ) (d : A) → i < length l → has (f (get_or l i d)) (map f l) ≡ true
  has_at [] i d h = absurd (omega arith)
  has_at (x ∷ l) zero d h = rw (eqb_same (f x))
  has_at (x ∷ l) (suc i) d h =
      by_test (eqb (f x) (f (get_or l i d))) (λ e. rw e) (λ e. rw e (has_at l i d (omega arith)))

  -- another than the head
  apart : (x : A) (l : List A) (i : ℕ) (d : A) → once (map f (x ∷ l)) ≡ true → i < length l → eqb (f x) (f (get_or l i d)) ≡ false
  apart x l i d o h =
      ne_eqb (f x) (f (get_or l i d)) (λ e. no (sym (once_head (f x) (map f l) o) ∙ rw e (has_at l i d h)))

  -- no other has the name of the head
  alone : (x : A) (l : List A) → once (map f (x ∷ l)) ≡ true → any (λ y. eqb (f y) (f x)) l ≡ false
  alone x l o = sym (has_map f (f x) l) ∙ once_head (f x) (map f l) o

  pub cut_by_name : (l : List A) (i : ℕ) (d : A) → once (map f l) ≡ true → i < length l
      → cut_at i l ≡ keep (λ x. not (eqb (f x) (f (get_or l i d)))) l
  cut_by_name [] i d o h = absurd (omega arith)
  cut_by_name (x ∷ l) zero d o h =
      rw (eqb_same (f x))
      (sym (keep_all (λ y. not (eqb (f y) (f x))) l (all_none (λ y. eqb (f y) (f x)) l ∙ ap not (alone x l o))))
  cut_by_name (x ∷ l) (suc i) d o h =
      rw (apart x l i d o (omega arith)) (ap (λ (r : List A). x ∷ r) (cut_by_name l i d (once_tail (f x) (map f l) o) (omega arith)))

  pub set_by_name : (g : A → A) (l : List A) (i : ℕ) (d : A) → once (map f l) ≡ true → i < length l
      → set l i (g (get_or l i d)) ≡ map (λ x. pick (eqb (f x) (f (get_or l i d))) (g x) x) l
  set_by_name g [] i d o h = absurd (omega arith)
  set_by_name g (x ∷ l) zero d o h = rw (eqb_same (f x), map_none (λ y. eqb (f y) (f x)) g l (alone x l o))
  set_by_name g (x ∷ l) (suc i) d o h =
      rw (apart x l i d o (omega arith)) (ap (λ (r : List A). x ∷ r) (set_by_name g l i d (once_tail (f x) (map f l) o) (omega arith)))
