-- Of any lists: what is true of each, what stands in a list, a map that changes at one element, and a live part laid over a longer list.
-- Assumes nothing.
use Rattle.std.specs.Prelude.{◌≡◌, refl, Bool, true, false, ◌&&◌, List, [], ◌∷◌, map, ℕ, zero, suc, ◌<◌, ◌≤◌, eqb, length, take, get_or, set}
use Rattle.std.proofs.Common.{sym, ◌∙◌, subst, arith, length-take, eqb-true}
use Rattle.base.specs.Lists.{all, has, once, over}
use Rattle.base.specs.Laws.Tests.{by_test, no, both, and_l, and_r, and_i, eqb_same, pick_same}
use Rattle.base.specs.Laws.Counting.{once_head, once_tail}
use Rattle.base.specs.Laws.Over.{length_over}

-- ---- what is true of each

pub all_both : (p r : ℕ → Bool) (l : List ℕ) → all p l ≡ true → all r l ≡ true → all (λ x. p x && r x) l ≡ true
all_both p r [] h g = refl
all_both p r (x ∷ l) h g =
    let a = both (p x) (all p l) h in
    let c = both (r x) (all r l) g in
    and_i (and_i a.0 c.0) (all_both p r l a.1 c.1)

pub all_has : (p : ℕ → Bool) (l : List ℕ) → ((t : ℕ) → has t l ≡ true → p t ≡ true) → all p l ≡ true
all_has p [] h = refl
all_has p (x ∷ l) h = and_i (h x (rw (eqb_same x))) (all_has p l (λ t e. h t (rw e (pick_same (eqb x t) true))))

pub all_says : (p : ℕ → Bool) (l : List ℕ) → all p l ≡ true → (t : ℕ) → has t l ≡ true → p t ≡ true
all_says p [] a t h = no h
all_says p (x ∷ l) a t h =
    by_test (eqb x t) (λ e. subst (λ (k : ℕ). p k ≡ true) (eqb-true x t e) (and_l (p x) (all p l) a))
    (λ e. all_says p l (and_r (p x) (all p l) a) t (rw e at h))

-- ---- what stands in a list

pub has_at : (ss : List ℕ) (i d : ℕ) → i < length ss → has (get_or ss i d) ss ≡ true
has_at [] i d h = absurd (omega arith)
has_at (x ∷ ss) zero d h = rw (eqb_same x)
has_at (x ∷ ss) (suc i) d h = by_test (eqb x (get_or ss i d)) (λ e. rw e) (λ e. rw e (has_at ss i d (omega arith)))

-- a map that is another at one element alone, which stands once
module _ {A : Type 0} (f g : ℕ → A) (p : ℕ → Bool) (x : ℕ) (same : (y : ℕ) → p y ≡ true → eqb y x ≡ false → g y ≡ f y) where
  pub map_absent : (ss : List ℕ) → all p ss ≡ true → has x ss ≡ false → map g ss ≡ map f ss
  map_absent [] a h = refl
  map_absent (y ∷ ss) a h =
      let c = both (p y) (all p ss) a in
      by_test (eqb y x) (λ e. no (sym (rw e at h))) (λ e. cc (same y c.0 e, map_absent ss c.1 (rw e at h)))

  pub map_at : (ss : List ℕ) (i d : ℕ) → all p ss ≡ true → once ss ≡ true → i < length ss → get_or ss i d ≡ x → map g ss ≡ set (map f ss) i (g x)
  map_at [] i d a o h e = absurd (omega arith)
  map_at (y ∷ ss) zero d a o h e =
      let r : map g ss ≡ map f ss = map_absent ss (both (p y) (all p ss) a).1 (subst (λ (k : ℕ). has k ss ≡ false) e (once_head y ss o)) in
      cc (e, r)
  map_at (y ∷ ss) (suc i) d a o h e =
      let c = both (p y) (all p ss) a in
      let apart : eqb y x ≡ false =
      by_test (eqb y x)
      (λ t.
      let there : has x ss ≡ true = subst (λ (k : ℕ). has k ss ≡ true) e (has_at ss i d (omega arith)) in
      no (sym (once_head y ss o) ∙ (subst (λ (k : ℕ). has k ss ≡ true) (sym (eqb-true y x t)) there)))
      (λ t. t) in
      cc (same y c.0 apart, map_at ss i d c.1 (once_tail y ss o) (omega arith) e)

-- ---- a live part

-- what is laid over a live part that is no shorter leaves the length
pub live_over : (c : ℕ) (ks l : List ℕ) → length ks ≤ length (take c l) → length (over ks l) ≡ length l
live_over c ks l h = length_over ks l (omega (arith, length-take c l))
