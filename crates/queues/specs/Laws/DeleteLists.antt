-- What a delete leaves of the rows and of the entries, on lists. Assumes nothing.
use Rattle.std.specs.Prelude.{◌≡◌, refl, Bool, true, false, not, ◌&&◌, List, [], ◌∷◌, ℕ, suc, ◌+◌, ◌<◌, eqb, length, take, drop}
use Rattle.std.proofs.Common.{sym, ap, ◌∙◌, subst, arith, length-append, length-drop, length-take-le, eqb-true, ne_eqb}
use Rattle.std.proofs.Math.Nat.{suc_inj}
use Rattle.base.specs.Lists.{keep, all, first_at, has, copies, once, within}
use Rattle.base.specs.Laws.Tests.{by_test, no, and_l, and_r, and_i, eqb_same, pick_same}
use Rattle.base.specs.Laws.Keep.{any_keep, any_imp, all_none, keep_all, all_keep_imp}
use Rattle.base.specs.Laws.Counting.{once_head, once_tail, has_some, some_has, once_copies, copies_once}
use Rattle.model.specs.Queues.{Queue}
use Rattle.queues.specs.Table.{slots_of}
use Rattle.queues.specs.Model.{queues_from}
use Rattle.queues.specs.Laws.From.{from_known, from_same}
use Rattle.queues.specs.Delete.{less, others_than, slots_but}

-- ---- what is true of each

pub all_has : (p : ℕ → Bool) (l : List ℕ) → ((t : ℕ) → has t l ≡ true → p t ≡ true) → all p l ≡ true
all_has p [] h = refl
all_has p (x ∷ l) h = and_i (h x (rw (eqb_same x))) (all_has p l (λ t e. h t (rw e (pick_same (eqb x t) true))))

pub all_says : (p : ℕ → Bool) (l : List ℕ) → all p l ≡ true → (t : ℕ) → has t l ≡ true → p t ≡ true
all_says p [] a t h = no h
all_says p (x ∷ l) a t h =
    by_test (eqb x t) (λ e. subst (λ (k : ℕ). p k ≡ true) (eqb-true x t e) (and_l (p x) (all p l) a))
    (λ e. all_says p l (and_r (p x) (all p l) a) t (rw e at h))

-- ---- the row of a name goes

pub less_length : (r : ℕ) (l : List ℕ) → r < length l → length (less r l) + 1 ≡ length l
less_length r l h = omega (arith, length-append (take r l) (drop (suc r) l), length-take-le r l (omega arith), length-drop (suc r) l)

module _ (n : ℕ) where
  abbrev named : ℕ → Bool
  named m = eqb m n

  abbrev other : ℕ → Bool
  other m = not (eqb m n)

  -- of names of which none stands twice, the others are left
  pub less_others : (ns : List ℕ) → once ns ≡ true → less (first_at (λ m. eqb m n) ns) ns ≡ others_than n ns
  less_others [] o = refl
  less_others (m ∷ ns) o =
      by_test (eqb m n)
      (λ e.
      let none : has n ns ≡ false = rw (eqb-true m n e) at (once_head m ns o) in
      rw e (sym (keep_all other ns (all_none named ns ∙ ap not none))))
      (λ e. rw e (ap (λ (l : List ℕ). m ∷ l) (less_others ns (once_tail m ns o))))

  -- an owner that is left has its row
  pub others_within : (os ns : List ℕ) → within os ns ≡ true → within (others_than n os) (others_than n ns) ≡ true
  others_within os ns w =
      all_keep_imp (λ k. has k ns) other (λ k. has k (others_than n ns))
      (λ k h d.
      any_keep (λ m. eqb m k) other ns
      ∙ any_imp (λ m. eqb m k) (λ m. other m && eqb m k) (λ m e. rw (eqb-true m k e, d, eqb_same k)) ns h) os w

  -- the queues of the other names are left, where their items are
  module _ (f g : ℕ → List (List ℕ)) (same : (m : ℕ) → eqb m n ≡ false → g m ≡ f m) where
    from_others : (ns ps : List ℕ) → length ns ≡ length ps → has n ns ≡ false
        → queues_from g ns ps ≡ keep (λ (x : Queue). not (eqb x.name n)) (queues_from f ns ps)
    from_others ns ps l h =
        from_same f g ns ps (λ m k. same m (ne_eqb m n (λ e. no (sym h ∙ (rw e at k)))))
        ∙ sym (keep_all (λ (x : Queue). not (eqb x.name n)) (queues_from f ns ps)
        (all_none (λ (x : Queue). eqb x.name n) (queues_from f ns ps) ∙ ap not (from_known f n ns ps l ∙ h)))

    pub from_less : (ns ps : List ℕ) → length ns ≡ length ps → once ns ≡ true → has n ns ≡ true
        → queues_from g (less (first_at (λ m. eqb m n) ns) ns) (less (first_at (λ m. eqb m n) ns) ps)
        ≡ keep (λ (x : Queue). not (eqb x.name n)) (queues_from f ns ps)
    from_less [] ps l o h = no h
    from_less (m ∷ ns) [] l o h = absurd (omega arith)
    from_less (m ∷ ns) (p ∷ ps) l o h =
        by_test (eqb m n)
        (λ e. rw e (from_others ns ps (suc_inj l) (rw (eqb-true m n e) at (once_head m ns o))))
        (λ e. rw e (cc (same m e, from_less ns ps (suc_inj l) (once_tail m ns o) (rw e at h))))

  -- ---- its entries go

  -- as many slots stay as owners
  pub but_long : (os ss : List ℕ) → length os ≡ length ss → length (slots_but n os ss) ≡ length (others_than n os)
  but_long [] ss l = refl
  but_long (o ∷ os) [] l = absurd (omega arith)
  but_long (o ∷ os) (s ∷ ss) l =
      let r = but_long os ss (suc_inj l) in
      by_test (eqb o n) (λ e. rw (e, r)) (λ e. rw (e, r))

  -- those that stay and those that go are all
  pub others_long : (os : List ℕ) → length (others_than n os) + copies n os ≡ length os
  others_long [] = refl
  others_long (o ∷ os) =
      by_test (eqb o n) (λ e. rw e (omega (arith, others_long os))) (λ e. rw e (omega (arith, others_long os)))

  -- each slot is one of its own or one of the others'
  pub copies_split : (t : ℕ) (os ss : List ℕ) → length os ≡ length ss → copies t ss ≡ copies t (slots_of n os ss) + copies t (slots_but n os ss)
  copies_split t [] [] l = refl
  copies_split t [] (s ∷ ss) l = absurd (omega arith)
  copies_split t (o ∷ os) [] l = absurd (omega arith)
  copies_split t (o ∷ os) (s ∷ ss) l =
      let r = copies_split t os ss (suc_inj l) in
      by_test (eqb o n) (λ e. rw e (omega arith)) (λ e. rw e (omega arith))

  -- another's slots are not touched
  pub slots_others : (m : ℕ) → eqb m n ≡ false → (os ss : List ℕ) → length os ≡ length ss
      → slots_of m (others_than n os) (slots_but n os ss) ≡ slots_of m os ss
  slots_others m d [] ss l = refl
  slots_others m d (o ∷ os) [] l = absurd (omega arith)
  slots_others m d (o ∷ os) (s ∷ ss) l =
      let r = slots_others m d os ss (suc_inj l) in
      by_test (eqb o n)
      (λ e. rw (e, r, ne_eqb o m (λ x. no (sym d ∙ (rw x at e)))))
      (λ e. rw (e, r))

  module _ (os ss : List ℕ) (l : length os ≡ length ss) where
    pub but_has : (t : ℕ) → has t (slots_but n os ss) ≡ true → has t ss ≡ true
    but_has t h = some_has t ss (omega (arith, has_some t (slots_but n os ss) h, copies_split t os ss l))

    pub but_all : (p : ℕ → Bool) → all p ss ≡ true → all p (slots_but n os ss) ≡ true
    but_all p a = all_has p (slots_but n os ss) (λ t h. all_says p ss a t (but_has t h))

    module _ (o : once ss ≡ true) where
      pub but_once : once (slots_but n os ss) ≡ true
      but_once = copies_once (slots_but n os ss) (λ t. omega (arith, copies_split t os ss l, once_copies ss o t))

      -- a slot of the others' is none of its own
      pub but_other : (t : ℕ) → has t (slots_but n os ss) ≡ true → copies t (slots_of n os ss) ≡ 0
      but_other t h = omega (arith, has_some t (slots_but n os ss) h, copies_split t os ss l, once_copies ss o t)
