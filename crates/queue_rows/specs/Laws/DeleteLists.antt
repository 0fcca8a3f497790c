-- What a delete leaves of the rows and of the entries, on lists. Assumes nothing.
use Rattle.std.specs.Prelude.{◌≡◌, refl, Bool, true, false, not, ◌&&◌, List, [], ◌∷◌, ℕ, suc, ◌+◌, ◌≤◌, eqb, leb, length, take, drop}
use Rattle.std.proofs.Common.{sym, ap, ◌∙◌, arith, length-append, length-take, length-drop, eqb-true, ne_eqb}
use Rattle.std.proofs.Math.Nat.{suc_inj}
use Rattle.base.specs.Lists.{keep, all, first_at, has, copies, once, within}
use Rattle.base.specs.Laws.Tests.{by_test, no, both, and_r, and_i, eqb_same}
use Rattle.base.specs.Laws.Keep.{any_keep, any_imp, none_imp, all_none, keep_all, all_keep_imp}
use Rattle.base.specs.Laws.Maps.{map_id}
use Rattle.base.specs.Laws.Counting.{once_keep, once_head, once_tail, has_some, some_has, once_copies, copies_once}
use Rattle.model.specs.Queues.{Queue}
use Rattle.queue_rows.specs.Table.{slots_of}
use Rattle.queue_rows.specs.Model.{queues_from}
use Rattle.queue_rows.specs.Sound.{pointed}
use Rattle.queue_rows.specs.Laws.Lists.{all_has, all_says}
use Rattle.queue_rows.specs.Laws.From.{from_known, from_same}
use Rattle.queue_rows.specs.Delete.{less, others_than, slots_but}

-- ---- lengths

pub less_le : (r : ℕ) (l : List ℕ) → length (less r l) ≤ length l
less_le r l = omega (arith, length-append (take r l) (drop (suc r) l), length-take r l, length-drop (suc r) l)

pub but_le : (n : ℕ) (os ss : List ℕ) → length (slots_but n os ss) ≤ length ss
but_le n [] ss = omega arith
but_le n (o ∷ os) [] = omega arith
but_le n (o ∷ os) (s ∷ ss) =
    let r = but_le n os ss in by_test (eqb o n) (λ e. rw e (omega arith)) (λ e. rw e (omega arith))

-- ---- the row of a name goes

module _ (n : ℕ) where
  abbrev named : ℕ → Bool
  named m = eqb m n

  abbrev other : ℕ → Bool
  other m = not (eqb m n)

  -- of names of which none stands twice, the others are left
  pub less_others : (ns : List ℕ) → once ns ≡ true → less (first_at (λ m. eqb m n) ns) ns ≡ others_than n ns
  less_others [] o = refl
  less_others (m ∷ ns) o =
      by_test (eqb m n)
      (λ e.
      let none : has n ns ≡ false = rw (eqb-true m n e) at (once_head m ns o) in
      rw e (sym (keep_all other ns (all_none named ns ∙ ap not none))))
      (λ e. rw e (ap (λ (l : List ℕ). m ∷ l) (less_others ns (once_tail m ns o))))

  -- an owner that is left has its row
  pub others_within : (os ns : List ℕ) → within os ns ≡ true → within (others_than n os) (others_than n ns) ≡ true
  others_within os ns w =
      all_keep_imp (λ k. has k ns) other (λ k. has k (others_than n ns))
      (λ k h d.
      any_keep (λ m. eqb m k) other ns
      ∙ any_imp (λ m. eqb m k) (λ m. other m && eqb m k) (λ m e. rw (eqb-true m k e, d, eqb_same k)) ns h) os w

  pub others_once : (ns : List ℕ) → once ns ≡ true → once (others_than n ns) ≡ true
  others_once ns o =
      let same = map_id (λ (x : ℕ). x) (λ x. refl) in
      ap once (sym (same (others_than n ns))) ∙ once_keep (λ (x : ℕ). x) other ns (ap once (same ns) ∙ o)

  pub others_none : (m : ℕ) (ns : List ℕ) → has m ns ≡ false → has m (others_than n ns) ≡ false
  others_none m ns h =
      any_keep (λ x. eqb x m) other ns ∙ none_imp (λ x. other x && eqb x m) (λ x. eqb x m) (λ x e. and_r (other x) (eqb x m) e) ns h

  copies_others : (m : ℕ) → eqb m n ≡ false → (os : List ℕ) → copies m (others_than n os) ≡ copies m os
  copies_others m d [] = refl
  copies_others m d (o ∷ os) =
      let r = copies_others m d os in
      by_test (eqb o n) (λ e. rw (e, ne_eqb o m (λ x. no (sym d ∙ (rw x at e)))) (omega arith)) (λ e. rw (e, r))

  -- a pointer stays where it may be
  pointed_others : (os ns ps : List ℕ) → has n ns ≡ false → pointed os ns ps ≡ true → pointed (others_than n os) ns ps ≡ true
  pointed_others os [] ps h a = a
  pointed_others os (m ∷ ns) [] h a = a
  pointed_others os (m ∷ ns) (p ∷ ps) h a =
      let c = both (leb p (copies m os)) (pointed os ns ps) a in
      by_test (eqb m n) (λ e. no (sym (rw e at h)))
      (λ e. and_i (ap (leb p) (copies_others m e os) ∙ c.0) (pointed_others os ns ps (rw e at h) c.1))

  pub pointed_less : (os ns ps : List ℕ) → length ns ≡ length ps → once ns ≡ true → pointed os ns ps ≡ true
      → pointed (others_than n os) (less (first_at (λ m. eqb m n) ns) ns) (less (first_at (λ m. eqb m n) ns) ps) ≡ true
  pointed_less os [] [] l o a = refl
  pointed_less os [] (p ∷ ps) l o a = absurd (omega arith)
  pointed_less os (m ∷ ns) [] l o a = absurd (omega arith)
  pointed_less os (m ∷ ns) (p ∷ ps) l o a =
      let c = both (leb p (copies m os)) (pointed os ns ps) a in
      by_test (eqb m n)
      (λ e. rw e (pointed_others os ns ps (rw (eqb-true m n e) at (once_head m ns o)) c.1))
      (λ e. rw e (and_i (ap (leb p) (copies_others m e os) ∙ c.0) (pointed_less os ns ps (suc_inj l) (once_tail m ns o) c.1)))

  -- the queues of the other names are left, where their items are
  module _ (f g : ℕ → List (List ℕ)) (same : (m : ℕ) → eqb m n ≡ false → g m ≡ f m) where
    from_others : (ns ps : List ℕ) → length ns ≡ length ps → has n ns ≡ false
        → queues_from g ns ps ≡ keep (λ (x : Queue). not (eqb x.name n)) (queues_from f ns ps)
    from_others ns ps l h =
        from_same f g ns ps (λ m k. same m (ne_eqb m n (λ e. no (sym h ∙ (rw e at k)))))
        ∙ sym (keep_all (λ (x : Queue). not (eqb x.name n)) (queues_from f ns ps)
        (all_none (λ (x : Queue). eqb x.name n) (queues_from f ns ps) ∙ ap not (from_known f n ns ps l ∙ h)))

    pub from_less : (ns ps : List ℕ) → length ns ≡ length ps → once ns ≡ true → has n ns ≡ true
        → queues_from g (less (first_at (λ m. eqb m n) ns) ns) (less (first_at (λ m. eqb m n) ns) ps)
        ≡ keep (λ (x : Queue). not (eqb x.name n)) (queues_from f ns ps)
    from_less [] ps l o h = no h
    from_less (m ∷ ns) [] l o h = absurd (omega arith)
    from_less (m ∷ ns) (p ∷ ps) l o h =
        by_test (eqb m n)
        (λ e. rw e (from_others ns ps (suc_inj l) (rw (eqb-true m n e) at (once_head m ns o))))
        (λ e. rw e (cc (same m e, from_less ns ps (suc_inj l) (once_tail m ns o) (rw e at h))))

  -- ---- its entries go

  -- as many slots stay as owners
  pub but_long : (os ss : List ℕ) → length os ≡ length ss → length (slots_but n os ss) ≡ length (others_than n os)
  but_long [] ss l = refl
  but_long (o ∷ os) [] l = absurd (omega arith)
  but_long (o ∷ os) (s ∷ ss) l =
      let r = but_long os ss (suc_inj l) in
      by_test (eqb o n) (λ e. rw (e, r)) (λ e. rw (e, r))

  -- those that stay and those that go are all
  pub others_long : (os : List ℕ) → length (others_than n os) + copies n os ≡ length os
  others_long [] = refl
  others_long (o ∷ os) =
      by_test (eqb o n) (λ e. rw e (omega (arith, others_long os))) (λ e. rw e (omega (arith, others_long os)))

  -- each slot is one of its own or one of the others'
  pub copies_split : (t : ℕ) (os ss : List ℕ) → length os ≡ length ss → copies t ss ≡ copies t (slots_of n os ss) + copies t (slots_but n os ss)
  copies_split t [] [] l = refl
  copies_split t [] (s ∷ ss) l = absurd (omega arith)
  copies_split t (o ∷ os) [] l = absurd (omega arith)
  copies_split t (o ∷ os) (s ∷ ss) l =
      let r = copies_split t os ss (suc_inj l) in
      by_test (eqb o n) (λ e. rw e (omega arith)) (λ e. rw e (omega arith))

  -- another's slots are not touched
  pub slots_others : (m : ℕ) → eqb m n ≡ false → (os ss : List ℕ) → length os ≡ length ss
      → slots_of m (others_than n os) (slots_but n os ss) ≡ slots_of m os ss
  slots_others m d [] ss l = refl
  slots_others m d (o ∷ os) [] l = absurd (omega arith)
  slots_others m d (o ∷ os) (s ∷ ss) l =
      let r = slots_others m d os ss (suc_inj l) in
      by_test (eqb o n)
      (λ e. rw (e, r, ne_eqb o m (λ x. no (sym d ∙ (rw x at e)))))
      (λ e. rw (e, r))

  module _ (os ss : List ℕ) (l : length os ≡ length ss) where
    pub but_has : (t : ℕ) → has t (slots_but n os ss) ≡ true → has t ss ≡ true
    but_has t h = some_has t ss (omega (arith, has_some t (slots_but n os ss) h, copies_split t os ss l))

    pub but_all : (p : ℕ → Bool) → all p ss ≡ true → all p (slots_but n os ss) ≡ true
    but_all p a = all_has p (slots_but n os ss) (λ t h. all_says p ss a t (but_has t h))

    module _ (o : once ss ≡ true) where
      pub but_once : once (slots_but n os ss) ≡ true
      but_once = copies_once (slots_but n os ss) (λ t. omega (arith, copies_split t os ss l, once_copies ss o t))

      -- a slot of the others' is none of its own
      pub but_other : (t : ℕ) → has t (slots_but n os ss) ≡ true → copies t (slots_of n os ss) ≡ 0
      but_other t h = omega (arith, has_some t (slots_but n os ss) h, copies_split t os ss l, once_copies ss o t)
