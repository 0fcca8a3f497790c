-- The queues that rows and a function of items stand for: their names, their count, the queue of a name, the items together; and what a row
-- more, another pointer or other items make of them. Of any rows, so that no operation needs an induction of its own. Assumes nothing.
use Rattle.std.specs.Prelude.{◌≡◌, refl, Bool, true, false, ◌&&◌, List, [], ◌∷◌, ◌++◌, map, ℕ, ◌+◌, eqb, leb, length, get_or, set}
use Rattle.std.proofs.Common.{sym, ap, ◌∙◌, arith, eqb-true}
use Rattle.std.proofs.Math.Nat.{suc_inj}
use Rattle.std.proofs.lemmas.List.{length-map}
use Rattle.base.specs.Choice.{pick}
use Rattle.base.specs.Lists.{all, first, first_at, has, copies, once, within}
use Rattle.base.specs.Bytes.{is_name}
use Rattle.base.specs.Laws.Tests.{by_test, no, and_l, and_r, and_i, eqb_same, eqb_sym}
use Rattle.base.specs.Laws.Counting.{has_map, once_head, once_tail, has_some, once_copies}
use Rattle.model.specs.Limits.{Limits, is_item}
use Rattle.model.specs.Queues.{Queue, known_queue, at_queue, items_in, point_at, sound_queue}
use Rattle.base.specs.Laws.Maps.{map_none}
use Rattle.queue_rows.specs.Table.{slots_of}
use Rattle.queue_rows.specs.Model.{queues_from}
use Rattle.queue_rows.specs.Sound.{pointed}

-- ---- the entries of an owner

pub slots_count : (n : ℕ) (os ss : List ℕ) → length os ≡ length ss → length (slots_of n os ss) ≡ copies n os
slots_count n [] ss l = refl
slots_count n (o ∷ os) [] l = absurd (omega arith)
slots_count n (o ∷ os) (s ∷ ss) l =
    let r = slots_count n os ss (suc_inj l) in
    by_test (eqb o n) (λ e. rw e (omega arith)) (λ e. rw e (omega arith))

-- what passes for all slots passes for an owner's
pub slots_all : (p : ℕ → Bool) (n : ℕ) (os ss : List ℕ) → all p ss ≡ true → all p (slots_of n os ss) ≡ true
slots_all p n [] ss h = refl
slots_all p n (o ∷ os) [] h = refl
slots_all p n (o ∷ os) (s ∷ ss) h =
    let r = slots_all p n os ss (and_r (p s) (all p ss) h) in
    by_test (eqb o n) (λ e. rw e (and_i (and_l (p s) (all p ss) h) r)) (λ e. rw e r)

-- one entry more
pub slots_snoc : (n : ℕ) (os ss : List ℕ) (o s : ℕ) → length os ≡ length ss
    → slots_of n (os ++ (o ∷ [])) (ss ++ (s ∷ [])) ≡ slots_of n os ss ++ pick (eqb o n) (s ∷ []) []
slots_snoc n [] [] o s l = refl
slots_snoc n [] (t ∷ ss) o s l = absurd (omega arith)
slots_snoc n (p ∷ os) [] o s l = absurd (omega arith)
slots_snoc n (p ∷ os) (t ∷ ss) o s l =
    let r = slots_snoc n os ss o s (suc_inj l) in
    by_test (eqb p n) (λ e. rw (e, r)) (λ e. rw (e, r))

-- an owner of none
pub slots_none : (n : ℕ) (os ss : List ℕ) → has n os ≡ false → slots_of n os ss ≡ []
slots_none n [] ss h = refl
slots_none n (o ∷ os) [] h = refl
slots_none n (o ∷ os) (s ∷ ss) h =
    by_test (eqb o n) (λ e. no (sym (rw e at h))) (λ e. rw e (slots_none n os ss (rw e at h)))

-- ---- rows

module _ (f : ℕ → List (List ℕ)) where
  pub from_names : (ns ps : List ℕ) → length ns ≡ length ps → map (λ (q : Queue). q.name) (queues_from f ns ps) ≡ ns
  from_names [] ps l = refl
  from_names (n ∷ ns) [] l = absurd (omega arith)
  from_names (n ∷ ns) (p ∷ ps) l = cc (from_names ns ps (suc_inj l))

  pub from_length : (ns ps : List ℕ) → length ns ≡ length ps → length (queues_from f ns ps) ≡ length ns
  from_length ns ps l = sym (length-map (queues_from f ns ps) (λ (q : Queue). q.name)) ∙ ap length (from_names ns ps l)

  pub from_known : (n : ℕ) (ns ps : List ℕ) → length ns ≡ length ps → known_queue (queues_from f ns ps) n ≡ has n ns
  from_known n ns ps l = sym (has_map (λ (q : Queue). q.name) n (queues_from f ns ps)) ∙ ap (has n) (from_names ns ps l)

  -- the queue of a name that has a row
  pub from_queue : (d : Queue) (n : ℕ) (ns ps : List ℕ) → length ns ≡ length ps → has n ns ≡ true
      → first (λ (q : Queue). eqb q.name n) d (queues_from f ns ps)
      ≡ record { name = n; pointer = get_or ps (first_at (λ m. eqb m n) ns) 0; items = f n }
  from_queue d n [] ps l h = no h
  from_queue d n (m ∷ ns) [] l h = absurd (omega arith)
  from_queue d n (m ∷ ns) (p ∷ ps) l h =
      by_test (eqb m n) (λ e. rw e (cc (eqb-true m n e))) (λ e. rw e (from_queue d n ns ps (suc_inj l) (rw e at h)))

  -- one row more
  pub from_snoc : (n p : ℕ) (ns ps : List ℕ) → length ns ≡ length ps
      → queues_from f (ns ++ (n ∷ [])) (ps ++ (p ∷ [])) ≡ queues_from f ns ps ++ (record { name = n; pointer = p; items = f n } ∷ [])
  from_snoc n p [] [] l = refl
  from_snoc n p [] (r ∷ ps) l = absurd (omega arith)
  from_snoc n p (m ∷ ns) [] l = absurd (omega arith)
  from_snoc n p (m ∷ ns) (r ∷ ps) l = cc (from_snoc n p ns ps (suc_inj l))

  -- another pointer in the row of a name
  pub from_point : (n p : ℕ) (ns ps : List ℕ) → length ns ≡ length ps → once ns ≡ true
      → queues_from f ns (set ps (first_at (λ m. eqb m n) ns) p) ≡ at_queue n (point_at p) (queues_from f ns ps)
  from_point n p [] ps l o = refl
  from_point n p (m ∷ ns) [] l o = absurd (omega arith)
  from_point n p (m ∷ ns) (r ∷ ps) l o =
      by_test (eqb m n)
      (λ e.
      let none : known_queue (queues_from f ns ps) n ≡ false = from_known n ns ps (suc_inj l) ∙ (rw (eqb-true m n e) at (once_head m ns o)) in
      rw (e, map_none (λ (q : Queue). eqb q.name n) (point_at p) (queues_from f ns ps) none))
      (λ e. rw (e, from_point n p ns ps (suc_inj l) (once_tail m ns o)))

  -- other items, of names that have no row
  pub from_same : (g : ℕ → List (List ℕ)) (ns ps : List ℕ) → ((m : ℕ) → has m ns ≡ true → g m ≡ f m) → queues_from g ns ps ≡ queues_from f ns ps
  from_same g [] ps h = refl
  from_same g (n ∷ ns) [] h = refl
  from_same g (n ∷ ns) (p ∷ ps) h =
      cc (
        h n (rw (eqb_same n)),
        from_same g ns ps (λ m e. h m (by_test (eqb n m) (λ t. rw t) (λ t. rw t e))),
      )

  -- other items of one name
  pub from_at : (g : ℕ → List (List ℕ)) (n : ℕ) (c : Queue → Queue) (ns ps : List ℕ) → ((m : ℕ) → eqb m n ≡ false → g m ≡ f m)
      → ((p : ℕ) → record { name = n; pointer = p; items = g n } ≡ c (record { name = n; pointer = p; items = f n }))
      → queues_from g ns ps ≡ at_queue n c (queues_from f ns ps)
  from_at g n c [] ps h k = refl
  from_at g n c (m ∷ ns) [] h k = refl
  from_at g n c (m ∷ ns) (p ∷ ps) h k =
      let r = from_at g n c ns ps h k in
      by_test (eqb m n)
      (λ e. rw (e, r) (rw (eqb-true m n e, k p)))
      (λ e. rw (e, r, h m e))

-- ---- the items together

-- f's sum over a list
abbrev sum : (ℕ → ℕ) → List ℕ → ℕ
sum f [] = 0
sum f (n ∷ ns) = f n + sum f ns

sum_same : (f g : ℕ → ℕ) → ((n : ℕ) → f n ≡ g n) → (ns : List ℕ) → sum f ns ≡ sum g ns
sum_same f g h [] = refl
sum_same f g h (n ∷ ns) = cc (h n, sum_same f g h ns)

sum_zero : (ns : List ℕ) → sum (λ (n : ℕ). 0) ns ≡ 0
sum_zero [] = refl
sum_zero (n ∷ ns) = omega (arith, sum_zero ns)

-- one more is counted with each name that it has
sum_one : (o : ℕ) (g : ℕ → ℕ) (ns : List ℕ) → sum (λ (n : ℕ). pick (eqb o n) 1 0 + g n) ns ≡ copies o ns + sum g ns
sum_one o g [] = refl
sum_one o g (n ∷ ns) = rw (eqb_sym o n) (omega (arith, sum_one o g ns))

-- each of a list is counted once where each is there once
sum_copies : (ns os : List ℕ) → once ns ≡ true → within os ns ≡ true → sum (λ (n : ℕ). copies n os) ns ≡ length os
sum_copies ns [] o w = sum_zero ns
sum_copies ns (x ∷ os) o w =
    let one : copies x ns ≡ 1 = omega (arith, once_copies ns o x, has_some x ns (and_l (has x ns) (within os ns) w)) in
    omega (arith, sum_one x (λ (n : ℕ). copies n os) ns, sum_copies ns os o (and_r (has x ns) (within os ns) w))

from_sum : (f : ℕ → List (List ℕ)) (ns ps : List ℕ) → length ns ≡ length ps
    → items_in (queues_from f ns ps) ≡ sum (λ (n : ℕ). length (f n)) ns
from_sum f [] ps l = refl
from_sum f (n ∷ ns) [] l = absurd (omega arith)
from_sum f (n ∷ ns) (p ∷ ps) l = omega (arith, from_sum f ns ps (suc_inj l))

-- as many items as entries, where each entry's owner is one of the names
pub from_items : (f : ℕ → List (List ℕ)) (ns ps os : List ℕ) → length ns ≡ length ps → once ns ≡ true → within os ns ≡ true
    → ((n : ℕ) → length (f n) ≡ copies n os) → items_in (queues_from f ns ps) ≡ length os
from_items f ns ps os l o w h =
    from_sum f ns ps l ∙ sum_same (λ (n : ℕ). length (f n)) (λ (n : ℕ). copies n os) h ns ∙ sum_copies ns os o w

-- ---- sound rows

module _ (L : Limits) (f : ℕ → List (List ℕ)) (os : List ℕ) (counted : (n : ℕ) → length (f n) ≡ copies n os) where
  pub from_sound : (ns ps : List ℕ) → all (is_name 8) ns ≡ true → pointed os ns ps ≡ true → ((n : ℕ) → all (is_item L) (f n) ≡ true)
      → all (sound_queue L) (queues_from f ns ps) ≡ true
  from_sound [] ps a h k = refl
  from_sound (n ∷ ns) [] a h k = refl
  from_sound (n ∷ ns) (p ∷ ps) a h k =
      let here : leb p (length (f n)) ≡ true = rw (counted n) (and_l (leb p (copies n os)) (pointed os ns ps) h) in
      and_i (and_i (and_i (and_l (is_name 8 n) (all (is_name 8) ns) a) here) (k n))
      (from_sound ns ps (and_r (is_name 8 n) (all (is_name 8) ns) a) (and_r (leb p (copies n os)) (pointed os ns ps) h) k)

  pub sound_pointed : (ns ps : List ℕ) → all (sound_queue L) (queues_from f ns ps) ≡ true → pointed os ns ps ≡ true
  sound_pointed [] ps h = refl
  sound_pointed (n ∷ ns) [] h = refl
  sound_pointed (n ∷ ns) (p ∷ ps) h =
      let q : Queue = record { name = n; pointer = p; items = f n } in
      let rest : Bool = all (sound_queue L) (queues_from f ns ps) in
      let two = and_l (is_name 8 n && leb p (length (f n))) (all (is_item L) (f n)) (and_l (sound_queue L q) rest h) in
      and_i (rw (counted n) at (and_r (is_name 8 n) (leb p (length (f n))) two)) (sound_pointed ns ps (and_r (sound_queue L q) rest h))

  pub sound_names_lem : (ns ps : List ℕ) → length ns ≡ length ps → all (sound_queue L) (queues_from f ns ps) ≡ true → all (is_name 8) ns ≡ true
  sound_names_lem [] ps l h = refl
  sound_names_lem (n ∷ ns) [] l h = absurd (omega arith)
  sound_names_lem (n ∷ ns) (p ∷ ps) l h =
      let q : Queue = record { name = n; pointer = p; items = f n } in
      let rest : Bool = all (sound_queue L) (queues_from f ns ps) in
      let two = and_l (is_name 8 n && leb p (length (f n))) (all (is_item L) (f n)) (and_l (sound_queue L q) rest h) in
      and_i (and_l (is_name 8 n) (leb p (length (f n))) two) (sound_names_lem ns ps (suc_inj l) (and_r (sound_queue L q) rest h))
