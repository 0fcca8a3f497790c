-- Rewrite: the cases of the exact definition, and that from sound queues it does what the model's plan says and leaves sound queues. The
-- items of a queue lie in slots of their own, so that one item changes and no other. Assumes nothing.
use Rattle.std.specs.Prelude.{◌≡◌, refl, Bool, false, not, ℕ, zero, suc, ◌+◌, ◌-◌, ◌*◌, ◌<◌, ◌≤◌, eqb, leb, ltb, drop, set, Option, Some, None, Ok, Err}
use Rattle.std.proofs.Common.{sym, ◌∙◌, subst, arith, get_or-set_other}
use Rattle.std.proofs.Math.Path.{ap}
use Rattle.std.proofs.Math.Bool.{true}
use mathlib.Core.List.{List, [], ◌∷◌, map}
use Rattle.std.proofs.Math.ListN.{length, take, get_or}
use Rattle.std.proofs.Math.Seq.{paste, get_or-set_same}
use borrow.Author.Tests.{eqb-true, eqb-false, le-leb, leb-true, ltb-false, not-false, not-true}
use Rattle.base.specs.Choice.{pick}
use Rattle.base.specs.Lists.{all, has, copies, once}
use Rattle.base.specs.Bytes.{blank}
use Rattle.base.specs.Laws.Tests.{by_test, no, and_l, and_r, and_i, eqb_same, eqb_sym, pick_elim}
use Rattle.base.specs.Laws.Keep.{all_imp}
use Rattle.base.specs.Laws.Counting.{none_has, has_some, once_head, once_tail, once_copies, copies_once}
use Rattle.model.specs.Limits.{cabinet, some}
use Rattle.model.specs.Plans.{Plan, Outcome, first_of, obey}
use Rattle.model.specs.Queues.{Queue, at_queue, rewritten, rewrite}
use Rattle.base.specs.Laws.Tests.{or_false_l, or_false_r}
use Rattle.queues.specs.declared.Queues.{Queues}
use Rattle.queues.specs.declared.rewrite.RewriteError.TheVariants.{WrongLength, UnknownQueue, NoSuchItem, Invalid}
use Rattle.queues.specs.declared.rewrite.Rewritten.{Rewritten}
use Rattle.queues.specs.Table.{names_of, pointers_of, owners, places, slots_of, slots_in, contents}
use Rattle.queues.specs.Model.{items_of, queues_of}
use Rattle.queues.specs.Sound.{length_in, sound_q, Did}
use Rattle.queues.specs.Place.{has_item, slot_in}
use Rattle.queues.specs.Rewrite.{condition_of, resized, Lent, lent, answer, at_slot, rewrite_in}
use Rattle.queues.specs.Laws.Typed.{Typed}
use Rattle.queues.specs.Laws.From.{from_at}
use Rattle.queues.specs.Laws.Paste.{paste_there, paste_other}
use Rattle.queues.specs.Laws.Stands.{QueuesHold, holds, held_sound, known_of_lem}
use Rattle.queues.proofs.Laws.Append.{wrong}
use Rattle.queues.specs.Laws.Place.{At, at_found}
use Rattle.queues.specs.Laws.Rows.{faulty, clear, slots_have, no_place_lem}

-- ---- the cases

module _ (q : Queues) (b : List ℕ) (n p : ℕ) (item : List ℕ) where
  abbrev pub done : ℕ → Lent
  done k = answer (resized q k (length item)) (paste b (k * 64) item (length item)) (Ok tt)

  pub rewrite_elim : (P : Lent → Type 0)
      → (eqb n (blank 8) ≡ true → P (answer q b (Err Invalid)))
      → (eqb n (blank 8) ≡ false → wrong item ≡ true → P (answer q b (Err WrongLength)))
      → (eqb n (blank 8) ≡ false → wrong item ≡ false → has n (names_of q) ≡ false → P (answer q b (Err UnknownQueue)))
      → (eqb n (blank 8) ≡ false → wrong item ≡ false → has n (names_of q) ≡ true → slot_in q n p ≡ None → P (answer q b (Err NoSuchItem)))
      → (eqb n (blank 8) ≡ false → wrong item ≡ false → has n (names_of q) ≡ true → (k : ℕ) → slot_in q n p ≡ Some k → P (done k))
      → P (rewrite_in q b n p item)
  unfolding rewrite_in
  rewrite_elim P a w u o d =
      let fourth : Lent = at_slot q b item (slot_in q n p) in
      let third : Lent = pick (not (has n (names_of q))) (answer q b (Err UnknownQueue)) fourth in
      let second : Lent = pick (wrong item) (answer q b (Err WrongLength)) third in
      pick_elim P (eqb n (blank 8)) (answer q b (Err Invalid)) second a
      (λ e.
      pick_elim P (wrong item) (answer q b (Err WrongLength)) third (w e)
      (λ f.
      pick_elim P (not (has n (names_of q))) (answer q b (Err UnknownQueue)) fourth (λ g. u e f (not-true (has n (names_of q)) g))
      (λ g.
      let k : has n (names_of q) ≡ true = not-false (has n (names_of q)) g in
      slot_case (o e f k) (d e f k) (slot_in q n p) refl)))
    where
      slot_case : (slot_in q n p ≡ None → P (answer q b (Err NoSuchItem))) → ((k : ℕ) → slot_in q n p ≡ Some k → P (done k))
          → (x : Option ℕ) → slot_in q n p ≡ x → P (at_slot q b item x)
      slot_case o d None z = o z
      slot_case o d (Some k) z = d k z

-- ---- slots of their own

-- a slot is among an owner's as often at most as among all, and another owner's are others
slots_apart : (x n m : ℕ) (os ss : List ℕ) → eqb m n ≡ false → copies x (slots_of n os ss) + copies x (slots_of m os ss) ≤ copies x ss
slots_apart x n m [] ss d = omega arith
slots_apart x n m (o ∷ os) [] d = omega arith
slots_apart x n m (o ∷ os) (s ∷ ss) d =
    let r = slots_apart x n m os ss d in
    by_test (eqb o n)
    (λ e.
    let f : eqb o m ≡ false = ap (λ (k : ℕ). eqb k m) (eqb-true o n e) ∙ eqb_sym n m ∙ d in
    rw (e, f) (omega arith))
    (λ e. by_test (eqb o m) (λ f. rw (e, f) (omega arith)) (λ f. rw (e, f) (omega arith)))

slots_part : (x n : ℕ) (os ss : List ℕ) → copies x (slots_of n os ss) ≤ copies x ss
slots_part x n [] ss = omega arith
slots_part x n (o ∷ os) [] = omega arith
slots_part x n (o ∷ os) (s ∷ ss) =
    let r = slots_part x n os ss in by_test (eqb o n) (λ e. rw e (omega arith)) (λ e. rw e (omega arith))

has_at : (ss : List ℕ) (i : ℕ) → i < length ss → has (get_or ss i 128) ss ≡ true
has_at [] i h = absurd (omega arith)
has_at (x ∷ ss) zero h = rw (eqb_same x)
has_at (x ∷ ss) (suc i) h = by_test (eqb x (get_or ss i 128)) (λ e. rw e) (λ e. rw e (has_at ss i (omega arith)))

-- a map that is another at one element alone, which stands once
module _ {A : Type 0} (f g : ℕ → A) (p : ℕ → Bool) (x : ℕ) (same : (y : ℕ) → p y ≡ true → eqb y x ≡ false → g y ≡ f y) where
  absent : (ss : List ℕ) → all p ss ≡ true → has x ss ≡ false → map g ss ≡ map f ss
  absent [] a h = refl
  absent (y ∷ ss) a h =
      by_test (eqb y x) (λ e. no (sym (rw e at h)))
      (λ e. cc (same y (and_l (p y) (all p ss) a) e, absent ss (and_r (p y) (all p ss) a) (rw e at h)))

  map_set : (ss : List ℕ) (i : ℕ) → all p ss ≡ true → once ss ≡ true → i < length ss → get_or ss i 128 ≡ x → map g ss ≡ set (map f ss) i (g x)
  map_set [] i a o h e = absurd (omega arith)
  map_set (y ∷ ss) zero a o h e =
      let r : map g ss ≡ map f ss = absent ss (and_r (p y) (all p ss) a) (subst (λ (k : ℕ). has k ss ≡ false) e (once_head y ss o)) in
      cc (e, r)
  map_set (y ∷ ss) (suc i) a o h e =
      let d : eqb y x ≡ false =
      by_test (eqb y x)
      (λ t.
      let there : has x ss ≡ true = subst (λ (k : ℕ). has k ss ≡ true) e (has_at ss i (omega arith)) in
      no (sym (once_head y ss o) ∙ (subst (λ (k : ℕ). has k ss ≡ true) (sym (eqb-true y x t)) there)))
      (λ t. t) in
      cc (same y (and_l (p y) (all p ss) a) d, map_set ss i (and_r (p y) (all p ss) a) (once_tail y ss o) (omega arith) e)

-- ---- one slot's item another

module _ (q : Queues) (t : Typed q) (h : QueuesHold q) (b : List ℕ) (long : length b ≡ 8192) (n p : ℕ) (item : List ℕ)
    (fits : length item ≤ 64) (k : ℕ) (found : slot_in q n p ≡ Some k) where
  at : At q.len (slots_in q n) p k
  at = at_found q.len (slots_in q n) p k found

  below : k < 128
  below = at.below

  abbrev q' : Queues
  q' = resized q k (length item)

  abbrev b' : List ℕ
  b' = paste b (k * 64) item (length item)

  here : contents q' b' k ≡ item
  unfolding resized
  here =
      ap (λ (m : ℕ). take m (drop (k * 64) b')) (get_or-set_same q.len k (length item) 0 (rw t.len_long below))
      ∙ paste_there b (k * 64) item (omega (arith, below))

  elsewhere : (y : ℕ) → has_item q.len y ≡ true → eqb y k ≡ false → contents q' b' y ≡ contents q b y
  unfolding resized
  elsewhere y a d =
      let m = get_or q.len y 0 in
      let ne : y ≡ k → ⊥ = eqb-false y k d in
      ap (λ (j : ℕ). take j (drop (y * 64) b')) (get_or-set_other q.len k y (length item) 0 ne)
      ∙ paste_other b item k long below fits y m ne (leb-true m 64 (and_r (ltb y 128) (leb m 64) a))

  index_lt : p - 1 < length (slots_in q n)
  index_lt = omega (arith, at.from, at.to)

  slots_once : (m : ℕ) → once (slots_in q m) ≡ true
  slots_once m =
      copies_once (slots_in q m) (λ x. omega (arith, slots_part x m (owners q) (places q), once_copies (places q) h.laid.alone x))

  there : has k (slots_in q n) ≡ true
  there = subst (λ (x : ℕ). has x (slots_in q n) ≡ true) (sym at.is) (has_at (slots_in q n) (p - 1) index_lt)

  -- another queue's slots do not have it
  not_there : (m : ℕ) → eqb m n ≡ false → has k (slots_in q m) ≡ false
  not_there m d =
      none_has k (slots_in q m)
      (omega (
        arith,
        has_some k (slots_in q n) there,
        slots_apart k n m (owners q) (places q) d,
        once_copies (places q) h.laid.alone k,
      ))

  items_other : (m : ℕ) → eqb m n ≡ false → items_of q' b' m ≡ items_of q b m
  unfolding items_of resized
  items_other m d =
      absent (contents q b) (contents q' b') (has_item q.len) k elsewhere (slots_in q m) (slots_have q t h b m) (not_there m d)

  items_same : items_of q' b' n ≡ set (items_of q b n) (p - 1) item
  unfolding items_of resized
  items_same =
      map_set (contents q b) (contents q' b') (has_item q.len) k elsewhere (slots_in q n) (p - 1) (slots_have q t h b n) (slots_once n) index_lt
      (sym at.is)
      ∙ ap (set (map (contents q b) (slots_in q n)) (p - 1)) here

  stands : queues_of q' b' ≡ at_queue n (rewritten p item) (queues_of q b)
  unfolding queues_of resized
  stands =
      from_at (items_of q b) (items_of q' b') n (rewritten p item) (names_of q) (pointers_of q) items_other
      (λ r. ap (λ (x : List (List ℕ)). record { name = n; pointer = r; items = x }) items_same)

  -- every slot in use holds 1 to 64 bytes still
  length_kept : 1 ≤ length item → (y : ℕ) → length_in q y ≡ true → length_in q' y ≡ true
  unfolding resized
  length_kept some y a =
      by_test (eqb y k)
      (λ e.
      let m : get_or (set q.len k (length item)) y 0 ≡ length item =
      ap (λ (x : ℕ). get_or (set q.len k (length item)) x 0) (eqb-true y k e) ∙ get_or-set_same q.len k (length item) 0 (rw t.len_long below) in
      rw m (and_i (le-leb 1 (length item) some) (le-leb (length item) 64 fits)))
      (λ e. rw (get_or-set_other q.len k y (length item) 0 (eqb-false y k e)) a)

  kept_sound : 1 ≤ length item → sound_q (resized q k (length item)) ≡ true
  unfolding resized
  kept_sound some =
      let laid = h.laid in
      held_sound q'
      (record {
        laid = record {
          few = laid.few;
          owned = laid.owned;
          alone = laid.alone;
          taken = laid.taken;
          filled = all_imp (length_in q) (length_in q') (length_kept some) (places q) laid.filled;
        };
        unique = h.unique;
        named = h.named;
        pointing = h.pointing;
      })

-- ---- in the words of the model

module _ (q : Queues) (t : Typed q) (h : QueuesHold q) (b : List ℕ) (long : length b ≡ 8192) (n p : ℕ) (item : List ℕ) where
  abbrev l : List Queue
  l = queues_of q b

  abbrev P : Plan (List Queue)
  P = rewrite cabinet l n p item

  -- what a rewrite comes to
  abbrev told : Lent → Outcome (List Queue)
  told r = record {
    condition = condition_of r.rewritten.outcome;
    number = 0;
    bytes = [];
    state = queues_of r.rewritten.queues r.items;
  }

  short : wrong item ≡ false → length item ≤ 64
  short f = ltb-false 64 (length item) (or_false_r (not (some item)) (ltb 64 (length item)) f)

  rewrite_told : told (rewrite_in q b n p item) ≡ obey l (first_of P.checks) P.effect
  unfolding rewrite
  rewrite_told =
      rewrite_elim q b n p item (λ (r : Lent). told r ≡ obey l (first_of P.checks) P.effect)
      (λ e. faulty l P.checks P.effect 9 (rw e))
      (λ e f. faulty l P.checks P.effect 3 (rw (e, f)))
      (λ e f g. faulty l P.checks P.effect 1 (rw (e, f, known_of_lem q b t n, g)))
      (λ e f g o. faulty l P.checks P.effect 2 (rw (e, f, known_of_lem q b t n, g, no_place_lem q t h b n p, o)))
      (λ e f g k o.
      ap (λ (x : List Queue). record { condition = 0; number = 0; bytes = []; state = x })
      (stands q t h b long n p item (short f) k o)
      ∙ clear l P.checks P.effect (rw (e, f, known_of_lem q b t n, g, no_place_lem q t h b n p, o)))

  rewrite_sound : sound_q q ≡ true → sound_q (rewrite_in q b n p item).rewritten.queues ≡ true
  rewrite_sound y =
      rewrite_elim q b n p item (λ (r : Lent). sound_q r.rewritten.queues ≡ true) (λ _. y) (λ _ _. y) (λ _ _ _. y) (λ _ _ _ _. y)
      (λ _ f _ k o.
      let one : 1 ≤ length item = leb-true 1 (length item) (not-false (some item) (or_false_l (not (some item)) (ltb 64 (length item)) f)) in
      kept_sound q t h b long n p item (short f) k o one)

-- ---- the promise of the function

pub rewrite_all : (q : Queues) → Typed q → (b : List ℕ) → length b ≡ 8192 → (n p : ℕ) (item : List ℕ) (r : Rewritten) (b' : List ℕ)
    → lent r b' ≡ rewrite_in q b n p item
    → (lent r b' ≡ rewrite_in q b n p item)
    × (sound_q q ≡ true → Did q b r.queues b' (rewrite cabinet (queues_of q b) n p item) (condition_of r.outcome) 0 [])
rewrite_all q t b long n p item r _ e = (
  e,
  λ y.
      record {
        outcome = ap (told q t (holds q y) b long n p item) e ∙ rewrite_told q t (holds q y) b long n p item;
        soundly = ap (λ (x : Lent). sound_q x.rewritten.queues) e ∙ rewrite_sound q t (holds q y) b long n p item y;
      },
)
