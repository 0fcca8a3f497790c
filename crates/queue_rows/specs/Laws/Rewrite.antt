-- Rewrite: the cases of the exact definition, and that from sound words it does what the model's plan says and leaves sound words. The items of a
-- queue lie in slots of their own, so that one item changes and no other. Assumes nothing.
use Rattle.std.specs.Prelude.{◌≡◌, false, not, ℕ, ◌+◌, ◌-◌, ◌*◌, ◌<◌, ◌≤◌, eqb, leb, ltb, drop, set}
use Rattle.std.proofs.Common.{sym, ◌∙◌, subst, arith, get_or-set_same, get_or-set_other}
use Rattle.std.proofs.Math.Path.{ap}
use Rattle.std.proofs.Math.Bool.{true}
use mathlib.Core.List.{List, [], ◌∷◌, map}
use Rattle.std.proofs.Math.ListN.{length, take, get_or}
use borrow.Author.Tests.{eqb-true, eqb-false, le-leb, leb-true, leb-false, not-false, not-true}
use Rattle.base.specs.Choice.{pick}
use Rattle.base.specs.Lists.{has, copies, once}
use Rattle.base.specs.Bytes.{blank, stored}
use Rattle.base.specs.Laws.Tests.{by_test, both, and_i, eqb_sym, pick_elim}
use Rattle.base.specs.Laws.Keep.{all_imp}
use Rattle.base.specs.Laws.Counting.{none_has, has_some, once_copies, copies_once}
use Rattle.model.specs.Limits.{some}
use Rattle.model.specs.Plans.{unknown_queue, no_such_item, wrong_length, invalid_request, Plan, Outcome, fault, done, Follows}
use Rattle.model.specs.Queues.{Queue, at_queue, rewritten, rewrite}
use Rattle.queue_rows.specs.Table.{Queues, slots_in, names_of, pointers_of, owners, places, slots_of, slots_named, contents, Store, store}
use Rattle.queue_rows.specs.Model.{items_of, queues_of, limits_of}
use Rattle.queue_rows.specs.Sound.{length_in, sound_q, SoundS}
use Rattle.queue_rows.specs.Place.{has_item, slot_in}
use Rattle.queue_rows.specs.Rewrite.{resized, put_in, rewrite_in}
use Rattle.queue_rows.specs.Laws.Lists.{has_at, map_absent, map_at}
use Rattle.queue_rows.specs.Laws.Typed.{Fits}
use Rattle.queue_rows.specs.Laws.From.{from_at}
use Rattle.queue_rows.specs.Laws.Stands.{QueuesHold, holds, held_sound, known_of_lem}
use Rattle.queue_rows.specs.Laws.Follows.{follows_fault, follows_effect}
use Rattle.queue_rows.specs.Laws.Item.{wrong, item_some, item_short}
use Rattle.queue_rows.specs.Laws.Place.{At}
use Rattle.queue_rows.specs.Laws.Rows.{at_place, slots_have, no_place_lem}
use Rattle.queue_rows.specs.Laws.Paste.{stored_here, stored_other}

-- ---- the cases

module _ (q : Queues) (b : List ℕ) (n p : ℕ) (item : List ℕ) where
  abbrev s : ℕ
  s = slot_in q n p

  pub rewrite_elim : (P : Outcome Store → Type 0)
      → (eqb n (blank 8) ≡ true → P (fault (store q b) invalid_request))
      → (eqb n (blank 8) ≡ false → wrong item ≡ true → P (fault (store q b) wrong_length))
      → (eqb n (blank 8) ≡ false → wrong item ≡ false → has n (names_of q) ≡ false → P (fault (store q b) unknown_queue))
      → (eqb n (blank 8) ≡ false → wrong item ≡ false → has n (names_of q) ≡ true → leb (slots_in q) (slot_in q n p) ≡ true
      → P (fault (store q b) no_such_item))
      → (eqb n (blank 8) ≡ false → wrong item ≡ false → has n (names_of q) ≡ true → leb (slots_in q) (slot_in q n p) ≡ false
      → P (put_in q b item (slot_in q n p)))
      → P (rewrite_in q b n p item)
  unfolding rewrite_in
  rewrite_elim P a w u o d =
      let fourth : Outcome Store = pick (leb (slots_in q) s) (fault (store q b) no_such_item) (put_in q b item s) in
      let third : Outcome Store = pick (not (has n (names_of q))) (fault (store q b) unknown_queue) fourth in
      let second : Outcome Store = pick (wrong item) (fault (store q b) wrong_length) third in
      pick_elim P (eqb n (blank 8)) (fault (store q b) invalid_request) second a
      (λ e.
      pick_elim P (wrong item) (fault (store q b) wrong_length) third (w e)
      (λ f.
      pick_elim P (not (has n (names_of q))) (fault (store q b) unknown_queue) fourth (λ g. u e f (not-true (has n (names_of q)) g))
      (λ g.
      let k : has n (names_of q) ≡ true = not-false (has n (names_of q)) g in
      pick_elim P (leb (slots_in q) s) (fault (store q b) no_such_item) (put_in q b item s) (o e f k) (d e f k))))

-- ---- slots of their own

-- a slot is among an owner's as often at most as among all, and another owner's are others
slots_apart : (x n m : ℕ) (os ss : List ℕ) → eqb m n ≡ false → copies x (slots_of n os ss) + copies x (slots_of m os ss) ≤ copies x ss
slots_apart x n m [] ss d = omega arith
slots_apart x n m (o ∷ os) [] d = omega arith
slots_apart x n m (o ∷ os) (s ∷ ss) d =
    let r = slots_apart x n m os ss d in
    by_test (eqb o n)
    (λ e.
    let f : eqb o m ≡ false = ap (λ (k : ℕ). eqb k m) (eqb-true o n e) ∙ eqb_sym n m ∙ d in
    rw (e, f) (omega arith))
    (λ e. by_test (eqb o m) (λ f. rw (e, f) (omega arith)) (λ f. rw (e, f) (omega arith)))

slots_part : (x n : ℕ) (os ss : List ℕ) → copies x (slots_of n os ss) ≤ copies x ss
slots_part x n [] ss = omega arith
slots_part x n (o ∷ os) [] = omega arith
slots_part x n (o ∷ os) (s ∷ ss) =
    let r = slots_part x n os ss in by_test (eqb o n) (λ e. rw e (omega arith)) (λ e. rw e (omega arith))

-- ---- one slot's item another

module _ (q : Queues) (b : List ℕ) (f : Fits q b) (h : QueuesHold q) (n p : ℕ) (item : List ℕ) (fits : length item ≤ 64)
    (below : slot_in q n p < slots_in q) where
  abbrev k : ℕ
  k = slot_in q n p

  abbrev q' : Queues
  q' = resized q (slot_in q n p) (length item)

  abbrev b' : List ℕ
  b' = stored b (slot_in q n p * 64) item

  size_here : get_or (set q.len k (length item)) k 0 ≡ length item
  size_here = get_or-set_same q.len k (length item) 0 (rw f.len_long below)

  here : contents q' b' k ≡ item
  unfolding resized
  here = ap (λ (m : ℕ). take m (drop (k * 64) b')) size_here ∙ stored_here b item k (slots_in q) f.bytes_long below fits

  elsewhere : (y : ℕ) → has_item q.len y ≡ true → eqb y k ≡ false → contents q' b' y ≡ contents q b y
  unfolding resized
  elsewhere y a d =
      let m = get_or q.len y 0 in
      let ne : y ≡ k → ⊥ = eqb-false y k d in
      ap (λ (j : ℕ). take j (drop (y * 64) b')) (get_or-set_other q.len k y (length item) 0 ne)
      ∙ stored_other b item k (slots_in q) f.bytes_long below fits y m ne (leb-true m 64 (both (ltb y (length q.len)) (leb m 64) a).1)

  at : At q.len (slots_named q n) p
  at = at_place q b f n p below

  index_lt : p - 1 < length (slots_named q n)
  index_lt = omega (arith, at.from, at.to)

  slots_once : (m : ℕ) → once (slots_named q m) ≡ true
  slots_once m =
      copies_once (slots_named q m) (λ x. omega (arith, slots_part x m (owners q) (places q), once_copies (places q) h.laid.alone x))

  there : has k (slots_named q n) ≡ true
  there = subst (λ (x : ℕ). has x (slots_named q n) ≡ true) (sym at.is) (has_at (slots_named q n) (p - 1) (length q.len) index_lt)

  -- another queue's slots do not have it
  not_there : (m : ℕ) → eqb m n ≡ false → has k (slots_named q m) ≡ false
  not_there m d =
      none_has k (slots_named q m)
      (omega (
        arith,
        has_some k (slots_named q n) there,
        slots_apart k n m (owners q) (places q) d,
        once_copies (places q) h.laid.alone k,
      ))

  items_other : (m : ℕ) → eqb m n ≡ false → items_of q' b' m ≡ items_of q b m
  unfolding items_of resized
  items_other m d =
      map_absent (contents q b) (contents q' b') (has_item q.len) k elsewhere (slots_named q m) (slots_have q b f m h) (not_there m d)

  items_same : items_of q' b' n ≡ set (items_of q b n) (p - 1) item
  unfolding items_of resized
  items_same =
      map_at (contents q b) (contents q' b') (has_item q.len) k elsewhere (slots_named q n) (p - 1) (length q.len) (slots_have q b f n h)
      (slots_once n) index_lt (sym at.is)
      ∙ ap (set (map (contents q b) (slots_named q n)) (p - 1)) here

  resized_stands : queues_of (store q' b') ≡ at_queue n (rewritten p item) (queues_of (store q b))
  unfolding queues_of resized
  resized_stands =
      from_at (items_of q b) (items_of q' b') n (rewritten p item) (names_of q) (pointers_of q) items_other
      (λ r. ap (λ (x : List (List ℕ)). record { name = n; pointer = r; items = x }) items_same)

  -- every slot in use holds 1 to 64 bytes still
  length_kept : 1 ≤ length item → (y : ℕ) → length_in q y ≡ true → length_in q' y ≡ true
  unfolding resized
  length_kept some y a =
      by_test (eqb y k)
      (λ e.
      let m : get_or (set q.len k (length item)) y 0 ≡ length item =
      ap (λ (x : ℕ). get_or (set q.len k (length item)) x 0) (eqb-true y k e) ∙ size_here in
      rw m (and_i (le-leb 1 (length item) some) (le-leb (length item) 64 fits)))
      (λ e. rw (get_or-set_other q.len k y (length item) 0 (eqb-false y k e)) a)

  resized_sound : 1 ≤ length item → sound_q (resized q (slot_in q n p) (length item)) ≡ true
  unfolding resized
  resized_sound some =
      let laid = h.laid in
      held_sound q'
      (record {
        laid = record {
          few = laid.few;
          room = laid.room;
          owned = laid.owned;
          alone = laid.alone;
          taken = laid.taken;
          inside = laid.inside;
          filled = all_imp (length_in q) (length_in q') (length_kept some) (places q) laid.filled;
        };
        unique = h.unique;
        named = h.named;
        pointing = h.pointing;
      })

-- ---- in the words of the model

pub rewrite_follows : (s : Store) → Fits s.queues s.items → SoundS s → (n p : ℕ) (item : List ℕ)
    → Follows queues_of SoundS (rewrite_in s.queues s.items n p item) (queues_of s) (rewrite (limits_of s.queues) (queues_of s) n p item)
unfolding rewrite
rewrite_follows s f h n p item =
    let q = s.queues in
    let b = s.items in
    let P : Plan (List Queue) = rewrite (limits_of q) (queues_of s) n p item in
    let r = holds q h in
    let known = known_of_lem q b f n in
    let none = no_place_lem q b f n r p in
    rewrite_elim q b n p item (λ (o : Outcome Store). Follows queues_of SoundS o (queues_of s) P)
    (λ e. follows_fault queues_of SoundS s P h 9 (rw e))
    (λ e w. follows_fault queues_of SoundS s P h 3 (rw (e, w)))
    (λ e w k. follows_fault queues_of SoundS s P h 1 (rw (e, w, known, k)))
    (λ e w k g. follows_fault queues_of SoundS s P h 2 (rw (e, w, known, k, none, g)))
    (λ e w k g.
    let below : slot_in q n p < slots_in q = leb-false (slots_in q) (slot_in q n p) g in
    let short = item_short item w in
    follows_effect queues_of SoundS s P (put_in q b item (slot_in q n p)) (rw (e, w, known, k, none, g))
    (ap (λ (x : List Queue). done x 0) (resized_stands q b f r n p item short below))
    (resized_sound q b f r n p item short below (item_some item w)))
