-- The queue commands keep the queues sound: where no check of a command holds, what its effect leaves is sound again;
-- and what sound queues say of the items that are read and of the places that a delete frees.
-- Assumes nothing.
use Rattle.std.specs.Prelude.{ℕ, ◌+◌, ◌-◌, ◌^◌, ◌≤◌, ◌<◌, ◌≡◌, Bool, false, ◌&&◌, ◌||◌, List, [], ◌∷◌, ◌++◌, map, length, leb, ltb, eqb}
use Rattle.std.proofs.Math.Path.{refl}
use Rattle.std.proofs.Common.{ap, ◌∙◌, length-append, arith}
use Rattle.std.proofs.Math.Bool.{true, not}
use Rattle.std.proofs.Math.ListN.{length-set}
use Rattle.std.proofs.lemmas.List.{length-map}
use borrow.Author.Tests.{leb-true, leb-false, ltb-false, le-leb, lt-ltb, not-false}
use Rattle.base.specs.Lists.{keep, all, once}
use Rattle.base.specs.Bytes.{is_name, is_bytes}
use Rattle.base.specs.Laws.Tests.{by_test, no, and_l, and_r, both, and_i, or_false_l, or_false_r, pick_elim}
use Rattle.base.specs.Laws.Keep.{length_keep, all_append, all_keep, all_first, all_imp, all_set, all_get_d_or, first_or, first_none}
use Rattle.base.specs.Laws.Maps.{map_none}
use Rattle.base.specs.Laws.Counting.{once_keep, once_tail, map_at_names, only_named, keep_named, drop_one, all_at}
use Rattle.base.specs.Laws.Listed.{added_elim, all_added, once_added, any_added}
use Rattle.model.specs.Limits.{Limits, is_item, is_data, some}
use Rattle.model.specs.Plans.{first_of, no_space, Outcome, fault, done}
use Rattle.model.specs.Queues.{Queue, no_items, known_queue, queue_of, at_queue, items_in, longer, made, append, point_at, item_at, reading, read_next, read_at, rewritten, rewrite, delete, sound_queue, sound_queues}
use Rattle.model.specs.Laws.PlanLaws.{clears}

abbrev name_of : Queue → ℕ
name_of q = q.name

abbrev is_named : ℕ → Queue → Bool
is_named n q = eqb q.name n

abbrev other : ℕ → Queue → Bool
other n q = not (eqb q.name n)

-- ---- views

pub record QueuesSound (L : Limits) (l : List Queue) : Type 0 where
  pub few : length l ≤ L.queues
  pub room : items_in l ≤ L.slots
  pub unique : once (map (λ (q : Queue). q.name) l) ≡ true
  pub each : all (sound_queue L) l ≡ true

pub record QueueSound (L : Limits) (q : Queue) : Type 0 where
  pub named : is_name 8 q.name ≡ true
  pub pointed : q.pointer ≤ length q.items
  pub filled : all (is_item L) q.items ≡ true

module _ (L : Limits) where
  pub view_one : (q : Queue) → sound_queue L q ≡ true → QueueSound L q
  view_one q h =
      let p3 = both _ _ h in
      let p2 = both _ _ p3.0 in
      record { named = p2.0; pointed = leb-true _ _ p2.1; filled = p3.1 }

  pub unview_one : (q : Queue) → QueueSound L q → sound_queue L q ≡ true
  unview_one q s = and_i (and_i s.named (le-leb q.pointer (length q.items) s.pointed)) s.filled

  module _ (l : List Queue) where
    pub view : sound_queues L l ≡ true → QueuesSound L l
    unfolding sound_queues
    view h =
        let p4 = both _ _ h in
        let p3 = both _ _ p4.0 in
        let p2 = both _ _ p3.0 in
        record { few = leb-true _ _ p2.0; room = leb-true _ _ p2.1; unique = p3.1; each = p4.1 }

    pub unview : QueuesSound L l → sound_queues L l ≡ true
    unfolding sound_queues
    unview s =
        and_i (and_i (and_i (le-leb (length l) L.queues s.few) (le-leb (items_in l) L.slots s.room)) s.unique) s.each

pub empty_sound : (L : Limits) → sound_queues L [] ≡ true
empty_sound L = unview L [] (record { few = omega arith; room = omega arith; unique = refl; each = refl })

-- ---- counting items

pub items_append : (l m : List Queue) → items_in (l ++ m) ≡ items_in l + items_in m
items_append [] m = omega arith
items_append (q ∷ l) m = omega (arith, items_append l m)

pub items_split : (p : Queue → Bool) (l : List Queue)
    → items_in (keep p l) + items_in (keep (λ (q : Queue). not (p q)) l) ≡ items_in l
items_split p [] = refl
items_split p (q ∷ l) = by_test (p q) (λ t. rw t (omega (arith, items_split p l))) (λ t. rw t (omega (arith, items_split p l)))

-- the named queue is changed: its count goes, the new one comes
items_at : (n : ℕ) (f : Queue → Queue) (l : List Queue) → once (map name_of l) ≡ true → known_queue l n ≡ true
    → items_in (at_queue n f l) + length (queue_of l n).items ≡ items_in l + length (f (queue_of l n)).items
items_at n f [] o k = no k
items_at n f (q ∷ l) o k =
    by_test (eqb q.name n)
    (λ t. rw (t, map_none (is_named n) f l (only_named name_of n q l o t)) (omega arith))
    (λ t. rw t (omega (arith, items_at n f l (once_tail q.name (map name_of l) o) (rw t at k))))

-- ---- the named queue

module _ (L : Limits) (l : List Queue) (n : ℕ) (s : QueuesSound L l) (k : known_queue l n ≡ true) where
  queue_sound : QueueSound L (queue_of l n)
  queue_sound = view_one L (queue_of l n) (all_first (is_named n) (sound_queue L) (no_items n) l s.each k)

  -- it is changed to a sound one that the slots have room for
  at_sound : (f : Queue → Queue) → ((q : Queue) → (f q).name ≡ q.name) → QueueSound L (f (queue_of l n))
      → items_in l + length (f (queue_of l n)).items ≤ L.slots + length (queue_of l n).items → QueuesSound L (at_queue n f l)
  at_sound f same h fits = record {
    few = rw length-map s.few;
    room = omega (arith, items_at n f l s.unique k);
    unique = ap once (map_at_names name_of f n same l) ∙ s.unique;
    each = all_at name_of n (no_items n) f (sound_queue L) l s.unique s.each (unview_one L (f (queue_of l n)) h);
  }

  delete_counts : items_in (keep (λ (q : Queue). not (eqb q.name n)) l) + length (queue_of l n).items ≡ items_in l
  delete_counts =
      let one : items_in (keep (is_named n) l) ≡ items_in (queue_of l n ∷ []) = ap items_in (keep_named name_of n (no_items n) l s.unique k) in
      omega (arith, items_split (is_named n) l)

pub delete_frees : (L : Limits) (l : List Queue) (n : ℕ) → sound_queues L l ≡ true → known_queue l n ≡ true
    → (items_in (keep (λ (q : Queue). not (eqb q.name n)) l) + length (queue_of l n).items ≡ items_in l)
    × (length (keep (λ (q : Queue). not (eqb q.name n)) l) + 1 ≡ length l)
delete_frees L l n h k = (delete_counts L l n (view L l h) k, drop_one name_of n l (view L l h).unique k)

-- ---- 10 append

-- "length 1..64", from the check
length_check : (L : Limits) (b : List ℕ) → (not (some b) || ltb L.item (length b)) ≡ false → is_bytes b ≡ true → is_item L b ≡ true
length_check L b e h =
    let some? : some b ≡ true = not-false (some b) (or_false_l (not (some b)) (ltb L.item (length b)) e) in
    let short : length b ≤ L.item = ltb-false L.item (length b) (or_false_r (not (some b)) (ltb L.item (length b)) e) in
    and_i (and_i some? (le-leb (length b) L.item short)) h

made_items : (l : List Queue) (n : ℕ) → items_in (made l n) ≡ items_in l
made_items l n =
    added_elim name_of (no_items n) l (λ (r : List Queue). items_in r ≡ items_in l) (λ _. refl)
    (λ _. rw (items_append l (no_items n ∷ [])) (omega arith))

made_few : (L : Limits) (l : List Queue) (n : ℕ) → length l ≤ L.queues
    → (not (known_queue l n) && leb L.queues (length l)) ≡ false → length (made l n) ≤ L.queues
made_few L l n h e =
    added_elim name_of (no_items n) l (λ (r : List Queue). length r ≤ L.queues) (λ _. h)
    (λ t. rw length-append (omega (arith, leb-false L.queues (length l) (rw t at e))))

made_sound : (L : Limits) (l : List Queue) (n : ℕ) → is_name 8 n ≡ true → QueuesSound L l
    → (not (known_queue l n) && leb L.queues (length l)) ≡ false → QueuesSound L (made l n)
made_sound L l n named s e = record {
  few = made_few L l n s.few e;
  room = rw made_items s.room;
  unique = once_added name_of (no_items n) l s.unique;
  each =
      all_added name_of (no_items n) l (sound_queue L) s.each
      (unview_one L (no_items n) (record { named = named; pointed = omega arith; filled = refl }));
}

longer_sound : (L : Limits) (b : List ℕ) (q : Queue) → is_item L b ≡ true → QueueSound L q → QueueSound L (longer b q)
longer_sound L b q h s = record {
  named = s.named;
  pointed = rw length-append (let p = s.pointed in omega arith);
  filled = rw (all_append, s.filled, h);
}

module _ (L : Limits) (may : ℕ) (l : List Queue) (n : ℕ) (b : List ℕ) where
  longer_fits : may ≤ L.slots → QueuesSound L (made l n) → is_item L b ≡ true → items_in l < may
      → QueuesSound L (at_queue n (longer b) (made l n))
  longer_fits m s h free =
      let k : known_queue (made l n) n ≡ true = any_added name_of (no_items n) l in
      at_sound L (made l n) n s k (longer b) (λ q. refl)
      (longer_sound L b (queue_of (made l n) n) h (queue_sound L (made l n) n s k)) (rw (length-append, made_items) (omega arith))

  pub append_sound : may ≤ L.slots → n < 256 ^ 8 → is_bytes b ≡ true → sound_queues L l ≡ true → first_of (append L may l n b).checks ≡ 0
      → sound_queues L (append L may l n b).effect.state ≡ true
  unfolding append
  append_sound m w y h e =
      let c = clears (append L may l n b).checks refl e in
      let named : is_name 8 n ≡ true = and_i (lt-ltb n (256 ^ 8) w) (ap not c.0) in
      let new : QueuesSound L (made l n) = made_sound L l n named (view L l h) c.1.1.0 in
      let item : is_item L b ≡ true = length_check L b c.1.0 y in
      pick_elim (λ (o : Outcome (List Queue)). sound_queues L o.state ≡ true) (leb may (items_in l)) (fault (made l n) no_space)
      (done (at_queue n (longer b) (made l n)) (length (queue_of l n).items + 1)) (λ _. unview L (made l n) new)
      (λ t. unview L (at_queue n (longer b) (made l n)) (longer_fits m new item (leb-false may (items_in l) t)))

-- ---- 11 read next, 12 read at

module _ (L : Limits) (l : List Queue) (n : ℕ) where
  reading_sound : (p room : ℕ) → sound_queues L l ≡ true → first_of (reading l n p room).checks ≡ 0
      → sound_queues L (reading l n p room).effect.state ≡ true
  reading_sound p room h e =
      let c = clears (reading l n p room).checks refl e in
      let s = view L l h in
      let k : known_queue l n ≡ true = not-false (known_queue l n) c.1.0 in
      let old = queue_sound L l n s k in
      let count : ℕ = length (queue_of l n).items in
      let new : QueueSound L (point_at p (queue_of l n)) = record {
        named = old.named;
        pointed = ltb-false count p (or_false_r (eqb p 0) (ltb count p) c.1.1.0);
        filled = old.filled;
      } in
      unview L (at_queue n (point_at p) l) (at_sound L l n s k (point_at p) (λ q. refl) new (omega (arith, s.room)))

  pub read_next_sound : (room : ℕ) → sound_queues L l ≡ true → first_of (read_next l n room).checks ≡ 0
      → sound_queues L (read_next l n room).effect.state ≡ true
  unfolding read_next
  read_next_sound room = reading_sound ((queue_of l n).pointer + 1) room

  pub read_at_sound : (p room : ℕ) → sound_queues L l ≡ true → first_of (read_at l n p room).checks ≡ 0
      → sound_queues L (read_at l n p room).effect.state ≡ true
  unfolding read_at
  read_at_sound p room = reading_sound p room

  -- ---- 13 rewrite, 14 delete queue

  rewritten_sound : (p : ℕ) (b : List ℕ) (q : Queue) → is_item L b ≡ true → QueueSound L q → QueueSound L (rewritten p b q)
  rewritten_sound p b q h s = record {
    named = s.named;
    pointed = rw length-set s.pointed;
    filled = all_set (is_item L) q.items (p - 1) b s.filled h;
  }

  pub rewrite_sound : (p : ℕ) (b : List ℕ) → is_bytes b ≡ true → sound_queues L l ≡ true → first_of (rewrite L l n p b).checks ≡ 0
      → sound_queues L (rewrite L l n p b).effect.state ≡ true
  unfolding rewrite
  rewrite_sound p b y h e =
      let c = clears (rewrite L l n p b).checks refl e in
      let s = view L l h in
      let k : known_queue l n ≡ true = not-false (known_queue l n) c.1.1.0 in
      let new = rewritten_sound p b (queue_of l n) (length_check L b c.1.0 y) (queue_sound L l n s k) in
      unview L (at_queue n (rewritten p b) l)
      (at_sound L l n s k (rewritten p b) (λ q. refl) new (rw length-set (omega (arith, s.room))))

  pub delete_sound : sound_queues L l ≡ true → first_of (delete l n).checks ≡ 0 → sound_queues L (delete l n).effect.state ≡ true
  unfolding delete
  delete_sound h e =
      let s = view L l h in
      unview L (keep (other n) l)
      (record {
        few = omega (arith, length_keep (other n) l, s.few);
        room = omega (arith, items_split (other n) l, s.room);
        unique = once_keep name_of (other n) l s.unique;
        each = all_keep (sound_queue L) (other n) l s.each;
      })

-- ---- an item that is read, also of an unknown queue: then it is []

-- an item's bounds but the least length
item_short : (L : Limits) (b : List ℕ) → is_item L b ≡ true → is_data L b ≡ true
item_short L b h =
    let short : Bool = leb (length b) L.item in
    and_i (and_r (some b) short (and_l (some b && short) (is_bytes b) h)) (and_r (some b && short) (is_bytes b) h)

short_items : (L : Limits) (q : Queue) → sound_queue L q ≡ true → all (is_data L) q.items ≡ true
short_items L q h = all_imp (is_item L) (is_data L) (item_short L) q.items (view_one L q h).filled

module _ (L : Limits) (l : List Queue) (n : ℕ) where
  pub items_data : sound_queues L l ≡ true → all (is_data L) (queue_of l n).items ≡ true
  items_data h =
      let short : Queue → Bool = λ (q : Queue). all (is_data L) q.items in
      first_or (is_named n) short (no_items n) l refl (all_imp (sound_queue L) short (short_items L) l (view L l h).each)

  pub items_few : sound_queues L l ≡ true → length (queue_of l n).items ≤ L.slots
  items_few h =
      let s = view L l h in
      by_test (known_queue l n) (λ k. omega (arith, delete_counts L l n s k, s.room))
      (λ k. rw (first_none (is_named n) (no_items n) l k) (omega arith))

  module _ (p : ℕ) where
    abbrev size : ℕ
    size = length (item_at (queue_of l n) p)

    pub item_data : sound_queues L l ≡ true → is_data L (item_at (queue_of l n) p) ≡ true
    item_data h =
        all_get_d_or (is_data L) (queue_of l n).items (p - 1) [] (and_i (le-leb 0 L.item (omega arith)) refl) (items_data h)

    pub item_size : sound_queues L l ≡ true → length (item_at (queue_of l n) p) ≤ L.item
    item_size h = leb-true size L.item (and_l (leb size L.item) (is_bytes (item_at (queue_of l n) p)) (item_data h))

    pub item_bytes : sound_queues L l ≡ true → is_bytes (item_at (queue_of l n) p) ≡ true
    item_bytes h = and_r (leb size L.item) (is_bytes (item_at (queue_of l n) p)) (item_data h)
