-- Delete queue in the words of the model: sound words stand, after it, for the queues less the one that is deleted; the number is how many items it
-- had, and as many entries are gone; its slots alone are free; and what is left is sound. Assumes nothing.
use Rattle.std.specs.Prelude.{◌≡◌, true, false, not, ℕ, ◌+◌, ◌-◌, ◌≤◌, eqb, length, take}
use Rattle.std.proofs.Math.Path.{refl, ap, ap₂}
use Rattle.std.proofs.Common.{sym, ◌∙◌, subst, arith, eqb-true, eq-eqb}
use mathlib.Core.List.{List, [], map}
use Rattle.std.proofs.Math.Dec.{ltb}
use Rattle.std.proofs.Math.ListN.{length-take}
use Rattle.std.proofs.Math.Seq.{take_at}
use Rattle.base.specs.Choice.{pick}
use Rattle.base.specs.Lists.{keep, has, copies, over}
use Rattle.base.specs.Bytes.{blank}
use Rattle.base.specs.Laws.Tests.{by_test, no, pick_elim}
use Rattle.base.specs.Laws.Keep.{first_at_lt}
use Rattle.base.specs.Laws.Cut.{length_cut}
use Rattle.base.specs.Laws.Counting.{has_none, has_some, once_copies}
use Rattle.slots.specs.Bits.{bit, number, used_at}
use Rattle.slots.specs.Laws.Digits.{bit_le}
use Rattle.slots.proofs.Laws.Slots.{used_bit}
use Rattle.model.specs.Plans.{unknown_queue, invalid_request, Plan, Outcome, fault, done, outcome_in, Follows}
use Rattle.model.specs.Queues.{Queue, delete}
use Rattle.queue_rows.specs.Table.{Queues, rows_in, slots_in, names_of, pointers_of, entries, owners, places, row_of, slots_of, slots_named, contents, Store, store}
use Rattle.queue_rows.specs.Model.{queues_from, items_of, queues_of}
use Rattle.queue_rows.specs.Sound.{length_in, sound_q, SoundS}
use Rattle.queue_rows.specs.Delete.{less, others_than, slots_but, shut_row, emptied, delete_from}
use Rattle.queue_rows.specs.Laws.Lists.{all_has, all_says, live_over}
use Rattle.queue_rows.specs.Laws.Typed.{Fits, entries_long, rows_long, owners_long}
use Rattle.queue_rows.specs.Laws.From.{slots_count, slots_none}
use Rattle.queue_rows.specs.Laws.Stands.{Laid, QueuesHold, holds, held_sound, owned_none, known_of_lem, number_of_lem}
use Rattle.queue_rows.specs.Laws.Follows.{follows_fault, follows_effect}
use Rattle.queue_rows.specs.Laws.Clear.{Cleared, clear_all_lem}
use Rattle.queue_rows.specs.Laws.DeleteLists.{less_le, but_le, less_others, others_long, but_long, others_within, others_once, others_none, pointed_less, from_less, copies_split, slots_others, but_has, but_all, but_once, but_other}

-- ---- the cases

module _ (q : Queues) (n : ℕ) where
  -- the row gone, and its entries
  abbrev pub left : Queues
  left = emptied (shut_row q n) n

  pub delete_elim : (P : Outcome Queues → Type 0)
      → (eqb n (blank 8) ≡ true → P (fault q invalid_request))
      → (eqb n (blank 8) ≡ false → has n (names_of q) ≡ false → P (fault q unknown_queue))
      → (eqb n (blank 8) ≡ false → has n (names_of q) ≡ true → P (done left (copies n (owners q))))
      → P (delete_from q n)
  unfolding delete_from
  delete_elim P a u d =
      let gone : Outcome Queues = done left (copies n (owners q)) in
      pick_elim P (eqb n (blank 8)) (fault q invalid_request) (pick (has n (names_of q)) gone (fault q unknown_queue)) a
      (λ e. pick_elim P (has n (names_of q)) gone (fault q unknown_queue) (d e) (u e))

  -- as many rows and slots as before
  pub rows_left : rows_in left ≡ rows_in q
  unfolding emptied shut_row
  rows_left = live_over q.count (less (row_of q n) (names_of q)) q.names (less_le (row_of q n) (names_of q))

  pub slots_left : slots_in left ≡ slots_in q
  unfolding emptied shut_row
  slots_left = live_over (entries q) (slots_but n (owners q) (places q)) q.slot (but_le n (owners q) (places q))

-- ---- "Delete frees every place."

-- r has as many entries fewer as the queue had items; their slots are free to serve again, and every other slot is as it was
pub record Frees (q : Queues) (n : ℕ) (r : Queues) : Type 0 where
  pub fewer : entries r + copies n (owners q) ≡ entries q
  pub free : (t : ℕ) → has t (slots_named q n) ≡ true → used_at r.used t ≡ false
  pub kept : (t : ℕ) → has t (slots_named q n) ≡ false → used_at r.used t ≡ used_at q.used t

-- ---- a known queue

module _ (q : Queues) (b : List ℕ) (f : Fits q b) (s : QueuesHold q) (n : ℕ) (k : has n (names_of q) ≡ true) where
  abbrev q' : Queues
  q' = left q n

  abbrev os : List ℕ
  os = owners q

  abbrev ss : List ℕ
  ss = places q

  long : length os ≡ length ss
  long = entries_long q f

  -- the rows
  front : (l m : List ℕ) → length l ≡ length (names_of q) → take (length (names_of q) - 1) (over (less (row_of q n) l) m) ≡ less (row_of q n) l
  front l m e =
      let row = first_at_lt (λ x. eqb x n) (names_of q) k in
      let cut = length_cut (row_of q n) l (omega arith) in
      take_at (less (row_of q n) l) _ (length (names_of q) - 1) (omega arith)

  names_left : names_of q' ≡ less (row_of q n) (names_of q)
  unfolding emptied shut_row
  names_left = front (names_of q) q.names refl

  pointers_left : pointers_of q' ≡ less (row_of q n) (pointers_of q)
  unfolding emptied shut_row
  pointers_left = front (pointers_of q) q.pointers (sym (rows_long q f))

  names_others : names_of q' ≡ others_than n (names_of q)
  names_others = names_left ∙ less_others n (names_of q) s.unique

  -- a slot that an entry names is in use, and no other entry names it
  in_use_lem : (t : ℕ) → has t ss ≡ true → bit (number q.used) t ≡ 1
  in_use_lem t h =
      eqb-true (bit (number q.used) t) 1 (sym (used_bit q.used f.words t) ∙ all_says (used_at q.used) ss s.laid.taken t h)

  listed : (t : ℕ) → copies t ss ≤ bit (number q.used) t
  listed t =
      by_test (has t ss) (λ h. omega (arith, in_use_lem t h, once_copies ss s.laid.alone t)) (λ h. omega (arith, has_none t ss h))

  -- the slots of the queue are free, and with each an entry is gone
  freed : Cleared q.used q'.used (slots_of n os ss)
  unfolding emptied shut_row
  freed = clear_all_lem (slots_of n os ss) q.used f.words (λ t. omega (arith, listed t, copies_split n t os ss long))

  entries_fewer : entries q' + copies n os ≡ entries q
  entries_fewer = omega (arith, freed.fewer, slots_count n os ss long)

  entries_left : length (others_than n os) ≡ entries q'
  entries_left = omega (arith, entries_fewer, others_long n os, owners_long q f s.laid.room)

  owners_left : owners q' ≡ others_than n os
  unfolding emptied shut_row
  owners_left = take_at (others_than n os) _ (entries q') entries_left

  places_left : places q' ≡ slots_but n os ss
  unfolding emptied shut_row
  places_left = take_at (slots_but n os ss) _ (entries q') (but_long n os ss long ∙ entries_left)

  -- another queue's items are as they were
  items_left : (m : ℕ) → eqb m n ≡ false → items_of q' b m ≡ items_of q b m
  unfolding items_of emptied shut_row
  items_left m d =
      ap₂ (λ (x y : List ℕ). map (contents q b) (slots_of m x y)) owners_left places_left
      ∙ ap (map (contents q b)) (slots_others n m d os ss long)

  queues_left : queues_of (store q' b) ≡ keep (λ (x : Queue). not (eqb x.name n)) (queues_of (store q b))
  unfolding queues_of
  queues_left =
      ap₂ (queues_from (items_of q' b)) names_left pointers_left
      ∙ from_less n (items_of q b) (items_of q' b) items_left (names_of q) (pointers_of q) (rows_long q f) s.unique k

  -- a slot that another holds is in use still
  taken_left : (t : ℕ) → has t (slots_but n os ss) ≡ true → used_at q'.used t ≡ true
  taken_left t h =
      used_bit q'.used freed.typed t
      ∙ eq-eqb (bit (number q'.used) t) 1
      (omega (arith, freed.bits t, but_other n os ss long s.laid.alone t h, in_use_lem t (but_has n os ss long t h)))

  laid_left : Laid q'
  unfolding emptied shut_row
  laid_left = record {
    few = omega (arith, rows_left q n, length-take q.count q.names);
    room = omega (arith, entries_fewer, slots_left q n, s.laid.room);
    owned = rw (owners_left, names_others) (others_within n os (names_of q) s.laid.owned);
    alone = rw places_left (but_once n os ss long s.laid.alone);
    taken = rw places_left (all_has (used_at q'.used) (slots_but n os ss) taken_left);
    inside = rw (slots_left q n, places_left) (but_all n os ss long (λ x. ltb x (slots_in q)) s.laid.inside);
    filled = rw places_left (but_all n os ss long (length_in q) s.laid.filled);
  }

  left_sound : sound_q q' ≡ true
  left_sound =
      held_sound q'
      (record {
        laid = laid_left;
        unique = rw names_others (others_once n (names_of q) s.unique);
        named = rw names_others (others_none n (blank 8) (names_of q) s.named);
        pointing =
            rw (owners_left, names_left, pointers_left) (pointed_less n os (names_of q) (pointers_of q) (rows_long q f) s.unique s.pointing);
      })

  -- its slots are free, and no other
  left_frees : Frees q n q'
  left_frees = record {
    fewer = entries_fewer;
    free = λ t h.
        let z : bit (number q'.used) t ≡ 0 = omega (arith, freed.bits t, has_some t (slots_of n os ss) h, bit_le (number q.used) t) in
        used_bit q'.used freed.typed t ∙ ap (λ (x : ℕ). eqb x 1) z;
    kept = λ t h.
        let z : bit (number q'.used) t ≡ bit (number q.used) t = omega (arith, freed.bits t, has_none t (slots_of n os ss) h) in
        used_bit q'.used freed.typed t ∙ ap (λ (x : ℕ). eqb x 1) z ∙ sym (used_bit q.used f.words t);
  }

-- ---- no queue of that name

none_frees : (q : Queues) (n : ℕ) → QueuesHold q → has n (names_of q) ≡ false → Frees q n q
none_frees q n s k =
    let none = owned_none q s n k in
    let empty : slots_named q n ≡ [] = slots_none n (owners q) (places q) none in
    record {
      fewer = omega (arith, has_none n (owners q) none);
      free = λ t h. no (ap (has t) (sym empty) ∙ h);
      kept = λ t h. refl;
    }

pub delete_frees : (s : Store) → Fits s.queues s.items → SoundS s → (n : ℕ) → Frees s.queues n (delete_from s.queues n).state
delete_frees s f h n =
    let q = s.queues in
    let r = holds q h in
    delete_elim q n (λ (o : Outcome Queues). Frees q n o.state)
    (λ e. none_frees q n r (subst (λ (m : ℕ). has m (names_of q) ≡ false) (sym (eqb-true n (blank 8) e)) r.named))
    (λ _ k. none_frees q n r k) (λ _ k. left_frees q s.items f r n k)

-- ---- in the words of the model

pub delete_follows : (s : Store) → Fits s.queues s.items → SoundS s → (n : ℕ)
    → Follows queues_of SoundS (outcome_in (λ p. store p s.items) (delete_from s.queues n)) (queues_of s) (delete (queues_of s) n)
unfolding delete
delete_follows s f h n =
    let q = s.queues in
    let b = s.items in
    let P : Plan (List Queue) = delete (queues_of s) n in
    let r = holds q h in
    let known = known_of_lem q b f n in
    delete_elim q n (λ (o : Outcome Queues). Follows queues_of SoundS (outcome_in (λ p. store p b) o) (queues_of s) P)
    (λ e. follows_fault queues_of SoundS s P h 9 (rw e))
    (λ e k. follows_fault queues_of SoundS s P h 1 (rw (e, known, k)))
    (λ e k.
    follows_effect queues_of SoundS s P (done (store (left q n) b) (copies n (owners q))) (rw (e, known, k))
    (ap₂ (λ (x : List Queue) (c : ℕ). done x c) (queues_left q b f r n k) (sym (number_of_lem q b f r n))) (left_sound q b f r n k))
