-- Delete queue in the words of the model: sound queues stand, after it, for the queues less the one that is deleted; the number is how many
-- items it had, and as many entries are gone; its slots alone are free; and what is left is sound. Assumes nothing.
use Rattle.std.specs.Prelude.{◌≡◌, false, not, ℕ, ◌-◌, ◌≤◌, ◌<◌, eqb, take, replicate, Err}
use Rattle.std.proofs.Math.Path.{refl, ap, ap₂, subst}
use Rattle.std.proofs.Common.{sym, ◌∙◌, arith, eqb-true, eq-eqb}
use Rattle.std.proofs.Math.Bool.{true}
use mathlib.Core.List.{List, [], map}
use Rattle.std.proofs.Math.ListN.{length, length-replicate}
use Rattle.std.proofs.Math.Seq.{take_at}
use Rattle.base.specs.Lists.{keep, has, copies, over}
use Rattle.base.specs.Bytes.{blank, is_byte, is_bytes}
use Rattle.base.specs.Laws.Tests.{by_test, no}
use Rattle.base.specs.Laws.Keep.{all_replicate, first_at_lt}
use Rattle.base.specs.Laws.Counting.{has_none, has_some, once_copies, within_says}
use Rattle.slots.specs.Bits.{bit, number, used_at}
use Rattle.slots.specs.Laws.Digits.{bit_le}
use Rattle.slots.proofs.Laws.Slots.{used_bit}
use Rattle.model.specs.Limits.{cabinet}
use Rattle.model.specs.Plans.{first_of}
use Rattle.model.specs.Queues.{Queue, queue_of, sound_queues, delete}
use Rattle.model.proofs.Laws.SoundQueues.{delete_sound}
use Rattle.queues.specs.declared.Queues.{Queues}
use Rattle.queues.specs.declared.delete.Deleted.{Deleted}
use Rattle.queues.specs.declared.delete.DeleteError.TheVariants.{UnknownQueue, Invalid}
use Rattle.queues.specs.Table.{rows_in, names_of, pointers_of, entries, owners, places, row_of, slots_in, slots_of, contents}
use Rattle.queues.specs.Model.{queues_from, items_of, queues_of}
use Rattle.queues.specs.Sound.{sound_q, length_in, Did}
use Rattle.queues.specs.Delete.{condition_of, number_of, less, others_than, slots_but, shut_at, shut, emptied, swept, answer, delete_from, Frees}
use Rattle.queues.specs.Laws.Typed.{Typed, owners_long, entries_long, names_count, pointers_count, rows_long}
use Rattle.queues.specs.Laws.From.{slots_count, slots_none}
use Rattle.queues.specs.Laws.Stands.{Laid, QueuesHold, holds, known_of_lem, number_of_lem, model_sound, stands_sound}
use Rattle.queues.specs.Laws.Clear.{Cleared, clear_all_lem}
use Rattle.queues.specs.Laws.DeleteLists.{all_has, all_says, less_length, less_others, others_long, but_long, others_within, from_less, copies_split, slots_others, but_has, but_all, but_once, but_other}

-- ---- a known queue

module _ (q : Queues) (n : ℕ) (ty : Typed q) (s : QueuesHold q) (k : has n (names_of q) ≡ true) where
  -- what is left
  abbrev left : Queues
  left = emptied (shut q n) n

  abbrev os : List ℕ
  os = owners q

  abbrev ss : List ℕ
  ss = places q

  long : length os ≡ length ss
  long = entries_long q ty

  row : row_of q n < rows_in q
  row = omega (arith, names_count q ty, first_at_lt (λ m. eqb m n) (names_of q) k)

  -- the rows
  front : (l m : List ℕ) → length l ≡ rows_in q → take (rows_in q - 1) (over (less (row_of q n) l) m) ≡ less (row_of q n) l
  front l m e = take_at (less (row_of q n) l) _ (rows_in q - 1) (omega (arith, row, less_length (row_of q n) l (omega (arith, row))))

  names_left : names_of left ≡ less (row_of q n) (names_of q)
  unfolding emptied shut_at
  names_left = front (names_of q) q.names (names_count q ty)

  pointers_left : pointers_of left ≡ less (row_of q n) (pointers_of q)
  unfolding emptied shut_at
  pointers_left = front (pointers_of q) q.pointers (pointers_count q ty)

  -- a slot that an entry names is in use, and no other entry names it
  in_use_lem : (t : ℕ) → has t ss ≡ true → bit (number q.used) t ≡ 1
  in_use_lem t h =
      eqb-true (bit (number q.used) t) 1 (sym (used_bit q.used ty.words t) ∙ all_says (used_at q.used) ss s.laid.taken t h)

  listed : (t : ℕ) → copies t ss ≤ bit (number q.used) t
  listed t =
      by_test (has t ss) (λ h. omega (arith, in_use_lem t h, once_copies ss s.laid.alone t)) (λ h. omega (arith, has_none t ss h))

  -- the slots of the queue are free, and with each an entry is gone
  freed : Cleared q.used left.used (slots_of n os ss)
  unfolding emptied shut_at
  freed = clear_all_lem (slots_of n os ss) q.used ty.words (λ t. omega (arith, listed t, copies_split n t os ss long))

  entries_left : length (others_than n os) ≡ entries left
  entries_left = omega (arith, freed.fewer, others_long n os, slots_count n os ss long, owners_long q ty)

  owners_left : owners left ≡ others_than n os
  unfolding emptied shut_at
  owners_left = take_at (others_than n os) _ (entries left) entries_left

  places_left : places left ≡ slots_but n os ss
  unfolding emptied shut_at
  places_left = take_at (slots_but n os ss) _ (entries left) (but_long n os ss long ∙ entries_left)

  -- another queue's items are as they were
  items_left : (b : List ℕ) (m : ℕ) → eqb m n ≡ false → items_of left b m ≡ items_of q b m
  unfolding items_of emptied shut_at
  items_left b m d =
      ap₂ (λ (x y : List ℕ). map (contents q b) (slots_of m x y)) owners_left places_left
      ∙ ap (map (contents q b)) (slots_others n m d os ss long)

  pub queues_left : (b : List ℕ) → queues_of left b ≡ keep (λ (x : Queue). not (eqb x.name n)) (queues_of q b)
  unfolding queues_of
  queues_left b =
      ap₂ (queues_from (items_of left b)) names_left pointers_left
      ∙ from_less n (items_of q b) (items_of left b) (items_left b) (names_of q) (pointers_of q) (rows_long q ty) s.unique k

  -- a slot that another holds is in use still
  taken_left : (t : ℕ) → has t (slots_but n os ss) ≡ true → used_at left.used t ≡ true
  taken_left t h =
      used_bit left.used freed.typed t
      ∙ eq-eqb (bit (number left.used) t) 1
      (omega (arith, freed.bits t, but_other n os ss long s.laid.alone t h, in_use_lem t (but_has n os ss long t h)))

  laid_left : Laid left
  unfolding emptied shut_at
  laid_left = record {
    few = omega arith;
    owned = rw (owners_left, names_left, less_others n (names_of q) s.unique) (others_within n os (names_of q) s.laid.owned);
    alone = rw places_left (but_once n os ss long s.laid.alone);
    taken = rw places_left (all_has (used_at left.used) (slots_but n os ss) taken_left);
    filled = rw places_left (but_all n os ss long (length_in q) s.laid.filled);
  }

  -- soundness does not speak of the bytes: any will do
  abbrev zeros : List ℕ
  zeros = replicate 8192 0

  pub left_sound : Typed left → eqb n (blank 8) ≡ false → sound_q q ≡ true → sound_q left ≡ true
  unfolding delete
  left_sound ty' d h =
      let z : length zeros ≡ 8192 = length-replicate {A = ℕ} 8192 0 in
      let y : is_bytes zeros ≡ true = all_replicate is_byte 8192 0 refl in
      let m : sound_queues cabinet (queues_of q zeros) ≡ true = model_sound q zeros ty z y h in
      let c : first_of (delete (queues_of q zeros) n).checks ≡ 0 = rw (d, known_of_lem q zeros ty n, k) in
      stands_sound left zeros ty' (rw (queues_left zeros) (delete_sound cabinet (queues_of q zeros) n m c)) laid_left

  -- its slots are free, and no other
  left_frees : Frees q n left
  left_frees = record {
    fewer = omega (arith, freed.fewer, slots_count n os ss long);
    free = λ t h.
        let z : bit (number left.used) t ≡ 0 = omega (arith, freed.bits t, has_some t (slots_of n os ss) h, bit_le (number q.used) t) in
        used_bit left.used freed.typed t ∙ ap (λ (x : ℕ). eqb x 1) z;
    kept = λ t h.
        let z : bit (number left.used) t ≡ bit (number q.used) t = omega (arith, freed.bits t, has_none t (slots_of n os ss) h) in
        used_bit left.used freed.typed t ∙ ap (λ (x : ℕ). eqb x 1) z ∙ sym (used_bit q.used ty.words t);
  }

-- ---- no queue of that name

none_frees : (q : Queues) (n : ℕ) → QueuesHold q → has n (names_of q) ≡ false → Frees q n q
none_frees q n s k =
    let none : has n (owners q) ≡ false =
    by_test (has n (owners q)) (λ e. no (sym k ∙ within_says (owners q) (names_of q) s.laid.owned n e)) (λ e. e) in
    let empty : slots_in q n ≡ [] = slots_none n (owners q) (places q) none in
    record {
      fewer = omega (arith, has_none n (owners q) none);
      free = λ t h. no (ap (has t) (sym empty) ∙ h);
      kept = λ t h. refl;
    }

pub delete_frees : (q : Queues) (n : ℕ) → Typed q → sound_q q ≡ true → Frees q n (delete_from q n).queues
unfolding delete_from swept
delete_frees q n ty h =
    let s = holds q h in
    by_test (eqb n (blank 8))
    (λ e. rw e (none_frees q n s (subst (λ (m : ℕ). has m (names_of q) ≡ false) (sym (eqb-true n (blank 8) e)) s.named)))
    (λ e. by_test (has n (names_of q)) (λ k. rw (e, k) (left_frees q n ty s k)) (λ k. rw (e, k) (none_frees q n s k)))

-- ---- each case

module _ (q : Queues) (n : ℕ) (ty : Typed q) (h : sound_q q ≡ true) (b : List ℕ) where
  abbrev Meets : Deleted → Type 0
  Meets r = Did q b r.queues b (delete (queues_of q b) n) (condition_of r.outcome) (number_of r.outcome) []

  blank_case : eqb n (blank 8) ≡ true → Meets (answer q (Err Invalid))
  unfolding delete
  blank_case e = record { outcome = rw e; soundly = h }

  unknown_case : eqb n (blank 8) ≡ false → has n (names_of q) ≡ false → Meets (answer q (Err UnknownQueue))
  unfolding delete
  unknown_case e k = record { outcome = rw (e, known_of_lem q b ty n, k); soundly = h }

  -- "items freed"
  freed_number : length (queue_of (queues_of q b) n).items ≡ copies n (owners (shut q n))
  unfolding shut_at
  freed_number = number_of_lem q b ty (holds q h) n

  known_case : eqb n (blank 8) ≡ false → has n (names_of q) ≡ true → Typed (swept (shut q n) n).queues → Meets (swept (shut q n) n)
  unfolding delete swept
  known_case e k ty' =
      let s = holds q h in
      record {
        outcome = rw (e, known_of_lem q b ty n, k, queues_left q n ty s k b, freed_number);
        soundly = left_sound q n ty s k ty' e h;
      }

  pub delete_meets : (r : Deleted) → Typed r.queues → r ≡ delete_from q n → Meets r
  unfolding delete_from
  delete_meets r ty' f =
      by_test (eqb n (blank 8))
      (λ e. let g : r ≡ answer q (Err Invalid) = f ∙ rw e in subst Meets (sym g) (blank_case e))
      (λ e.
      by_test (has n (names_of q))
      (λ k.
      let g : r ≡ swept (shut q n) n = f ∙ rw (e, k) in
      subst Meets (sym g) (known_case e k (subst (λ (x : Deleted). Typed x.queues) g ty')))
      (λ k. let g : r ≡ answer q (Err UnknownQueue) = f ∙ rw (e, k) in subst Meets (sym g) (unknown_case e k)))
