-- Each exact definition keeps what is known of words and bytes whatever they say: that they fit and are typed, and how many of each there are.
-- Assumes nothing.
use Rattle.std.specs.Prelude.{◌≡◌, refl, false, not, List, [], ◌∷◌, ℕ, suc, ◌+◌, ◌-◌, ◌*◌, ◌^◌, ◌<◌, ◌≤◌, eqb, take, drop, set, replicate}
use Rattle.std.proofs.Common.{◌∙◌, length-set, lt-ltb, leb-false}
use Rattle.std.proofs.Math.Bool.{true}
use native.Mathlib.Omega.{arith}
use Rattle.std.proofs.Math.ListN.{length, length-take}
use Rattle.std.proofs.lemmas.List.{length-replicate}
use Rattle.base.specs.Lists.{has, over}
use Rattle.base.specs.Bytes.{is_bytes, stored}
use Rattle.base.specs.Laws.Tests.{by_test, and_i, pick_elim}
use Rattle.base.specs.Laws.Keep.{all_set, all_append, all_take, all_drop, all_keep, all_replicate, length_keep}
use Rattle.base.specs.Laws.Over.{all_over}
use Rattle.base.specs.Laws.Stored.{length_stored}
use Rattle.slots.specs.Bits.{cleared}
use Rattle.slots.specs.Told as told
use Rattle.slots.proofs.Laws.Slots.{none_typed, cleared_typed, marked_typed}
use Rattle.slots.proofs.Laws.Free.{free_at}
use Rattle.slots.specs.declared.Used.{Used}
use Rattle.std.specs.Prelude.{Option}
use Rattle.std.specs.Prelude.{Some, None}
use Rattle.model.specs.Plans.{Outcome}
use Rattle.queue_rows.specs.Table.{Queues, rows_in, slots_in, names_of, entries, owners, places, slots_of, Store, store}
use Rattle.queue_rows.specs.Fresh.{fresh_of}
use Rattle.queue_rows.specs.Append.{grown, with_queue, put, in_slot, append_to}
use Rattle.queue_rows.specs.Place.{slot_in}
use Rattle.queue_rows.specs.Read.{point_to, pointer_of, read_in, read_next_in}
use Rattle.queue_rows.specs.Rewrite.{resized, rewrite_in}
use Rattle.queue_rows.specs.Delete.{less, others_than, slots_but, clear_all, shut_row, emptied, delete_from}
use Rattle.queue_rows.specs.Laws.Lists.{live_over}
use Rattle.queue_rows.specs.Laws.Typed.{Fits, Typed, is_word, are_words, entries_long}
use Rattle.queue_rows.specs.Laws.Item.{wrong, item_short}
use Rattle.queue_rows.specs.Laws.Paste.{stored_bytes}
use Rattle.queue_rows.specs.Laws.Rows.{at_place}
use Rattle.queue_rows.specs.Laws.Read.{read_elim}
use Rattle.queue_rows.specs.Laws.Rewrite.{rewrite_elim}
use Rattle.queue_rows.specs.Laws.Append.{no_row, slot_for, append_elim}
use Rattle.queue_rows.specs.Laws.DeleteLists.{less_le, but_le, but_all}
use Rattle.queue_rows.specs.Laws.Delete.{delete_elim}

-- r fits and is typed, and there are as many rows, slots, words past them and bytes as in s
pub record Kept (s r : Store) : Type 0 where
  pub fits : Fits r.queues r.items
  pub typed : Typed r
  pub rows : rows_in r.queues ≡ rows_in s.queues
  pub slots : slots_in r.queues ≡ slots_in s.queues
  pub past : length r.queues.past ≡ length s.queues.past
  pub bytes : length r.items ≡ length s.items

pub kept_self : (s : Store) → Fits s.queues s.items → Typed s → Kept s s
kept_self s f t = record { fits = f; typed = t; rows = refl; slots = refl; past = refl; bytes = refl }

-- ---- lists of words

words_set : (l : List ℕ) (i x : ℕ) → are_words l ≡ true → x < 2 ^ 64 → are_words (set l i x) ≡ true
words_set l i x h w = all_set is_word l i x h (lt-ltb x (2 ^ 64) w)

words_zero : (n : ℕ) → are_words (replicate n 0) ≡ true
words_zero n = all_replicate is_word n 0 refl

words_less : (r c : ℕ) (l : List ℕ) → are_words l ≡ true → are_words (over (less r (take c l)) l) ≡ true
words_less r c l h =
    let live = all_take is_word c l h in
    all_over is_word (less r (take c l)) l
    (all_append is_word (take r (take c l)) (drop (suc r) (take c l)) ∙ and_i (all_take is_word r (take c l) live) (all_drop is_word (suc r) (take c l) live)) h

words_others : (n c : ℕ) (l : List ℕ) → are_words l ≡ true → are_words (over (others_than n (take c l)) l) ≡ true
words_others n c l h =
    all_over is_word (others_than n (take c l)) l (all_keep is_word (λ o. not (eqb o n)) (take c l) (all_take is_word c l h)) h

long_less : (r c : ℕ) (l : List ℕ) → length (over (less r (take c l)) l) ≡ length l
long_less r c l = live_over c (less r (take c l)) l (less_le r (take c l))

long_others : (n c : ℕ) (l : List ℕ) → length (over (others_than n (take c l)) l) ≡ length l
long_others n c l = live_over c (others_than n (take c l)) l (length_keep (λ o. not (eqb o n)) (take c l))

clear_typed : (l : List ℕ) (u : Used) → told.Typed u → told.Typed (clear_all u l)
clear_typed [] u w = w
clear_typed (s ∷ l) u w = clear_typed l (cleared u s) (cleared_typed u w s)

-- ---- what is done to the words and the bytes

module _ (s : Store) (q : Queues) (b : List ℕ) (k : Kept s (store q b)) where
  grown_kept : (n : ℕ) → n < 2 ^ 64 → q.count < rows_in q → Kept s (store (grown q n) b)
  unfolding grown
  grown_kept n w room =
      let c : q.count + 1 < 2 ^ 64 = omega (arith, k.typed.rows) in
      let z : 0 < 2 ^ 64 = omega arith in
      search (length-set, words_set)

  put_kept : (n size j : ℕ) → n < 2 ^ 64 → size < 2 ^ 64 → j < 2 ^ 64 → Kept s (store (put q n size j) b)
  unfolding put
  put_kept n size j w x y = search (length-set, words_set, marked_typed)

  point_kept : (n p : ℕ) → p < 2 ^ 64 → Kept s (store (point_to q n p) b)
  unfolding point_to
  point_kept n p w = search (length-set, words_set)

  resized_kept : (j size : ℕ) → size < 2 ^ 64 → Kept s (store (resized q j size) b)
  unfolding resized
  resized_kept j size w = search (length-set, words_set)

  stored_kept : (at : ℕ) (item : List ℕ) → is_bytes item ≡ true → Kept s (store q (stored b at item))
  stored_kept at item y = search (length_stored, stored_bytes)

  shut_kept : (n : ℕ) → Kept s (store (shut_row q n) b)
  unfolding shut_row
  shut_kept n =
      let c : length (names_of q) - 1 < 2 ^ 64 = omega (arith, k.typed.count, length-take q.count q.names) in
      search (long_less, words_less)

  emptied_kept : (n : ℕ) → Kept s (store (emptied q n) b)
  unfolding emptied
  emptied_kept n =
      let long : length (over (slots_but n (owners q) (places q)) q.slot) ≡ length q.slot =
      live_over (entries q) (slots_but n (owners q) (places q)) q.slot (but_le n (owners q) (places q)) in
      let word : are_words (over (slots_but n (owners q) (places q)) q.slot) ≡ true =
      all_over is_word (slots_but n (owners q) (places q)) q.slot
      (but_all n (owners q) (places q) (entries_long q k.fits) is_word (all_take is_word (entries q) q.slot k.typed.slot)) k.typed.slot in
      search (long, long_others, words_others, clear_typed)

  freshly_kept : Kept s (store (fresh_of q) b)
  unfolding fresh_of
  freshly_kept =
      let z : 0 < 2 ^ 64 = omega arith in
      search (length-replicate, words_zero, none_typed)

-- a place that has a slot is at most as many as there are slots
place_few : (q : Queues) (b : List ℕ) → Fits q b → (n p : ℕ) → slot_in q n p < slots_in q → p < 2 ^ 64
place_few q b f n p h =
    omega (arith, (at_place q b f n p h).to, slots_le n (owners q) (places q), length-take (entries q) q.slot, f.slots_few)
  where
    slots_le : (n : ℕ) (os ss : List ℕ) → length (slots_of n os ss) ≤ length ss
    slots_le n [] ss = omega arith
    slots_le n (o ∷ os) [] = omega arith
    slots_le n (o ∷ os) (s ∷ ss) =
        let r = slots_le n os ss in by_test (eqb o n) (λ e. rw e (omega arith)) (λ e. rw e (omega arith))

-- ---- the operations

module _ (s : Store) (f : Fits s.queues s.items) (t : Typed s) where
  abbrev q : Queues
  q = s.queues

  abbrev b : List ℕ
  b = s.items

  k : Kept s s
  k = kept_self s f t

  pub fresh_kept : Kept s (store (fresh_of s.queues) s.items)
  fresh_kept = freshly_kept s q b k

  pub at_kept : (n p room : ℕ) → Kept s (store (read_in s.queues s.items n p room).state s.items)
  at_kept n p room =
      read_elim q b n p room (λ (o : Outcome Queues). Kept s (store o.state b)) (λ _. k) (λ _ _. k) (λ _ _ _. k)
      (λ _ _ g. point_kept s q b k n p (place_few q b f n p (leb-false (slots_in q) (slot_in q n p) g)))

  pub next_kept : (n room : ℕ) → Kept s (store (read_next_in s.queues s.items n room).state s.items)
  unfolding read_next_in
  next_kept n room = at_kept n (pointer_of q n + 1) room

  pub rewrite_kept : (n p : ℕ) (item : List ℕ) → is_bytes item ≡ true → Kept s (rewrite_in s.queues s.items n p item).state
  rewrite_kept n p item y =
      rewrite_elim q b n p item (λ (o : Outcome Store). Kept s o.state) (λ _. k) (λ _ _. k) (λ _ _ _. k) (λ _ _ _ _. k)
      (λ _ w _ _.
      resized_kept s q (stored b (slot_in q n p * 64) item) (stored_kept s q b k (slot_in q n p * 64) item y) (slot_in q n p) (length item)
      (omega (arith, item_short item w)))

  pub delete_kept : (n : ℕ) → Kept s (store (delete_from s.queues n).state s.items)
  delete_kept n =
      delete_elim q n (λ (o : Outcome Queues). Kept s (store o.state b)) (λ _. k) (λ _ _. k)
      (λ _ _. emptied_kept s (shut_row q n) b (shut_kept s q b k n) n)

  module _ (may n : ℕ) (item : List ℕ) (name : n < 2 ^ 64) (y : is_bytes item ≡ true) where
    queue_kept : no_row q n ≡ false → Kept s (store (with_queue q n) b)
    queue_kept g =
        pick_elim (λ (x : Queues). Kept s (store x b)) (has n (names_of q)) q (grown q n) (λ _. k)
        (λ h. grown_kept s q b k n name (leb-false (rows_in q) q.count (rw h at g)))

    slot_kept : (x : Queues) → Kept s (store x b) → wrong item ≡ false → (j : Option ℕ) → slot_for q may ≡ j → Kept s (in_slot x b n item j).state
    slot_kept x c w None z = c
    slot_kept x c w (Some j) z =
        put_kept s x (stored b (j * 64) item) (stored_kept s x b c (j * 64) item y) n (length item) j name (omega (arith, item_short item w))
        (omega (arith, (free_at q.used f.words _ j z).below))

    pub append_kept : Kept s (append_to s.queues s.items may n item).state
    append_kept =
        append_elim q b may n item (λ (o : Outcome Store). Kept s o.state) (λ _. k) (λ _ _. k) (λ _ _ _. k)
        (λ _ w g j z. slot_kept (with_queue q n) (queue_kept g) w j z)
