-- The queues that words stand for, and their soundness as a record of rules; that sound words stand for sound queues of the model, and that words
-- which stand for sound queues and whose entries lie as they should are sound. Assumes nothing.
use Rattle.std.specs.Prelude.{◌≡◌, refl, Bool, true, false, ◌&&◌, List, [], ◌∷◌, map, ℕ, ◌*◌, ◌^◌, ◌≤◌, ◌<◌, leb, ltb, eqb, length, drop, get_or}
use Rattle.std.proofs.Common.{sym, ap, ◌∙◌, arith, length-drop}
use Rattle.std.proofs.Math.Bool.{not}
use Rattle.std.proofs.Math.ListN.{length-map}
use Rattle.std.proofs.Math.Seq.{length-take-le}
use borrow.Author.Tests.{leb-true, le-leb, ltb-true, not-true}
use Rattle.base.specs.Lists.{all, has, once, within, copies}
use Rattle.base.specs.Bytes.{blank, is_name, is_bytes}
use Rattle.base.specs.Laws.Tests.{by_test, no, both, and_l, and_r, and_i}
use Rattle.base.specs.Laws.Keep.{all_take, first_none}
use Rattle.base.specs.Laws.Maps.{all_map_imp}
use Rattle.base.specs.Laws.Counting.{within_says}
use Rattle.base.specs.Laws.Bytes.{is_bytes_take, is_bytes_drop}
use Rattle.slots.specs.Bits.{used_at}
use Rattle.model.specs.Limits.{Limits, is_item}
use Rattle.model.specs.Queues.{Queue, known_queue, queue_of, no_items, items_in, sound_queues}
use Rattle.model.proofs.Laws.SoundQueues.{QueuesSound, unview}
use Rattle.queue_rows.specs.Table.{Queues, rows_in, slots_in, names_of, pointers_of, entries, owners, places, row_of, slots_named, contents, Store, store}
use Rattle.queue_rows.specs.Model.{items_of, queues_of, limits_of}
use Rattle.queue_rows.specs.Sound.{pointed, length_in, sound_q, SoundS}
use Rattle.queue_rows.specs.Laws.Lists.{all_both}
use Rattle.queue_rows.specs.Laws.Typed.{Fits, Typed, is_word, are_words, entries_long, rows_long, owners_long}
use Rattle.queue_rows.specs.Laws.From.{slots_count, slots_all, slots_none, from_names, from_length, from_known, from_queue, from_items, from_sound, sound_pointed, sound_names_lem}

-- ---- the rules, apart

-- how the entries lie: what the queues of the model do not show
pub record Laid (q : Queues) : Type 0 where
  pub few : q.count ≤ rows_in q
  pub room : entries q ≤ slots_in q
  pub owned : within (owners q) (names_of q) ≡ true
  pub alone : once (places q) ≡ true
  pub taken : all (used_at q.used) (places q) ≡ true
  pub inside : all (λ s. ltb s (slots_in q)) (places q) ≡ true
  pub filled : all (length_in q) (places q) ≡ true

pub record QueuesHold (q : Queues) : Type 0 where
  pub laid : Laid q
  pub unique : once (names_of q) ≡ true
  pub named : has (blank 8) (names_of q) ≡ false
  pub pointing : pointed (owners q) (names_of q) (pointers_of q) ≡ true

module _ (q : Queues) where
  pub holds : sound_q q ≡ true → QueuesHold q
  unfolding sound_q
  holds h =
      let p9 = both _ _ h in
      let p8 = both _ _ p9.0 in
      let p7 = both _ _ p8.0 in
      let p6 = both _ _ p7.0 in
      let p5 = both _ _ p6.0 in
      let p4 = both _ _ p5.0 in
      let p3 = both _ _ p4.0 in
      let p2 = both _ _ p3.0 in
      let p1 = both _ _ p2.0 in
      record {
        laid = record {
          few = leb-true q.count (rows_in q) p1.0;
          room = leb-true (entries q) (slots_in q) p1.1;
          owned = p4.1;
          alone = p6.1;
          taken = p7.1;
          inside = p8.1;
          filled = p9.1;
        };
        unique = p2.1;
        named = not-true (has (blank 8) (names_of q)) p3.1;
        pointing = p5.1;
      }

  pub held_sound : QueuesHold q → sound_q q ≡ true
  unfolding sound_q
  held_sound s =
      let l = s.laid in
      and_i (and_i (and_i (and_i (and_i (and_i (and_i (and_i (and_i (le-leb q.count (rows_in q) l.few) (le-leb (entries q) (slots_in q) l.room))
      s.unique) (ap not s.named)) l.owned) s.pointing) l.alone) l.taken) l.inside) l.filled

-- ---- what the words stand for

-- a name with no row owns no entry, and has no items
pub owned_none : (q : Queues) → QueuesHold q → (n : ℕ) → has n (names_of q) ≡ false → has n (owners q) ≡ false
owned_none q s n h = by_test (has n (owners q)) (λ e. no (sym h ∙ within_says (owners q) (names_of q) s.laid.owned n e)) (λ e. e)

pub items_unknown : (q : Queues) (b : List ℕ) → QueuesHold q → (n : ℕ) → has n (names_of q) ≡ false → items_of q b n ≡ []
unfolding items_of
items_unknown q b s n h = ap (map (contents q b)) (slots_none n (owners q) (places q) (owned_none q s n h))

module _ (q : Queues) (b : List ℕ) (f : Fits q b) where
  items_count : (n : ℕ) → length (items_of q b n) ≡ copies n (owners q)
  unfolding items_of
  items_count n = length-map (slots_named q n) (contents q b) ∙ slots_count n (owners q) (places q) (entries_long q f)

  names_of_lem : map (λ (x : Queue). x.name) (queues_of (store q b)) ≡ names_of q
  unfolding queues_of
  names_of_lem = from_names (items_of q b) (names_of q) (pointers_of q) (rows_long q f)

  pub known_of_lem : (n : ℕ) → known_queue (queues_of (store q b)) n ≡ has n (names_of q)
  unfolding queues_of
  known_of_lem n = from_known (items_of q b) n (names_of q) (pointers_of q) (rows_long q f)

  pub count_of : Laid q → length (queues_of (store q b)) ≡ q.count
  unfolding queues_of
  count_of l = from_length (items_of q b) (names_of q) (pointers_of q) (rows_long q f) ∙ length-take-le q.count q.names l.few

  pub queue_of_lem : (n : ℕ) → has n (names_of q) ≡ true
      → queue_of (queues_of (store q b)) n ≡ record { name = n; pointer = get_or (pointers_of q) (row_of q n) 0; items = items_of q b n }
  unfolding queues_of
  queue_of_lem n h = from_queue (items_of q b) (no_items n) n (names_of q) (pointers_of q) (rows_long q f) h

  pub queue_unknown : (n : ℕ) → has n (names_of q) ≡ false → queue_of (queues_of (store q b)) n ≡ no_items n
  queue_unknown n h = first_none (λ (x : Queue). eqb x.name n) (no_items n) (queues_of (store q b)) (known_of_lem n ∙ h)

  pub items_of_lem : QueuesHold q → items_in (queues_of (store q b)) ≡ entries q
  unfolding queues_of
  items_of_lem s =
      from_items (items_of q b) (names_of q) (pointers_of q) (owners q) (rows_long q f) s.unique s.laid.owned items_count
      ∙ owners_long q f s.laid.room

  -- the items of a name, known or not
  pub number_of_lem : QueuesHold q → (n : ℕ) → length (queue_of (queues_of (store q b)) n).items ≡ copies n (owners q)
  number_of_lem s n =
      by_test (has n (names_of q)) (λ h. ap (λ (x : Queue). length x.items) (queue_of_lem n h) ∙ items_count n)
      (λ h.
      ap (λ (x : Queue). length x.items) (queue_unknown n h) ∙ sym (ap length (items_unknown q b s n h)) ∙ items_count n)

-- ---- an entry's slot

-- it is one of the slots, and holds an item
abbrev pub item_in : Queues → ℕ → Bool
item_in q s = ltb s (slots_in q) && length_in q s

pub slots_items : (q : Queues) → Laid q → (n : ℕ) → all (item_in q) (slots_named q n) ≡ true
slots_items q l n =
    slots_all (item_in q) n (owners q) (places q) (all_both (λ s. ltb s (slots_in q)) (length_in q) (places q) l.inside l.filled)

module _ (q : Queues) (b : List ℕ) (f : Fits q b) where
  -- a slot's content has the length that the slot has
  contents_long : (s : ℕ) → s < slots_in q → get_or q.len s 0 ≤ 64 → length (contents q b s) ≡ get_or q.len s 0
  contents_long s h m = length-take-le (get_or q.len s 0) (drop (s * 64) b) (rw length-drop (omega (arith, f.bytes_long)))

  -- and is an item
  contents_item : is_bytes b ≡ true → (s : ℕ) → item_in q s ≡ true → is_item (limits_of q) (contents q b s) ≡ true
  contents_item y s h =
      let n = get_or q.len s 0 in
      let at = both (ltb s (slots_in q)) (length_in q s) h in
      let size = both (leb 1 n) (leb n 64) at.1 in
      let long = contents_long s (ltb-true s (slots_in q) at.0) (leb-true n 64 size.1) in
      let short : (leb 1 (length (contents q b s)) && leb (length (contents q b s)) 64) ≡ true = rw long at.1 in
      and_i short (is_bytes_take n (drop (s * 64) b) (is_bytes_drop (s * 64) b y))

  items_all : is_bytes b ≡ true → Laid q → (n : ℕ) → all (is_item (limits_of q)) (items_of q b n) ≡ true
  unfolding items_of
  items_all y l n =
      all_map_imp (contents q b) (item_in q) (is_item (limits_of q)) (contents_item y) (slots_named q n) (slots_items q l n)

-- ---- sound, as the model has it

-- names of eight bytes that are not blank
names_all : (l : List ℕ) → are_words l ≡ true → has (blank 8) l ≡ false → all (is_name 8) l ≡ true
names_all [] a h = refl
names_all (n ∷ l) a h =
    let w = both (is_word n) (are_words l) a in
    by_test (eqb n (blank 8)) (λ e. no (sym (rw e at h)))
    (λ e. and_i (and_i w.0 (ap not e)) (names_all l w.1 (rw e at h)))

names_none : (l : List ℕ) → all (is_name 8) l ≡ true → has (blank 8) l ≡ false
names_none [] a = refl
names_none (n ∷ l) a =
    let one = and_r (ltb n (256 ^ 8)) (not (eqb n (blank 8))) (and_l (is_name 8 n) (all (is_name 8) l) a) in
    rw (not-true (eqb n (blank 8)) one) (names_none l (and_r (is_name 8 n) (all (is_name 8) l) a))

pub model_sound : (s : Store) → Fits s.queues s.items → SoundS s → Typed s → sound_queues (limits_of s.queues) (queues_of s) ≡ true
unfolding queues_of
model_sound s f h t =
    let q = s.queues in
    let b = s.items in
    let r = holds q h in
    unview (limits_of q) (queues_of s)
    (record {
      few = omega (arith, count_of q b f r.laid, r.laid.few);
      room = omega (arith, items_of_lem q b f r, r.laid.room);
      unique = rw (names_of_lem q b f) r.unique;
      each =
          from_sound (limits_of q) (items_of q b) (owners q) (items_count q b f) (names_of q) (pointers_of q)
          (names_all (names_of q) (all_take is_word q.count q.names t.names) r.named) r.pointing
          (items_all q b f t.bytes r.laid);
    })

-- what stands for sound queues, within any limits, with entries that lie as they should, is sound
pub stands_sound : (L : Limits) (q : Queues) (b : List ℕ) → Fits q b → QueuesSound L (queues_of (store q b)) → Laid q → sound_q q ≡ true
unfolding queues_of
stands_sound L q b f m laid =
    held_sound q
    (record {
      laid = laid;
      unique = rw (names_of_lem q b f) at m.unique;
      named =
          names_none (names_of q)
          (sound_names_lem L (items_of q b) (owners q) (items_count q b f) (names_of q) (pointers_of q) (rows_long q f) m.each);
      pointing = sound_pointed L (items_of q b) (owners q) (items_count q b f) (names_of q) (pointers_of q) m.each;
    })
