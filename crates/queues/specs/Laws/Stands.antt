-- The queues that a struct stands for, and its soundness as a record of rules; that sound structs stand for sound queues of the model, and
-- that a struct which stands for sound queues and whose entries lie as they should is sound. Assumes nothing.
use Rattle.std.specs.Prelude.{◌≡◌, refl, Bool, ◌&&◌, List, [], ◌∷◌, map, ℕ, ◌*◌, ◌^◌, ◌≤◌, ◌<◌, leb, eqb, length, drop, get_or}
use Rattle.std.proofs.Common.{sym, ◌∙◌, arith, length-drop, length-take-le}
use Rattle.std.proofs.Math.Path.{ap}
use Rattle.std.proofs.Math.Bool.{true, false, not}
use Rattle.std.proofs.Math.Nat.{min-eq_left}
use Rattle.std.proofs.Math.Dec.{ltb}
use Rattle.std.proofs.Math.ListN.{length-map}
use borrow.Author.Tests.{leb-true, le-leb, ltb-true, not-true}
use Rattle.base.specs.Lists.{all, has, once, within, copies}
use Rattle.base.specs.Bytes.{blank, is_name, is_bytes}
use Rattle.base.specs.Laws.Tests.{by_test, no, and_l, and_r, and_i}
use Rattle.base.specs.Laws.Keep.{all_take, first_none}
use Rattle.base.specs.Laws.Counting.{within_says}
use Rattle.base.specs.Laws.Bytes.{is_bytes_take, is_bytes_drop}
use Rattle.slots.specs.Bits.{used_at}
use Rattle.model.specs.Limits.{cabinet, is_item}
use Rattle.model.specs.Queues.{Queue, known_queue, queue_of, no_items, items_in, sound_queues}
use Rattle.base.specs.Laws.Maps.{all_map_imp}
use Rattle.model.proofs.Laws.SoundQueues.{view, unview}
use Rattle.queues.specs.declared.Queues.{Queues}
use Rattle.queues.specs.Table.{rows_in, names_of, pointers_of, entries, owners, places, row_of, slots_in, contents}
use Rattle.queues.specs.Model.{items_of, queues_of}
use Rattle.queues.specs.Sound.{pointed, length_in, sound_q}
use Rattle.queues.specs.Laws.Typed.{Typed, all_below, entries_le, owners_long, entries_long, names_count, rows_long}
use Rattle.queues.specs.Laws.From.{slots_count, slots_all, slots_none, from_names, from_length, from_known, from_queue, from_items, from_sound, sound_pointed, sound_names_lem}

-- ---- the rules, apart

-- how the entries lie: what the queues of the model do not show
pub record Laid (q : Queues) : Type 0 where
  pub few : q.count ≤ 16
  pub owned : within (owners q) (names_of q) ≡ true
  pub alone : once (places q) ≡ true
  pub taken : all (used_at q.used) (places q) ≡ true
  pub filled : all (length_in q) (places q) ≡ true

pub record QueuesHold (q : Queues) : Type 0 where
  pub laid : Laid q
  pub unique : once (names_of q) ≡ true
  pub named : has (blank 8) (names_of q) ≡ false
  pub pointing : pointed (owners q) (names_of q) (pointers_of q) ≡ true

module _ (q : Queues) where
  abbrev r1 : Bool
  r1 = leb q.count 16

  abbrev r2 : Bool
  r2 = r1 && once (names_of q)

  abbrev r3 : Bool
  r3 = r2 && not (has (blank 8) (names_of q))

  abbrev r4 : Bool
  r4 = r3 && within (owners q) (names_of q)

  abbrev r5 : Bool
  r5 = r4 && pointed (owners q) (names_of q) (pointers_of q)

  abbrev r6 : Bool
  r6 = r5 && once (places q)

  abbrev r7 : Bool
  r7 = r6 && all (used_at q.used) (places q)

  pub holds : sound_q q ≡ true → QueuesHold q
  unfolding sound_q
  holds h =
      let h7 : r7 ≡ true = and_l r7 (all (length_in q) (places q)) h in
      let h6 : r6 ≡ true = and_l r6 (all (used_at q.used) (places q)) h7 in
      let h5 : r5 ≡ true = and_l r5 (once (places q)) h6 in
      let h4 : r4 ≡ true = and_l r4 (pointed (owners q) (names_of q) (pointers_of q)) h5 in
      let h3 : r3 ≡ true = and_l r3 (within (owners q) (names_of q)) h4 in
      let h2 : r2 ≡ true = and_l r2 (not (has (blank 8) (names_of q))) h3 in
      record {
        laid = record {
          few = leb-true q.count 16 (and_l r1 (once (names_of q)) h2);
          owned = and_r r3 (within (owners q) (names_of q)) h4;
          alone = and_r r5 (once (places q)) h6;
          taken = and_r r6 (all (used_at q.used) (places q)) h7;
          filled = and_r r7 (all (length_in q) (places q)) h;
        };
        unique = and_r r1 (once (names_of q)) h2;
        named = not-true (has (blank 8) (names_of q)) (and_r r2 (not (has (blank 8) (names_of q))) h3);
        pointing = and_r r4 (pointed (owners q) (names_of q) (pointers_of q)) h5;
      }

  pub held_sound : QueuesHold q → sound_q q ≡ true
  unfolding sound_q
  held_sound s =
      let l = s.laid in
      and_i (and_i (and_i (and_i (and_i (and_i (and_i (le-leb q.count 16 l.few) s.unique) (ap not s.named)) l.owned) s.pointing)
      l.alone) l.taken) l.filled

-- ---- what the struct stands for

module _ (q : Queues) (b : List ℕ) where
  pub items_count : Typed q → (n : ℕ) → length (items_of q b n) ≡ copies n (owners q)
  unfolding items_of
  items_count t n = length-map (slots_in q n) (contents q b) ∙ slots_count n (owners q) (places q) (entries_long q t)

  pub names_of_lem : Typed q → map (λ (x : Queue). x.name) (queues_of q b) ≡ names_of q
  unfolding queues_of
  names_of_lem t = from_names (items_of q b) (names_of q) (pointers_of q) (rows_long q t)

  pub known_of_lem : Typed q → (n : ℕ) → known_queue (queues_of q b) n ≡ has n (names_of q)
  unfolding queues_of
  known_of_lem t n = from_known (items_of q b) n (names_of q) (pointers_of q) (rows_long q t)

  pub count_of : Typed q → length (queues_of q b) ≡ rows_in q
  unfolding queues_of
  count_of t = from_length (items_of q b) (names_of q) (pointers_of q) (rows_long q t) ∙ names_count q t

  pub queue_of_lem : Typed q → (n : ℕ) → has n (names_of q) ≡ true
      → queue_of (queues_of q b) n ≡ record { name = n; pointer = get_or (pointers_of q) (row_of q n) 0; items = items_of q b n }
  unfolding queues_of
  queue_of_lem t n h = from_queue (items_of q b) (no_items n) n (names_of q) (pointers_of q) (rows_long q t) h

  pub items_of_lem : Typed q → QueuesHold q → items_in (queues_of q b) ≡ entries q
  unfolding queues_of
  items_of_lem t s =
      from_items (items_of q b) (names_of q) (pointers_of q) (owners q) (rows_long q t) s.unique s.laid.owned (items_count t)
      ∙ owners_long q t

  -- a name with no row has no items
  pub items_unknown : QueuesHold q → (n : ℕ) → has n (names_of q) ≡ false → items_of q b n ≡ []
  unfolding items_of
  items_unknown s n h = ap (map (contents q b)) (slots_none n (owners q) (places q) (owned_none n h))
    where
      owned_none : (n : ℕ) → has n (names_of q) ≡ false → has n (owners q) ≡ false
      owned_none n h =
          by_test (has n (owners q)) (λ e. no (sym h ∙ within_says (owners q) (names_of q) s.laid.owned n e)) (λ e. e)

  -- the items of a name, known or not
  pub number_of_lem : Typed q → QueuesHold q → (n : ℕ) → length (queue_of (queues_of q b) n).items ≡ copies n (owners q)
  number_of_lem t s n =
      by_test (has n (names_of q)) (λ h. ap (λ (x : Queue). length x.items) (queue_of_lem t n h) ∙ items_count t n)
      (λ h.
      ap (λ (x : Queue). length x.items) (first_none (λ (x : Queue). eqb x.name n) (no_items n) (queues_of q b) (known_of_lem t n ∙ h))
      ∙ sym (ap length (items_unknown s n h)) ∙ items_count t n)

-- ---- sound, as the model has it

-- names of eight bytes that are not blank
names_all : (l : List ℕ) → all (λ n. ltb n (256 ^ 8)) l ≡ true → has (blank 8) l ≡ false → all (is_name 8) l ≡ true
names_all [] a h = refl
names_all (n ∷ l) a h =
    by_test (eqb n (blank 8)) (λ e. no (sym (rw e at h)))
    (λ e. and_i (and_i (and_l (ltb n (256 ^ 8)) (all (λ m. ltb m (256 ^ 8)) l) a) (ap not e))
    (names_all l (and_r (ltb n (256 ^ 8)) (all (λ m. ltb m (256 ^ 8)) l) a) (rw e at h)))

names_none : (l : List ℕ) → all (is_name 8) l ≡ true → has (blank 8) l ≡ false
names_none [] a = refl
names_none (n ∷ l) a =
    let one = and_r (ltb n (256 ^ 8)) (not (eqb n (blank 8))) (and_l (is_name 8 n) (all (is_name 8) l) a) in
    rw (not-true (eqb n (blank 8)) one) (names_none l (and_r (is_name 8 n) (all (is_name 8) l) a))

pub all_both : (p r : ℕ → Bool) (l : List ℕ) → all p l ≡ true → all r l ≡ true → all (λ x. p x && r x) l ≡ true
all_both p r [] h g = refl
all_both p r (x ∷ l) h g = and_i (and_i (and_l (p x) (all p l) h) (and_l (r x) (all r l) g)) (all_both p r l (and_r (p x) (all p l) h) (and_r (r x) (all r l) g))

pub used_below : (q : Queues) (s : ℕ) → used_at q.used s ≡ true → s < 128
unfolding used_at
used_below q s h = ltb-true s 128 (and_l (ltb s 128) _ h)

module _ (q : Queues) (b : List ℕ) (t : Typed q) where
  -- a slot's content has the length that the slot has
  pub contents_long : length b ≡ 8192 → (s : ℕ) → s < 128 → get_or q.len s 0 ≤ 64 → length (contents q b s) ≡ get_or q.len s 0
  contents_long l s h m = length-take-le (get_or q.len s 0) (drop (s * 64) b) (rw length-drop (omega arith))

  -- and is an item
  contents_item : length b ≡ 8192 → is_bytes b ≡ true → (s : ℕ) → (used_at q.used s && length_in q s) ≡ true → is_item cabinet (contents q b s) ≡ true
  contents_item l y s h =
      let n = get_or q.len s 0 in
      let fits = and_r (used_at q.used s) (length_in q s) h in
      let long = contents_long l s (used_below q s (and_l (used_at q.used s) (length_in q s) h)) (leb-true n 64 (and_r (leb 1 n) (leb n 64) fits)) in
      let short : (leb 1 (length (contents q b s)) && leb (length (contents q b s)) 64) ≡ true = rw long fits in
      and_i short (is_bytes_take n (drop (s * 64) b) (is_bytes_drop (s * 64) b y))

  pub items_all : length b ≡ 8192 → is_bytes b ≡ true → Laid q → (n : ℕ) → all (is_item cabinet) (items_of q b n) ≡ true
  unfolding items_of
  items_all l y s n =
      all_map_imp (contents q b) (λ (x : ℕ). used_at q.used x && length_in q x) (is_item cabinet) (contents_item l y) (slots_in q n)
      (slots_all (λ (x : ℕ). used_at q.used x && length_in q x) n (owners q) (places q) (all_both (used_at q.used) (length_in q) (places q) s.taken s.filled))

  pub model_sound : length b ≡ 8192 → is_bytes b ≡ true → sound_q q ≡ true → sound_queues cabinet (queues_of q b) ≡ true
  unfolding queues_of
  model_sound l y h =
      let s = holds q h in
      let fits = all_take (λ n. ltb n (256 ^ 8)) q.count q.names (all_below (256 ^ 8) q.names t.name_fits) in
      unview cabinet (queues_of q b)
      (record {
        few = let c = count_of q b t in let m : rows_in q ≡ q.count = min-eq_left s.laid.few in omega (arith, s.laid.few);
        room = omega (arith, items_of_lem q b t s, entries_le q t);
        unique = rw (names_of_lem q b t) s.unique;
        each =
            from_sound cabinet (items_of q b) (owners q) (items_count q b t) (names_of q) (pointers_of q) (names_all (names_of q) fits s.named) s.pointing
            (items_all l y s.laid);
      })

  -- what stands for sound queues, with entries that lie as they should, is sound
  pub stands_sound : sound_queues cabinet (queues_of q b) ≡ true → Laid q → sound_q q ≡ true
  unfolding queues_of
  stands_sound h laid =
      let m = view cabinet (queues_of q b) h in
      held_sound q
      (record {
        laid = laid;
        unique = rw (names_of_lem q b t) at m.unique;
        named =
            names_none (names_of q)
            (sound_names_lem cabinet (items_of q b) (owners q) (items_count q b t) (names_of q) (pointers_of q) (rows_long q t) m.each);
        pointing = sound_pointed cabinet (items_of q b) (owners q) (items_count q b t) (names_of q) (pointers_of q) m.each;
      })
