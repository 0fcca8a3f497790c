-- Every sound list of the model's queues, of any limits with at most 128 slots, is what some sound and typed words and bytes stand for, of as many
-- rows and slots as the limits say. Assumes nothing.
use Rattle.std.specs.Prelude.{◌≡◌, Bool, false, not, ◌&&◌, eqb, leb, ltb, drop, get_or, replicate}
use Rattle.std.proofs.Math.Path.{refl, sym, ap, ap₂}
use Rattle.std.proofs.Common.{◌∙◌, subst, zero-add, arith, length-append, take_at}
use Rattle.std.proofs.Math.Bool.{true}
use mathlib.Core.List.{List, [], ◌∷◌, ◌++◌, map, append_assoc, append-nil}
use Prim.Native.Nat.{ℕ, zero, suc, ◌+◌, ◌-◌, ◌*◌, ◌^◌, ◌<◌, ◌≤◌}
use Rattle.std.proofs.Math.ListN.{length, take, length-map, get_or-map}
use Rattle.std.proofs.lemmas.List.{length-replicate}
use Rattle.std.proofs.Math.Seq.{drop-append-add}
use borrow.Author.Tests.{eq-eqb, ne_eqb, eqb-false, le-leb, leb-true, lt-ltb}
use Rattle.base.specs.Choice.{pick}
use Rattle.base.specs.Lists.{all, has, once, within, over}
use Rattle.base.specs.Bytes.{blank, is_byte, is_bytes}
use Rattle.base.specs.Laws.Tests.{by_test, no, and_l, and_r, and_i, eqb_same}
use Rattle.base.specs.Laws.Keep.{all_append, all_replicate}
use Rattle.base.specs.Laws.Maps.{all_map_imp}
use Rattle.base.specs.Laws.Counting.{once_head, once_tail, within_append, within_right}
use Rattle.base.specs.Laws.Bytes.{is_bytes_append}
use Rattle.base.specs.Laws.Over.{length_over, take_over, over_front, all_over}
use Rattle.slots.specs.Bits.{bit, number, none, held, used_at, marked}
use Rattle.slots.specs.Told as told
use Rattle.slots.proofs.Laws.Slots.{none_typed, none_held, none_bit, marked_typed, marked_bit, marked_held, used_bit}
use Rattle.slots.specs.declared.Used.{Used}
use Rattle.model.specs.Limits.{Limits, sized, is_item}
use Rattle.model.specs.Queues.{Queue, items_in, sound_queue, sound_queues}
use Rattle.model.proofs.Laws.SoundQueues.{QueuesSound, view, view_one}
use Rattle.queue_rows.specs.Table.{Queues, rows_in, slots_in, names_of, pointers_of, owners, places, slots_of, contents, Store, store}
use Rattle.queue_rows.specs.Model.{queues_from, items_of, queues_of}
use Rattle.queue_rows.specs.Sound.{sound_q, length_in, SoundS}
use Rattle.queue_rows.specs.Laws.Typed.{Fits, Typed, is_word, are_words}
use Rattle.queue_rows.specs.Laws.From.{from_same}
use Rattle.queue_rows.specs.Laws.Stands.{Laid, stands_sound}

-- ---- the words and bytes of a list of queues

abbrev pub names_in : List Queue → List ℕ
names_in l = map (λ (x : Queue). x.name) l

abbrev pub pointers_in : List Queue → List ℕ
pointers_in l = map (λ (x : Queue). x.pointer) l

-- the items, in the order of the queues, and the owner of each
abbrev pub all_items : List Queue → List (List ℕ)
all_items [] = []
all_items (x ∷ l) = x.items ++ all_items l

abbrev pub all_owners : List Queue → List ℕ
all_owners [] = []
all_owners (x ∷ l) = replicate (length x.items) x.name ++ all_owners l

-- k and the numbers behind it, n of them
abbrev pub up_from : ℕ → ℕ → List ℕ
up_from k zero = []
up_from k (suc n) = k ∷ up_from (suc k) n

-- the first n slots in use, and no other
abbrev pub first_slots : ℕ → Used
first_slots zero = none
first_slots (suc n) = marked (first_slots n) n

-- of so many rows and slots: entry e lies in slot e
unfoldable pub table_of : ℕ → ℕ → List Queue → Queues
table_of rows slots l = record {
  count = length l;
  used = first_slots (items_in l);
  names = over (names_in l) (replicate rows 0);
  pointers = over (pointers_in l) (replicate rows 0);
  owner = over (all_owners l) (replicate slots 0);
  slot = over (up_from 0 (items_in l)) (replicate slots 0);
  len = over (map length (all_items l)) (replicate slots 0);
  past = [];
}

-- each item in 64 bytes
abbrev pub laid_out : List (List ℕ) → List ℕ
laid_out [] = []
laid_out (x ∷ xs) = (x ++ replicate (64 - length x) 0) ++ laid_out xs

unfoldable pub bytes_for : ℕ → List Queue → List ℕ
bytes_for slots l = over (laid_out (all_items l)) (replicate (64 * slots) 0)

abbrev pub store_for : ℕ → ℕ → List Queue → Store
store_for rows slots l = store (table_of rows slots l) (bytes_for slots l)

-- ---- the first slots

record First (n : ℕ) (u : Used) : Type 0 where
  typed : told.Typed u
  in_use : (j : ℕ) → j < n → bit (number u) j ≡ 1
  free : (j : ℕ) → n ≤ j → bit (number u) j ≡ 0
  many : held u ≡ n

first_slots_lem : (n : ℕ) → n ≤ 128 → First n (first_slots n)
first_slots_lem zero h = record { typed = none_typed; in_use = λ j b. absurd (omega arith); free = λ j _. none_bit j; many = none_held }
first_slots_lem (suc n) h =
    let u = first_slots n in
    let r = first_slots_lem n (omega arith) in
    record {
      typed = marked_typed u r.typed n;
      in_use = λ j b.
          marked_bit u r.typed n j
          ∙ by_test (eqb j n) (λ e. rw (e, lt-ltb n 128 (omega arith)))
          (λ e. let d : j ≡ n → ⊥ = eqb-false j n e in rw e (r.in_use j (omega arith)));
      free = λ j b. marked_bit u r.typed n j ∙ rw (ne_eqb j n (λ e. omega arith)) (r.free j (omega arith));
      many = omega (arith, marked_held u r.typed n (omega arith) (r.free n (omega arith)), r.many);
    }

-- ---- numbers in a row

up_length : (k n : ℕ) → length (up_from k n) ≡ n
up_length k zero = refl
up_length k (suc n) = ap suc (up_length (suc k) n)

up_all : (p : ℕ → Bool) (k n : ℕ) → ((j : ℕ) → k ≤ j → j < k + n → p j ≡ true) → all p (up_from k n) ≡ true
up_all p k zero h = refl
up_all p k (suc n) h = and_i (h k (omega arith) (omega arith)) (up_all p (suc k) n (λ j a b. h j (omega arith) (omega arith)))

up_not : (j k n : ℕ) → j < k → has j (up_from k n) ≡ false
up_not j k zero h = refl
up_not j k (suc n) h = rw (ne_eqb k j (λ e. omega arith)) (up_not j (suc k) n (omega arith))

up_once : (k n : ℕ) → once (up_from k n) ≡ true
up_once k zero = refl
up_once k (suc n) = rw (up_not k (suc k) n (omega arith)) (up_once (suc k) n)

up_map : {A : Type 0} (f : ℕ → A) (d : A) (k : ℕ) (xs : List A) → ((i : ℕ) → i < length xs → f (k + i) ≡ get_or xs i d)
    → map f (up_from k (length xs)) ≡ xs
up_map f d k [] h = refl
up_map f d k (x ∷ xs) h =
    let z : k ≡ k + 0 = omega arith in
    let head : f k ≡ x = ap f z ∙ h 0 (omega arith) in
    let tail = up_map f d (suc k) xs (λ i b. let e : suc k + i ≡ k + suc i = omega arith in ap f e ∙ h (suc i) (omega arith)) in
    cc

-- ---- items laid out

-- what an item and a queue are is the same for every unit
abbrev unit : Limits
unit = sized 0 0 0 0 0

record Item (x : List ℕ) : Type 0 where
  some : 1 ≤ length x
  short : length x ≤ 64
  bytes : is_bytes x ≡ true

is_item_lem : (x : List ℕ) → is_item unit x ≡ true → Item x
is_item_lem x h =
    let low : Bool = leb 1 (length x) in
    let high : Bool = leb (length x) 64 in
    let fits = and_l (low && high) (is_bytes x) h in
    record {
      some = leb-true 1 (length x) (and_l low high fits);
      short = leb-true (length x) 64 (and_r low high fits);
      bytes = and_r (low && high) (is_bytes x) h;
    }

abbrev padded : List ℕ → List ℕ
padded x = x ++ replicate (64 - length x) 0

pad_long : (x : List ℕ) → length x ≤ 64 → length (padded x) ≡ 64
pad_long x h = omega (arith, length-append x (replicate (64 - length x) 0), length-replicate {A = ℕ} (64 - length x) 0)

head_item : (x : List ℕ) (xs : List (List ℕ)) → all (is_item unit) (x ∷ xs) ≡ true → Item x
head_item x xs a = is_item_lem x (and_l (is_item unit x) (all (is_item unit) xs) a)

laid_long : (xs : List (List ℕ)) → all (is_item unit) xs ≡ true → length (laid_out xs) ≡ length xs * 64
laid_long [] a = refl
laid_long (x ∷ xs) a =
    let i = head_item x xs a in
    omega (
      arith,
      length-append (padded x) (laid_out xs),
      pad_long x i.short,
      laid_long xs (and_r (is_item unit x) (all (is_item unit) xs) a),
    )

laid_bytes : (xs : List (List ℕ)) → all (is_item unit) xs ≡ true → is_bytes (laid_out xs) ≡ true
laid_bytes [] a = refl
laid_bytes (x ∷ xs) a =
    is_bytes_append (padded x) (laid_out xs)
    ∙ and_i (is_bytes_append x (replicate (64 - length x) 0) ∙ and_i (head_item x xs a).bytes (all_replicate is_byte (64 - length x) 0 refl))
    (laid_bytes xs (and_r (is_item unit x) (all (is_item unit) xs) a))

laid_at : (xs : List (List ℕ)) (rest : List ℕ) (i : ℕ) → all (is_item unit) xs ≡ true → i < length xs
    → take (length (get_or xs i [])) (drop (i * 64) (laid_out xs ++ rest)) ≡ get_or xs i []
laid_at [] rest i a h = absurd (omega arith)
laid_at (x ∷ xs) rest zero a h =
    let z : List ℕ = replicate (64 - length x) 0 in
    ap (take (length x)) (append_assoc (x ++ z) (laid_out xs) rest ∙ append_assoc x z (laid_out xs ++ rest))
    ∙ take_at x (z ++ (laid_out xs ++ rest)) (length x) refl
laid_at (x ∷ xs) rest (suc i) a h =
    let e : suc i * 64 ≡ length (padded x) + i * 64 = omega (arith, pad_long x (head_item x xs a).short) in
    let m : ℕ = length (get_or xs i []) in
    ap₂ (λ (k : ℕ) (y : List ℕ). take m (drop k y)) e (append_assoc (padded x) (laid_out xs) rest)
    ∙ ap (take m) (drop-append-add (padded x) (laid_out xs ++ rest) (i * 64))
    ∙ laid_at xs rest i (and_r (is_item unit x) (all (is_item unit) xs) a) (omega arith)

-- ---- the items of a name

-- those whose owner is n
abbrev items_for : ℕ → List ℕ → List (List ℕ) → List (List ℕ)
items_for n [] xs = []
items_for n (o ∷ os) [] = []
items_for n (o ∷ os) (x ∷ xs) = pick (eqb o n) (x ∷ items_for n os xs) (items_for n os xs)

map_slots : (f : ℕ → List ℕ) (n : ℕ) (os ss : List ℕ) → map f (slots_of n os ss) ≡ items_for n os (map f ss)
map_slots f n [] ss = refl
map_slots f n (o ∷ os) [] = refl
map_slots f n (o ∷ os) (s ∷ ss) =
    let r = map_slots f n os ss in by_test (eqb o n) (λ e. rw e (ap (λ (x : List (List ℕ)). f s ∷ x) r)) (λ e. rw e r)

for_append : (m n : ℕ) (xs : List (List ℕ)) (os : List ℕ) (ys : List (List ℕ))
    → items_for m (replicate (length xs) n ++ os) (xs ++ ys) ≡ pick (eqb n m) xs [] ++ items_for m os ys
for_append m n [] os ys = by_test (eqb n m) (λ e. rw e) (λ e. rw e)
for_append m n (x ∷ xs) os ys =
    let r = for_append m n xs os ys in
    by_test (eqb n m) (λ e. rw e (ap (λ (z : List (List ℕ)). x ∷ z) (rw e at r))) (λ e. rw e (rw e at r))

-- those of the queues of the name
abbrev gathered : ℕ → List Queue → List (List ℕ)
gathered m [] = []
gathered m (x ∷ l) = pick (eqb x.name m) x.items [] ++ gathered m l

for_all : (m : ℕ) (l : List Queue) → items_for m (all_owners l) (all_items l) ≡ gathered m l
for_all m [] = refl
for_all m (x ∷ l) =
    for_append m x.name x.items (all_owners l) (all_items l)
    ∙ ap (λ (z : List (List ℕ)). pick (eqb x.name m) x.items [] ++ z) (for_all m l)

gathered_none : (m : ℕ) (l : List Queue) → has m (names_in l) ≡ false → gathered m l ≡ []
gathered_none m [] h = refl
gathered_none m (x ∷ l) h = by_test (eqb x.name m) (λ e. no (sym (rw e at h))) (λ e. rw e (gathered_none m l (rw e at h)))

gathered_stands : (l : List Queue) → once (names_in l) ≡ true → queues_from (λ m. gathered m l) (names_in l) (pointers_in l) ≡ l
gathered_stands [] o = refl
gathered_stands (x ∷ l) o =
    let apart : has x.name (names_in l) ≡ false = once_head x.name (names_in l) o in
    let head : gathered x.name (x ∷ l) ≡ x.items = rw (eqb_same x.name, gathered_none x.name l apart) (append-nil x.items) in
    let tail : queues_from (λ m. gathered m (x ∷ l)) (names_in l) (pointers_in l) ≡ queues_from (λ m. gathered m l) (names_in l) (pointers_in l) =
    from_same (λ m. gathered m l) (λ m. gathered m (x ∷ l)) (names_in l) (pointers_in l)
    (λ m k. rw (ne_eqb x.name m (λ e. no (sym apart ∙ subst (λ (j : ℕ). has j (names_in l) ≡ true) (sym e) k)))) in
    ap₂ (λ (i : List (List ℕ)) (r : List Queue). record { name = x.name; pointer = x.pointer; items = i } ∷ r)
    head (tail ∙ gathered_stands l (once_tail x.name (names_in l) o))

-- ---- lengths, and what is true of each

items_long : (l : List Queue) → length (all_items l) ≡ items_in l
items_long [] = refl
items_long (x ∷ l) = omega (arith, length-append x.items (all_items l), items_long l)

owned_long : (l : List Queue) → length (all_owners l) ≡ items_in l
owned_long [] = refl
owned_long (x ∷ l) =
    omega (
      arith,
      length-append (replicate (length x.items) x.name) (all_owners l),
      length-replicate {A = ℕ} (length x.items) x.name,
      owned_long l,
    )

owned_all : (p : ℕ → Bool) (l : List Queue) → all p (names_in l) ≡ true → all p (all_owners l) ≡ true
owned_all p [] h = refl
owned_all p (x ∷ l) h =
    all_append p (replicate (length x.items) x.name) (all_owners l)
    ∙ and_i (all_replicate p (length x.items) x.name (and_l (p x.name) (all p (names_in l)) h))
    (owned_all p l (and_r (p x.name) (all p (names_in l)) h))

owned_within : (l : List Queue) → within (all_owners l) (names_in l) ≡ true
owned_within [] = refl
owned_within (x ∷ l) =
    within_append (replicate (length x.items) x.name) (all_owners l) (names_in (x ∷ l))
    ∙ and_i (all_replicate (λ n. has n (names_in (x ∷ l))) (length x.items) x.name (rw (eqb_same x.name)))
    (within_right (all_owners l) (x.name ∷ []) (names_in l) (owned_within l))

items_each : (l : List Queue) → all (sound_queue unit) l ≡ true → all (is_item unit) (all_items l) ≡ true
items_each [] h = refl
items_each (x ∷ l) h =
    all_append (is_item unit) x.items (all_items l)
    ∙ and_i (view_one unit x (and_l (sound_queue unit x) (all (sound_queue unit) l) h)).filled
    (items_each l (and_r (sound_queue unit x) (all (sound_queue unit) l) h))

-- a pointer is at most as many as there are items
pointers_each : (l : List Queue) → all (sound_queue unit) l ≡ true → items_in l ≤ 128 → are_words (pointers_in l) ≡ true
pointers_each [] h m = refl
pointers_each (x ∷ l) h m =
    let p = (view_one unit x (and_l (sound_queue unit x) (all (sound_queue unit) l) h)).pointed in
    and_i (lt-ltb x.pointer (2 ^ 64) (omega arith))
    (pointers_each l (and_r (sound_queue unit x) (all (sound_queue unit) l) h) (omega arith))

names_each : (l : List Queue) → all (sound_queue unit) l ≡ true → are_words (names_in l) ≡ true
names_each l h =
    all_map_imp (λ (x : Queue). x.name) (sound_queue unit) is_word
    (λ x g. and_l (ltb x.name (2 ^ 64)) (not (eqb x.name (blank 8))) (view_one unit x g).named) l h

-- the item at a place
item_nth : (xs : List (List ℕ)) (i : ℕ) → all (is_item unit) xs ≡ true → i < length xs → Item (get_or xs i [])
item_nth [] i a g = absurd (omega arith)
item_nth (x ∷ xs) zero a g = head_item x xs a
item_nth (x ∷ xs) (suc i) a g = item_nth xs i (and_r (is_item unit x) (all (is_item unit) xs) a) (omega arith)

-- ---- they stand for the list

module _ (p t r rows slots : ℕ) (l : List Queue) (h : sound_queues (sized p t r rows slots) l ≡ true) (most : slots ≤ 128) where
  s : QueuesSound (sized p t r rows slots) l
  s = view (sized p t r rows slots) l h

  room : items_in l ≤ slots
  room = s.room

  few : length l ≤ rows
  few = s.few

  each : all (is_item unit) (all_items l) ≡ true
  each = items_each l s.each

  abbrev q : Queues
  q = table_of rows slots l

  abbrev b : List ℕ
  b = bytes_for slots l

  first : First (items_in l) (first_slots (items_in l))
  first = first_slots_lem (items_in l) (omega (arith, room))

  -- what is laid over zeros is the live part
  live : (n k : ℕ) (ks : List ℕ) → k ≡ length ks → take k (over ks (replicate n 0)) ≡ ks
  live n k ks e = ap (λ (i : ℕ). take i (over ks (replicate n 0))) e ∙ take_over ks (replicate n 0)

  names_is : names_of q ≡ names_in l
  unfolding table_of
  names_is = live rows (length l) (names_in l) (sym (length-map l (λ (x : Queue). x.name)))

  pointers_is : pointers_of q ≡ pointers_in l
  unfolding table_of
  pointers_is = live rows (length l) (pointers_in l) (sym (length-map l (λ (x : Queue). x.pointer)))

  owners_is : owners q ≡ all_owners l
  unfolding table_of
  owners_is = live slots (held (first_slots (items_in l))) (all_owners l) (first.many ∙ sym (owned_long l))

  places_is : places q ≡ up_from 0 (items_in l)
  unfolding table_of
  places_is = live slots (held (first_slots (items_in l))) (up_from 0 (items_in l)) (first.many ∙ sym (up_length 0 (items_in l)))

  -- slot i holds item i
  len_at : (i : ℕ) → i < items_in l → get_or q.len i 0 ≡ length (get_or (all_items l) i [])
  unfolding table_of
  len_at i g =
      over_front (map length (all_items l)) (replicate slots 0) i 0 (omega (arith, length-map (all_items l) (λ (x : List ℕ). length x), items_long l))
      ∙ get_or-map (λ (x : List ℕ). length x) (all_items l) i []

  contents_at : (i : ℕ) → i < items_in l → contents q b i ≡ get_or (all_items l) i []
  unfolding bytes_for
  contents_at i g =
      ap (λ (m : ℕ). take m (drop (i * 64) b)) (len_at i g)
      ∙ laid_at (all_items l) (drop (length (laid_out (all_items l))) (replicate (64 * slots) 0)) i each (omega (arith, items_long l))

  items_is : (m : ℕ) → items_of q b m ≡ gathered m l
  unfolding items_of
  items_is m =
      let f : ℕ → List ℕ = contents q b in
      ap₂ (λ (x y : List ℕ). map f (slots_of m x y)) owners_is places_is
      ∙ map_slots f m (all_owners l) (up_from 0 (items_in l))
      ∙ ap (items_for m (all_owners l))
      (ap (λ (k : ℕ). map f (up_from 0 k)) (sym (items_long l))
      ∙ up_map f [] 0 (all_items l) (λ i g. ap f (zero-add i) ∙ contents_at i (omega (arith, items_long l))))
      ∙ for_all m l

  every_stands : queues_of (store q b) ≡ l
  unfolding queues_of
  every_stands =
      ap₂ (queues_from (items_of q b)) names_is pointers_is
      ∙ from_same (λ m. gathered m l) (items_of q b) (names_in l) (pointers_in l) (λ m _. items_is m)
      ∙ gathered_stands l s.unique

  -- ---- they fit and are typed

  long : (n : ℕ) (ks : List ℕ) → length ks ≤ n → length (over ks (replicate n 0)) ≡ n
  long n ks g =
      let z = length-replicate {A = ℕ} n 0 in
      length_over ks (replicate n 0) (omega arith) ∙ z

  rows_are : rows_in q ≡ rows
  unfolding table_of
  rows_are = long rows (names_in l) (omega (arith, few, length-map l (λ (x : Queue). x.name)))

  slots_are : slots_in q ≡ slots
  unfolding table_of
  slots_are = long slots (up_from 0 (items_in l)) (omega (arith, room, up_length 0 (items_in l)))

  bytes_are : length b ≡ 64 * slots
  unfolding bytes_for
  bytes_are = long (64 * slots) (laid_out (all_items l)) (omega (arith, room, items_long l, laid_long (all_items l) each))

  every_fits : Fits q b
  unfolding table_of
  every_fits = record {
    pointers_long = long rows (pointers_in l) (omega (arith, few, length-map l (λ (x : Queue). x.pointer))) ∙ sym rows_are;
    owner_long = long slots (all_owners l) (omega (arith, room, owned_long l)) ∙ sym slots_are;
    len_long = long slots (map length (all_items l)) (omega (arith, room, items_long l, length-map (all_items l) (λ (x : List ℕ). length x))) ∙ sym slots_are;
    slots_few = omega (arith, slots_are);
    bytes_long = omega (arith, slots_are, bytes_are);
    words = first.typed;
  }

  every_typed : rows < 2 ^ 64 → Typed (store q b)
  unfolding table_of bytes_for
  every_typed w =
      let names = names_each l s.each in
      let zeros : (n : ℕ) → are_words (replicate n 0) ≡ true = λ n. all_replicate is_word n 0 refl in
      let over_words : (n : ℕ) (ks : List ℕ) → are_words ks ≡ true → are_words (over ks (replicate n 0)) ≡ true =
      λ n ks a. all_over is_word ks (replicate n 0) a (zeros n) in
      record {
        rows = omega (arith, rows_are);
        count = omega (arith, few);
        names = over_words rows (names_in l) names;
        pointers = over_words rows (pointers_in l) (pointers_each l s.each (omega (arith, room)));
        owner = over_words slots (all_owners l) (owned_all is_word l names);
        slot =
            over_words slots (up_from 0 (items_in l))
            (up_all is_word 0 (items_in l) (λ j _ g. lt-ltb j (2 ^ 64) (omega (arith, room))));
        len =
            over_words slots (map length (all_items l))
            (all_map_imp (λ (x : List ℕ). length x) (is_item unit) is_word
            (λ x g. let i = is_item_lem x g in lt-ltb (length x) (2 ^ 64) (omega (arith, i.short))) (all_items l) each);
        past = refl;
        bytes =
            all_over is_byte (laid_out (all_items l)) (replicate (64 * slots) 0) (laid_bytes (all_items l) each)
            (all_replicate is_byte (64 * slots) 0 refl);
      }

  -- ---- they are sound

  used_at_lem : (j : ℕ) → j < items_in l → used_at q.used j ≡ true
  unfolding table_of
  used_at_lem j g = used_bit (first_slots (items_in l)) first.typed j ∙ eq-eqb (bit (number (first_slots (items_in l))) j) 1 (first.in_use j g)

  count_is : (q.count ≡ length l) × (held q.used ≡ items_in l)
  unfolding table_of
  count_is = (refl, first.many)

  laid : Laid q
  laid = record {
    few = omega (arith, count_is.0, rows_are, few);
    room = omega (arith, count_is.1, slots_are, room);
    owned = rw (owners_is, names_is) (owned_within l);
    alone = rw places_is (up_once 0 (items_in l));
    taken = rw places_is (up_all (used_at q.used) 0 (items_in l) (λ j _ g. used_at_lem j (omega arith)));
    inside =
        rw (places_is, slots_are) (up_all (λ x. ltb x slots) 0 (items_in l) (λ j _ g. lt-ltb j slots (omega (arith, room))));
    filled =
        rw places_is
        (up_all (length_in q) 0 (items_in l)
        (λ j _ g.
        let b : j < items_in l = omega arith in
        let i = item_nth (all_items l) j each (omega (arith, items_long l)) in
        let n : ℕ = length (get_or (all_items l) j []) in
        rw (len_at j b) (and_i (le-leb 1 n i.some) (le-leb n 64 i.short))));
  }

  every_sound : sound_q q ≡ true
  every_sound =
      stands_sound (sized p t r rows slots) q b every_fits
      (subst (λ (x : List Queue). QueuesSound (sized p t r rows slots) x) (sym every_stands) s) laid

-- all of it at once
pub record Every (rows slots : ℕ) (l : List Queue) : Type 0 where
  pub stands : queues_of (store_for rows slots l) ≡ l
  pub sound : SoundS (store_for rows slots l)
  pub fits : Fits (table_of rows slots l) (bytes_for slots l)
  pub typed : Typed (store_for rows slots l)
  pub rows_are : rows_in (table_of rows slots l) ≡ rows
  pub slots_are : slots_in (table_of rows slots l) ≡ slots
  pub past_none : (table_of rows slots l).past ≡ []
  pub bytes_are : length (bytes_for slots l) ≡ 64 * slots

-- a slice has fewer than 2 ^ 64 rows
pub every : (p t r rows slots : ℕ) (l : List Queue) → sound_queues (sized p t r rows slots) l ≡ true → slots ≤ 128 → rows < 2 ^ 64
    → Every rows slots l
unfolding table_of
every p t r rows slots l h most w = record {
  stands = every_stands p t r rows slots l h most;
  sound = every_sound p t r rows slots l h most;
  fits = every_fits p t r rows slots l h most;
  typed = every_typed p t r rows slots l h most w;
  rows_are = rows_are p t r rows slots l h most;
  slots_are = slots_are p t r rows slots l h most;
  past_none = refl;
  bytes_are = bytes_are p t r rows slots l h most;
}
