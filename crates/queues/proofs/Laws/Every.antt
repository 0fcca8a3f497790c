-- Every sound list of the model's queues is what some typed and sound struct, with 8,192 bytes beside it, stands for. Assumes nothing.
use Rattle.std.specs.Prelude.{◌≡◌, refl, Bool, true, false, not, ◌&&◌, eqb, leb, drop, get_or, replicate}
use Rattle.std.proofs.Math.Path.{sym, ap, ap₂}
use Rattle.std.proofs.Common.{◌∙◌, subst, zero-add, arith, length-append, take_at}
use mathlib.Core.List.{List, [], ◌∷◌, ◌++◌, map, append_assoc, append-nil}
use Prim.Native.Nat.{ℕ, zero, suc, ◌+◌, ◌-◌, ◌*◌, ◌^◌, ◌<◌, ◌≤◌}
use Rattle.std.proofs.Math.Dec.{ltb}
use Rattle.std.proofs.Math.ListN.{length, take, length-map, get_or-map}
use Rattle.std.proofs.lemmas.List.{length-replicate}
use Rattle.std.proofs.Math.Seq.{drop-append-add}
use borrow.Author.Tests.{eq-eqb, ne_eqb, eqb-false, le-leb, leb-true, lt-ltb}
use Rattle.base.specs.Choice.{pick}
use Rattle.base.specs.Lists.{all, has, once, within, over}
use Rattle.base.specs.Bytes.{blank, is_byte, is_bytes}
use Rattle.base.specs.Laws.Tests.{by_test, no, and_l, and_r, and_i, eqb_same}
use Rattle.base.specs.Laws.Keep.{all_append, all_replicate}
use Rattle.base.specs.Laws.Maps.{all_map_imp}
use Rattle.base.specs.Laws.Counting.{once_head, once_tail, within_append, within_right}
use Rattle.base.specs.Laws.Bytes.{is_bytes_append, is_bytes_drop}
use Rattle.base.specs.Laws.Over.{length_over, take_over, over_front}
use Rattle.slots.specs.Bits.{bit, number, none, held, used_at, marked}
use Rattle.slots.specs.Told as told
use Rattle.slots.proofs.Laws.Slots.{none_typed, none_held, none_bit, marked_typed, marked_bit, marked_held, used_bit}
use Rattle.slots.specs.declared.Used.{Used}
use Rattle.model.specs.Limits.{cabinet, is_item}
use Rattle.model.specs.Queues.{Queue, items_in, sound_queue, sound_queues}
use Rattle.model.proofs.Laws.SoundQueues.{QueuesSound, view, view_one}
use Rattle.queues.specs.declared.Queues.{Queues}
use Rattle.queues.specs.Table.{names_of, pointers_of, owners, places, slots_of, contents}
use Rattle.queues.specs.Model.{queues_from, items_of, queues_of}
use Rattle.queues.specs.Sound.{sound_q, length_in}
use Rattle.queues.specs.Laws.Typed.{Typed}
use Rattle.queues.specs.Laws.From.{from_same}
use Rattle.queues.specs.Laws.Stands.{Laid, stands_sound}
use Rattle.queues.specs.Laws.Fresh.{zeros_below}
use Rattle.queues.proofs.Laws.Kept.{over_below}
use Rattle.queues.specs.Runs.{store, queues_in}
use Rattle.queues.proofs.Laws.Runs.{Good}

-- ---- the struct of a list of queues

abbrev pub names_in : List Queue → List ℕ
names_in l = map (λ (x : Queue). x.name) l

abbrev pub pointers_in : List Queue → List ℕ
pointers_in l = map (λ (x : Queue). x.pointer) l

-- the items, in the order of the queues, and the owner of each
abbrev pub all_items : List Queue → List (List ℕ)
all_items [] = []
all_items (x ∷ l) = x.items ++ all_items l

abbrev pub all_owners : List Queue → List ℕ
all_owners [] = []
all_owners (x ∷ l) = replicate (length x.items) x.name ++ all_owners l

-- k and the numbers behind it, n of them
abbrev pub up_from : ℕ → ℕ → List ℕ
up_from k zero = []
up_from k (suc n) = k ∷ up_from (suc k) n

-- the first n slots in use, and no other
abbrev pub first_slots : ℕ → Used
first_slots zero = none
first_slots (suc n) = marked (first_slots n) n

-- entry e lies in slot e
unfoldable pub table_of : List Queue → Queues
table_of l = record {
  count = length l;
  names = over (names_in l) (replicate 16 0);
  pointers = over (pointers_in l) (replicate 16 0);
  used = first_slots (items_in l);
  owner = over (all_owners l) (replicate 128 0);
  slot = over (up_from 0 (items_in l)) (replicate 128 0);
  len = over (map length (all_items l)) (replicate 128 0);
}

-- each item in 64 bytes
abbrev pub laid_out : List (List ℕ) → List ℕ
laid_out [] = []
laid_out (x ∷ xs) = (x ++ replicate (64 - length x) 0) ++ laid_out xs

unfoldable pub bytes_for : List Queue → List ℕ
bytes_for l = over (laid_out (all_items l)) (replicate 8192 0)

-- ---- the first slots

record First (n : ℕ) (u : Used) : Type 0 where
  typed : told.Typed u
  in_use : (j : ℕ) → j < n → bit (number u) j ≡ 1
  free : (j : ℕ) → n ≤ j → bit (number u) j ≡ 0
  many : held u ≡ n

first_slots_lem : (n : ℕ) → n ≤ 128 → First n (first_slots n)
first_slots_lem zero h = record { typed = none_typed; in_use = λ j b. absurd (omega arith); free = λ j _. none_bit j; many = none_held }
first_slots_lem (suc n) h =
    let u = first_slots n in
    let r = first_slots_lem n (omega arith) in
    record {
      typed = marked_typed u r.typed n;
      in_use = λ j b.
          marked_bit u r.typed n j
          ∙ by_test (eqb j n) (λ e. rw (e, lt-ltb n 128 (omega arith)))
          (λ e. let d : j ≡ n → ⊥ = eqb-false j n e in rw e (r.in_use j (omega arith)));
      free = λ j b. marked_bit u r.typed n j ∙ rw (ne_eqb j n (λ e. omega arith)) (r.free j (omega arith));
      many = omega (arith, marked_held u r.typed n (omega arith) (r.free n (omega arith)), r.many);
    }

-- ---- numbers in a row

up_length : (k n : ℕ) → length (up_from k n) ≡ n
up_length k zero = refl
up_length k (suc n) = ap suc (up_length (suc k) n)

up_all : (p : ℕ → Bool) (k n : ℕ) → ((j : ℕ) → k ≤ j → j < k + n → p j ≡ true) → all p (up_from k n) ≡ true
up_all p k zero h = refl
up_all p k (suc n) h = and_i (h k (omega arith) (omega arith)) (up_all p (suc k) n (λ j a b. h j (omega arith) (omega arith)))

up_not : (j k n : ℕ) → j < k → has j (up_from k n) ≡ false
up_not j k zero h = refl
up_not j k (suc n) h = rw (ne_eqb k j (λ e. omega arith)) (up_not j (suc k) n (omega arith))

up_once : (k n : ℕ) → once (up_from k n) ≡ true
up_once k zero = refl
up_once k (suc n) = rw (up_not k (suc k) n (omega arith)) (up_once (suc k) n)

up_map : {A : Type 0} (f : ℕ → A) (d : A) (k : ℕ) (xs : List A) → ((i : ℕ) → i < length xs → f (k + i) ≡ get_or xs i d)
    → map f (up_from k (length xs)) ≡ xs
up_map f d k [] h = refl
up_map f d k (x ∷ xs) h =
    let z : k ≡ k + 0 = omega arith in
    let head : f k ≡ x = ap f z ∙ h 0 (omega arith) in
    let tail = up_map f d (suc k) xs (λ i b. let e : suc k + i ≡ k + suc i = omega arith in ap f e ∙ h (suc i) (omega arith)) in
    cc

-- ---- items laid out

record Item (x : List ℕ) : Type 0 where
  some : 1 ≤ length x
  short : length x ≤ 64
  bytes : is_bytes x ≡ true

is_item_lem : (x : List ℕ) → is_item cabinet x ≡ true → Item x
is_item_lem x h =
    let low : Bool = leb 1 (length x) in
    let high : Bool = leb (length x) 64 in
    let fits = and_l (low && high) (is_bytes x) h in
    record {
      some = leb-true 1 (length x) (and_l low high fits);
      short = leb-true (length x) 64 (and_r low high fits);
      bytes = and_r (low && high) (is_bytes x) h;
    }

abbrev padded : List ℕ → List ℕ
padded x = x ++ replicate (64 - length x) 0

pad_long : (x : List ℕ) → length x ≤ 64 → length (padded x) ≡ 64
pad_long x h = omega (arith, length-append x (replicate (64 - length x) 0), length-replicate {A = ℕ} (64 - length x) 0)

head_item : (x : List ℕ) (xs : List (List ℕ)) → all (is_item cabinet) (x ∷ xs) ≡ true → Item x
head_item x xs a = is_item_lem x (and_l (is_item cabinet x) (all (is_item cabinet) xs) a)

laid_long : (xs : List (List ℕ)) → all (is_item cabinet) xs ≡ true → length (laid_out xs) ≡ length xs * 64
laid_long [] a = refl
laid_long (x ∷ xs) a =
    let i = head_item x xs a in
    omega (
      arith,
      length-append (padded x) (laid_out xs),
      pad_long x i.short,
      laid_long xs (and_r (is_item cabinet x) (all (is_item cabinet) xs) a),
    )

laid_bytes : (xs : List (List ℕ)) → all (is_item cabinet) xs ≡ true → is_bytes (laid_out xs) ≡ true
laid_bytes [] a = refl
laid_bytes (x ∷ xs) a =
    is_bytes_append (padded x) (laid_out xs)
    ∙ and_i (is_bytes_append x (replicate (64 - length x) 0) ∙ and_i (head_item x xs a).bytes (all_replicate is_byte (64 - length x) 0 refl))
    (laid_bytes xs (and_r (is_item cabinet x) (all (is_item cabinet) xs) a))

laid_at : (xs : List (List ℕ)) (rest : List ℕ) (i : ℕ) → all (is_item cabinet) xs ≡ true → i < length xs
    → take (length (get_or xs i [])) (drop (i * 64) (laid_out xs ++ rest)) ≡ get_or xs i []
laid_at [] rest i a h = absurd (omega arith)
laid_at (x ∷ xs) rest zero a h =
    let z : List ℕ = replicate (64 - length x) 0 in
    ap (take (length x)) (append_assoc (x ++ z) (laid_out xs) rest ∙ append_assoc x z (laid_out xs ++ rest))
    ∙ take_at x (z ++ (laid_out xs ++ rest)) (length x) refl
laid_at (x ∷ xs) rest (suc i) a h =
    let e : suc i * 64 ≡ length (padded x) + i * 64 = omega (arith, pad_long x (head_item x xs a).short) in
    let m : ℕ = length (get_or xs i []) in
    ap₂ (λ (k : ℕ) (y : List ℕ). take m (drop k y)) e (append_assoc (padded x) (laid_out xs) rest)
    ∙ ap (take m) (drop-append-add (padded x) (laid_out xs ++ rest) (i * 64))
    ∙ laid_at xs rest i (and_r (is_item cabinet x) (all (is_item cabinet) xs) a) (omega arith)

-- ---- the items of a name

-- those whose owner is n
abbrev items_for : ℕ → List ℕ → List (List ℕ) → List (List ℕ)
items_for n [] xs = []
items_for n (o ∷ os) [] = []
items_for n (o ∷ os) (x ∷ xs) = pick (eqb o n) (x ∷ items_for n os xs) (items_for n os xs)

map_slots : (f : ℕ → List ℕ) (n : ℕ) (os ss : List ℕ) → map f (slots_of n os ss) ≡ items_for n os (map f ss)
map_slots f n [] ss = refl
map_slots f n (o ∷ os) [] = refl
map_slots f n (o ∷ os) (s ∷ ss) =
    let r = map_slots f n os ss in by_test (eqb o n) (λ e. rw e (ap (λ (x : List (List ℕ)). f s ∷ x) r)) (λ e. rw e r)

for_append : (m n : ℕ) (xs : List (List ℕ)) (os : List ℕ) (ys : List (List ℕ))
    → items_for m (replicate (length xs) n ++ os) (xs ++ ys) ≡ pick (eqb n m) xs [] ++ items_for m os ys
for_append m n [] os ys = by_test (eqb n m) (λ e. rw e) (λ e. rw e)
for_append m n (x ∷ xs) os ys =
    let r = for_append m n xs os ys in
    by_test (eqb n m) (λ e. rw e (ap (λ (z : List (List ℕ)). x ∷ z) (rw e at r))) (λ e. rw e (rw e at r))

-- those of the queues of the name
abbrev gathered : ℕ → List Queue → List (List ℕ)
gathered m [] = []
gathered m (x ∷ l) = pick (eqb x.name m) x.items [] ++ gathered m l

for_all : (m : ℕ) (l : List Queue) → items_for m (all_owners l) (all_items l) ≡ gathered m l
for_all m [] = refl
for_all m (x ∷ l) =
    for_append m x.name x.items (all_owners l) (all_items l)
    ∙ ap (λ (z : List (List ℕ)). pick (eqb x.name m) x.items [] ++ z) (for_all m l)

gathered_none : (m : ℕ) (l : List Queue) → has m (names_in l) ≡ false → gathered m l ≡ []
gathered_none m [] h = refl
gathered_none m (x ∷ l) h = by_test (eqb x.name m) (λ e. no (sym (rw e at h))) (λ e. rw e (gathered_none m l (rw e at h)))

gathered_stands : (l : List Queue) → once (names_in l) ≡ true → queues_from (λ m. gathered m l) (names_in l) (pointers_in l) ≡ l
gathered_stands [] o = refl
gathered_stands (x ∷ l) o =
    let apart : has x.name (names_in l) ≡ false = once_head x.name (names_in l) o in
    let head : gathered x.name (x ∷ l) ≡ x.items = rw (eqb_same x.name, gathered_none x.name l apart) (append-nil x.items) in
    let tail : queues_from (λ m. gathered m (x ∷ l)) (names_in l) (pointers_in l) ≡ queues_from (λ m. gathered m l) (names_in l) (pointers_in l) =
    from_same (λ m. gathered m l) (λ m. gathered m (x ∷ l)) (names_in l) (pointers_in l)
    (λ m k. rw (ne_eqb x.name m (λ e. no (sym apart ∙ subst (λ (j : ℕ). has j (names_in l) ≡ true) (sym e) k)))) in
    ap₂ (λ (i : List (List ℕ)) (r : List Queue). record { name = x.name; pointer = x.pointer; items = i } ∷ r)
    head (tail ∙ gathered_stands l (once_tail x.name (names_in l) o))

-- ---- lengths, and what is true of each

items_long : (l : List Queue) → length (all_items l) ≡ items_in l
items_long [] = refl
items_long (x ∷ l) = omega (arith, length-append x.items (all_items l), items_long l)

owned_long : (l : List Queue) → length (all_owners l) ≡ items_in l
owned_long [] = refl
owned_long (x ∷ l) =
    omega (
      arith,
      length-append (replicate (length x.items) x.name) (all_owners l),
      length-replicate {A = ℕ} (length x.items) x.name,
      owned_long l,
    )

owned_all : (p : ℕ → Bool) (l : List Queue) → all p (names_in l) ≡ true → all p (all_owners l) ≡ true
owned_all p [] h = refl
owned_all p (x ∷ l) h =
    all_append p (replicate (length x.items) x.name) (all_owners l)
    ∙ and_i (all_replicate p (length x.items) x.name (and_l (p x.name) (all p (names_in l)) h))
    (owned_all p l (and_r (p x.name) (all p (names_in l)) h))

owned_within : (l : List Queue) → within (all_owners l) (names_in l) ≡ true
owned_within [] = refl
owned_within (x ∷ l) =
    within_append (replicate (length x.items) x.name) (all_owners l) (names_in (x ∷ l))
    ∙ and_i (all_replicate (λ n. has n (names_in (x ∷ l))) (length x.items) x.name (rw (eqb_same x.name)))
    (within_right (all_owners l) (x.name ∷ []) (names_in l) (owned_within l))

items_each : (l : List Queue) → all (sound_queue cabinet) l ≡ true → all (is_item cabinet) (all_items l) ≡ true
items_each [] h = refl
items_each (x ∷ l) h =
    all_append (is_item cabinet) x.items (all_items l)
    ∙ and_i (view_one cabinet x (and_l (sound_queue cabinet x) (all (sound_queue cabinet) l) h)).filled
    (items_each l (and_r (sound_queue cabinet x) (all (sound_queue cabinet) l) h))

-- a pointer is at most as many as there are items
pointers_each : (l : List Queue) → all (sound_queue cabinet) l ≡ true → items_in l ≤ 128 → all (λ p. ltb p 256) (pointers_in l) ≡ true
pointers_each [] h m = refl
pointers_each (x ∷ l) h m =
    let p = (view_one cabinet x (and_l (sound_queue cabinet x) (all (sound_queue cabinet) l) h)).pointed in
    and_i (lt-ltb x.pointer 256 (omega arith))
    (pointers_each l (and_r (sound_queue cabinet x) (all (sound_queue cabinet) l) h) (omega arith))

names_each : (l : List Queue) → all (sound_queue cabinet) l ≡ true → all (λ n. ltb n (2 ^ 64)) (names_in l) ≡ true
names_each l h =
    all_map_imp (λ (x : Queue). x.name) (sound_queue cabinet) (λ n. ltb n (2 ^ 64))
    (λ x g. and_l (ltb x.name (2 ^ 64)) (not (eqb x.name (blank 8))) (view_one cabinet x g).named) l h

-- ---- the struct stands for the list

module _ (l : List Queue) (h : sound_queues cabinet l ≡ true) where
  s : QueuesSound cabinet l
  s = view cabinet l h

  room : items_in l ≤ 128
  room = s.room

  few : length l ≤ 16
  few = s.few

  each : all (is_item cabinet) (all_items l) ≡ true
  each = items_each l s.each

  slots : First (items_in l) (first_slots (items_in l))
  slots = first_slots_lem (items_in l) room

  names_is : names_of (table_of l) ≡ names_in l
  unfolding table_of
  names_is =
      ap (λ (k : ℕ). take k (over (names_in l) (replicate 16 0))) (sym (length-map l (λ (x : Queue). x.name))) ∙ take_over (names_in l) (replicate 16 0)

  pointers_is : pointers_of (table_of l) ≡ pointers_in l
  unfolding table_of
  pointers_is =
      ap (λ (k : ℕ). take k (over (pointers_in l) (replicate 16 0))) (sym (length-map l (λ (x : Queue). x.pointer)))
      ∙ take_over (pointers_in l) (replicate 16 0)

  owners_is : owners (table_of l) ≡ all_owners l
  unfolding table_of
  owners_is =
      ap (λ (k : ℕ). take k (over (all_owners l) (replicate 128 0))) (slots.many ∙ sym (owned_long l)) ∙ take_over (all_owners l) (replicate 128 0)

  places_is : places (table_of l) ≡ up_from 0 (items_in l)
  unfolding table_of
  places_is =
      ap (λ (k : ℕ). take k (over (up_from 0 (items_in l)) (replicate 128 0))) (slots.many ∙ sym (up_length 0 (items_in l)))
      ∙ take_over (up_from 0 (items_in l)) (replicate 128 0)

  -- slot i holds item i
  len_at : (i : ℕ) → i < items_in l → get_or (table_of l).len i 0 ≡ length (get_or (all_items l) i [])
  unfolding table_of
  len_at i g =
      over_front (map length (all_items l)) (replicate 128 0) i 0 (omega (arith, length-map (all_items l) (λ (x : List ℕ). length x), items_long l))
      ∙ get_or-map (λ (x : List ℕ). length x) (all_items l) i []

  contents_at : (i : ℕ) → i < items_in l → contents (table_of l) (bytes_for l) i ≡ get_or (all_items l) i []
  unfolding bytes_for
  contents_at i g =
      ap (λ (m : ℕ). take m (drop (i * 64) (bytes_for l))) (len_at i g)
      ∙ laid_at (all_items l) (drop (length (laid_out (all_items l))) (replicate 8192 0)) i each (omega (arith, items_long l))

  items_is : (m : ℕ) → items_of (table_of l) (bytes_for l) m ≡ gathered m l
  unfolding items_of
  items_is m =
      let f : ℕ → List ℕ = contents (table_of l) (bytes_for l) in
      ap₂ (λ (x y : List ℕ). map f (slots_of m x y)) owners_is places_is
      ∙ map_slots f m (all_owners l) (up_from 0 (items_in l))
      ∙ ap (items_for m (all_owners l))
      (ap (λ (k : ℕ). map f (up_from 0 k)) (sym (items_long l))
      ∙ up_map f [] 0 (all_items l) (λ i g. ap f (zero-add i) ∙ contents_at i (omega (arith, items_long l))))
      ∙ for_all m l

  pub every_stands : queues_of (table_of l) (bytes_for l) ≡ l
  unfolding queues_of
  every_stands =
      ap₂ (queues_from (items_of (table_of l) (bytes_for l))) names_is pointers_is
      ∙ from_same (λ m. gathered m l) (items_of (table_of l) (bytes_for l)) (names_in l) (pointers_in l) (λ m _. items_is m)
      ∙ gathered_stands l s.unique

  -- ---- typed and sound

  abbrev long : (n : ℕ) (ks : List ℕ) → length ks ≤ n → length (over ks (replicate n 0)) ≡ n
  long n ks g =
      let z = length-replicate {A = ℕ} n 0 in
      length_over ks (replicate n 0) (omega arith) ∙ z

  pub every_typed : Typed (table_of l)
  unfolding table_of
  every_typed =
      let names = names_each l s.each in
      let w = owned_long l in
      record {
        names_long = long 16 (names_in l) (omega (arith, few, length-map l (λ (x : Queue). x.name)));
        pointers_long = long 16 (pointers_in l) (omega (arith, few, length-map l (λ (x : Queue). x.pointer)));
        owner_long = long 128 (all_owners l) (omega (arith, room));
        slot_long = long 128 (up_from 0 (items_in l)) (omega (arith, room, up_length 0 (items_in l)));
        len_long = long 128 (map length (all_items l)) (omega (arith, room, items_long l, length-map (all_items l) (λ (x : List ℕ). length x)));
        words = slots.typed;
        name_fits = over_below (2 ^ 64) (omega arith) (names_in l) (replicate 16 0) names (zeros_below (2 ^ 64) (omega arith) 16);
        pointer_fits =
            over_below 256 (omega arith) (pointers_in l) (replicate 16 0) (pointers_each l s.each room) (zeros_below 256 (omega arith) 16);
        owner_fits =
            over_below (2 ^ 64) (omega arith) (all_owners l) (replicate 128 0) (owned_all (λ n. ltb n (2 ^ 64)) l names)
            (zeros_below (2 ^ 64) (omega arith) 128);
        slot_fits =
            over_below 256 (omega arith) (up_from 0 (items_in l)) (replicate 128 0)
            (up_all (λ n. ltb n 256) 0 (items_in l) (λ j _ g. lt-ltb j 256 (omega (arith, room)))) (zeros_below 256 (omega arith) 128);
        len_fits =
            over_below 256 (omega arith) (map length (all_items l)) (replicate 128 0)
            (all_map_imp (λ (x : List ℕ). length x) (is_item cabinet) (λ n. ltb n 256)
            (λ x g. let i = is_item_lem x g in lt-ltb (length x) 256 (omega (arith, i.short))) (all_items l) each)
            (zeros_below 256 (omega arith) 128);
      }

  -- the items' lengths, by their places
  long_at : (xs : List (List ℕ)) (i : ℕ) → all (is_item cabinet) xs ≡ true → i < length xs → Item (get_or xs i [])
  long_at [] i a g = absurd (omega arith)
  long_at (x ∷ xs) zero a g = head_item x xs a
  long_at (x ∷ xs) (suc i) a g = long_at xs i (and_r (is_item cabinet x) (all (is_item cabinet) xs) a) (omega arith)

  count_few : (table_of l).count ≤ 16
  unfolding table_of
  count_few = few

  used_at_lem : (j : ℕ) → j < items_in l → used_at (table_of l).used j ≡ true
  unfolding table_of
  used_at_lem j g = used_bit (first_slots (items_in l)) slots.typed j ∙ eq-eqb (bit (number (first_slots (items_in l))) j) 1 (slots.in_use j g)

  laid : Laid (table_of l)
  laid = record {
    few = count_few;
    owned = rw (owners_is, names_is) (owned_within l);
    alone = rw places_is (up_once 0 (items_in l));
    taken =
        rw places_is
        (up_all (used_at (table_of l).used) 0 (items_in l) (λ j _ g. used_at_lem j (omega arith)));
    filled =
        rw places_is
        (up_all (length_in (table_of l)) 0 (items_in l)
        (λ j _ g.
        let b : j < items_in l = omega arith in
        let i = long_at (all_items l) j each (omega (arith, items_long l)) in
        let n : ℕ = length (get_or (all_items l) j []) in
        rw (len_at j b) (and_i (le-leb 1 n i.some) (le-leb n 64 i.short))));
  }

  pub every_sound : sound_q (table_of l) ≡ true
  every_sound = stands_sound (table_of l) (bytes_for l) every_typed (ap (sound_queues cabinet) every_stands ∙ h) laid

  pub every_long : length (bytes_for l) ≡ 8192
  unfolding bytes_for
  every_long = long 8192 (laid_out (all_items l)) (omega (arith, room, items_long l, laid_long (all_items l) each))

  pub every_bytes : is_bytes (bytes_for l) ≡ true
  unfolding bytes_for
  every_bytes =
      let k : ℕ = length (laid_out (all_items l)) in
      is_bytes_append (laid_out (all_items l)) (drop k (replicate 8192 0))
      ∙ and_i (laid_bytes (all_items l) each) (is_bytes_drop k (replicate 8192 0) (all_replicate is_byte 8192 0 refl))

-- all of it at once
pub record Every (l : List Queue) : Type 0 where
  pub stands : queues_in (store (table_of l) (bytes_for l)) ≡ l
  pub good : Good (store (table_of l) (bytes_for l))

pub every : (l : List Queue) → sound_queues cabinet l ≡ true → Every l
every l h = record {
  stands = every_stands l h;
  good = record { kept = record { typed = every_typed l h; long = every_long l h; bytes = every_bytes l h }; soundly = every_sound l h };
}
