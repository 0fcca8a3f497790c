-- An item more, in a free slot, as the last entry: the words are sound again and stand for the queues with the item at the end of its queue.
-- Assumes nothing.
use Rattle.std.specs.Prelude.{◌≡◌, Bool, true, not, ◌&&◌, leb, length, take, drop, get_or, set}
use Rattle.std.proofs.Math.Path.{refl, ap, ap₂}
use Rattle.std.proofs.Common.{sym, ◌∙◌, arith, take-suc-set}
use Rattle.std.proofs.Math.Bool.{false}
use mathlib.Core.List.{List, [], ◌∷◌, ◌++◌, map, append-nil}
use Prim.Native.Nat.{ℕ, suc, ◌*◌, ◌≤◌, ◌<◌}
use Rattle.std.proofs.Math.Numerals.{add-one}
use Rattle.std.proofs.Math.Dec.{eqb, ltb}
use Rattle.std.proofs.Math.ListN.{length-set}
use Rattle.std.proofs.Math.Seq.{get_or-set_same, get_or-set_other}
use borrow.Author.Tests.{eqb-false, le-leb, leb-true, lt-ltb, not-true}
use Rattle.base.specs.Choice.{pick}
use Rattle.base.specs.Lists.{all, has, copies}
use Rattle.base.specs.Bytes.{stored}
use Rattle.base.specs.Laws.Tests.{both, and_i, eqb_same, eqb_sym}
use Rattle.base.specs.Laws.Keep.{all_append, all_imp, all_none}
use Rattle.base.specs.Laws.Maps.{map-append, map_all_same}
use Rattle.base.specs.Laws.Counting.{once_snoc, within_append, copies_append}
use Rattle.slots.specs.Bits.{used_at, marked}
use Rattle.slots.proofs.Laws.Slots.{marked_held}
use Rattle.model.specs.Queues.{at_queue, longer}
use Rattle.queue_rows.specs.Table.{Queues, slots_in, names_of, pointers_of, entries, owners, places, slots_named, slots_of, contents, store}
use Rattle.queue_rows.specs.Model.{items_of, queues_of}
use Rattle.queue_rows.specs.Sound.{pointed, length_in}
use Rattle.queue_rows.specs.Append.{put}
use Rattle.queue_rows.specs.Laws.Lists.{all_both}
use Rattle.queue_rows.specs.Laws.Typed.{Fits, entries_long}
use Rattle.queue_rows.specs.Laws.From.{slots_snoc, slots_all, from_at}
use Rattle.queue_rows.specs.Laws.Stands.{QueuesHold}
use Rattle.queue_rows.specs.Laws.Paste.{stored_here, stored_other}
use Rattle.queue_rows.specs.Laws.Free.{used_still, used_now, used_other, Open}

-- ---- a pointer stays where it may be

pointed_more : (os : List ℕ) (o : ℕ) (ns ps : List ℕ) → pointed os ns ps ≡ true → pointed (os ++ (o ∷ [])) ns ps ≡ true
pointed_more os o [] ps h = h
pointed_more os o (n ∷ ns) [] h = h
pointed_more os o (n ∷ ns) (p ∷ ps) h =
    let a = both (leb p (copies n os)) (pointed os ns ps) h in
    and_i (le-leb p (copies n (os ++ (o ∷ []))) (omega (arith, copies_append n os (o ∷ []), leb-true p (copies n os) a.0)))
    (pointed_more os o ns ps a.1)

-- an entry's slot is in use, and holds an item
abbrev held_in : Queues → ℕ → Bool
held_in q x = used_at q.used x && length_in q x

module _ (q : Queues) {b : List ℕ} (f : Fits q b) (n size k : ℕ) (fr : Open q k) where
  slot : k < 128
  slot = omega (arith, fr.below, f.slots_few)

  put_entries : entries (put q n size k) ≡ suc (entries q)
  unfolding put
  put_entries = marked_held q.used f.words k slot fr.clear ∙ add-one (entries q)

  -- a list with one entry more
  took : (l : List ℕ) (v : ℕ) → length l ≡ slots_in q → take (entries (put q n size k)) (set l (entries q) v) ≡ take (entries q) l ++ (v ∷ [])
  took l v e = rw put_entries (take-suc-set l (entries q) v (omega (arith, fr.room)))

  put_owners : owners (put q n size k) ≡ owners q ++ (n ∷ [])
  unfolding put
  put_owners = took q.owner n f.owner_long

  put_places : places (put q n size k) ≡ places q ++ (k ∷ [])
  unfolding put
  put_places = took q.slot k refl

  -- the length of a slot in use, and of the one that was free
  len_other : (s : ℕ) → eqb s k ≡ false → get_or (put q n size k).len s 0 ≡ get_or q.len s 0
  unfolding put
  len_other s e = get_or-set_other q.len k s size 0 (eqb-false s k e)

  len_here : get_or (put q n size k).len k 0 ≡ size
  unfolding put
  len_here = get_or-set_same q.len k size 0 (omega (arith, fr.below, f.len_long))

  -- a slot in use is not the one that was free
  held_other : (x : ℕ) → held_in q x ≡ true → eqb x k ≡ false
  held_other x h = used_other q.used f.words k fr.clear x (both (used_at q.used x) (length_in q x) h).0

  module _ (s : QueuesHold q) where
    places_held : all (held_in q) (places q) ≡ true
    places_held = all_both (used_at q.used) (length_in q) (places q) s.laid.taken s.laid.filled

    -- no entry lies there
    free_place : has k (places q) ≡ false
    free_place =
        not-true (has k (places q))
        (sym (all_none (λ x. eqb x k) (places q)) ∙ all_imp (held_in q) (λ x. not (eqb x k)) (λ x h. ap not (held_other x h)) (places q) places_held)

    filled_still : all (length_in (put q n size k)) (places q) ≡ true
    filled_still =
        all_imp (held_in q) (length_in (put q n size k))
        (λ x h. rw (len_other x (held_other x h)) (both (used_at q.used x) (length_in q x) h).1) (places q) places_held

    pub put_holds : has n (names_of q) ≡ true → 1 ≤ size → size ≤ 64 → QueuesHold (put q n size k)
    unfolding put
    put_holds there low high = record {
      laid = record {
        few = s.laid.few;
        room = rw (put_entries, length-set) fr.room;
        owned = rw (put_owners, within_append (owners q) (n ∷ []) (names_of q), s.laid.owned, there);
        alone = rw put_places (once_snoc k (places q) free_place s.laid.alone);
        taken =
            rw (put_places, all_append (used_at (marked q.used k)) (places q) (k ∷ []), used_now q.used f.words k slot)
            (and_i (all_imp (used_at q.used) (used_at (marked q.used k)) (used_still q.used f.words k) (places q) s.laid.taken) refl);
        inside =
            rw (put_places, length-set, all_append (λ x. ltb x (slots_in q)) (places q) (k ∷ []), s.laid.inside, lt-ltb k (slots_in q) fr.below);
        filled =
            rw (put_places, all_append (length_in (put q n size k)) (places q) (k ∷ []), filled_still, len_here, le-leb 1 size low, le-leb size 64 high);
      };
      unique = s.unique;
      named = s.named;
      pointing = rw put_owners (pointed_more (owners q) n (names_of q) (pointers_of q) s.pointing);
    }

-- ---- what it stands for

module _ (q : Queues) (b : List ℕ) (f : Fits q b) (s : QueuesHold q) (n k : ℕ) (fr : Open q k) (item : List ℕ) (fits : length item ≤ 64) where
  abbrev q' : Queues
  q' = put q n (length item) k

  abbrev b' : List ℕ
  b' = stored b (k * 64) item

  -- an entry's slot holds what it held
  contents_other : (x : ℕ) → held_in q x ≡ true → contents q' b' x ≡ contents q b x
  contents_other x h =
      let d = held_other q f n (length item) k fr x h in
      let size : ℕ = get_or q.len x 0 in
      let m : size ≤ 64 = leb-true size 64 (both (leb 1 size) (leb size 64) (both (used_at q.used x) (length_in q x) h).1).1 in
      ap (λ (j : ℕ). take j (drop (x * 64) b')) (len_other q f n (length item) k fr x d)
      ∙ stored_other b item k (slots_in q) f.bytes_long fr.below fits x size (eqb-false x k d) m

  -- the slot that was free holds the item
  contents_new : contents q' b' k ≡ item
  contents_new =
      ap (λ (j : ℕ). take j (drop (k * 64) b')) (len_here q f n (length item) k fr)
      ∙ stored_here b item k (slots_in q) f.bytes_long fr.below fits

  last : (x : Bool) → map (contents q' b') (pick x (k ∷ []) []) ≡ pick x (item ∷ []) []
  last true = ap (λ (x : List ℕ). x ∷ []) contents_new
  last false = refl

  put_items : (m : ℕ) → items_of q' b' m ≡ items_of q b m ++ pick (eqb n m) (item ∷ []) []
  unfolding items_of
  put_items m =
      let old : List ℕ = slots_named q m in
      let kept : map (contents q' b') old ≡ map (contents q b) old =
      map_all_same (held_in q) (contents q' b') (contents q b) contents_other old
      (slots_all (held_in q) m (owners q) (places q) (places_held q f n (length item) k fr s)) in
      ap₂ (λ (x y : List ℕ). map (contents q' b') (slots_of m x y)) (put_owners q f n (length item) k fr) (put_places q f n (length item) k fr)
      ∙ ap (map (contents q' b')) (slots_snoc m (owners q) (places q) n k (entries_long q f))
      ∙ map-append (contents q' b') old (pick (eqb n m) (k ∷ []) [])
      ∙ ap₂ (λ (x y : List (List ℕ)). x ++ y) kept (last (eqb n m))

  pub put_stands : queues_of (store (put q n (length item) k) (stored b (k * 64) item)) ≡ at_queue n (longer item) (queues_of (store q b))
  unfolding queues_of put
  put_stands =
      from_at (items_of q b) (items_of q' b') n (longer item) (names_of q) (pointers_of q)
      (λ m e.
      let f : eqb n m ≡ false = eqb_sym n m ∙ e in
      put_items m ∙ rw f (append-nil (items_of q b m)))
      (λ p. ap (λ (i : List (List ℕ)). record { name = n; pointer = p; items = i }) (put_items n ∙ rw (eqb_same n)))
