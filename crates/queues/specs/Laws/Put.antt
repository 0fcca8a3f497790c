-- An item more, in a free slot, as the last entry: the struct is sound again and stands for the queues with the item at the end of its queue.
-- Assumes nothing.
use Rattle.std.specs.Prelude.{◌≡◌, refl, Bool, true, not, ◌&&◌, leb, ltb, length, drop, set}
use Rattle.std.proofs.Common.{sym, ◌∙◌, arith, take-suc-set}
use Rattle.std.proofs.Math.Path.{ap, ap₂}
use Rattle.std.proofs.Math.Bool.{false}
use mathlib.Core.List.{List, [], ◌∷◌, ◌++◌, map, append-nil}
use Prim.Native.Nat.{ℕ, suc, ◌*◌, ◌≤◌, ◌<◌}
use Rattle.std.proofs.Math.Numerals.{add-one}
use Rattle.std.proofs.Math.Dec.{eqb}
use Rattle.std.proofs.Math.ListN.{take, get_or}
use Rattle.std.proofs.Math.Seq.{paste, get_or-set_same, get_or-set_other}
use borrow.Author.Tests.{eqb-true, eqb-false, ne_eqb, le-leb, leb-true, lt-ltb, not-true}
use Rattle.base.specs.Choice.{pick}
use Rattle.base.specs.Lists.{all, has, copies}
use Rattle.base.specs.Laws.Tests.{and_l, and_r, and_i, eqb_same, eqb_sym, pick_same}
use Rattle.base.specs.Laws.Keep.{all_append, all_imp, all_none}
use Rattle.base.specs.Laws.Maps.{map-append, map_all_same}
use Rattle.base.specs.Laws.Counting.{once_snoc, within_append, copies_append}
use Rattle.slots.specs.Bits.{bit, number, used_at, marked}
use Rattle.slots.specs.Told.{Free}
use Rattle.slots.specs.Told as told
use Rattle.slots.proofs.Laws.Slots.{used_bit, marked_bit, marked_held, marked_typed}
use Rattle.slots.specs.declared.Used.{Used}
use Rattle.model.specs.Queues.{at_queue, longer}
use Rattle.queues.specs.declared.Queues.{Queues}
use Rattle.queues.specs.Table.{names_of, pointers_of, entries, owners, places, slots_in, slots_of, contents}
use Rattle.queues.specs.Model.{items_of, queues_of}
use Rattle.queues.specs.Sound.{pointed, length_in}
use Rattle.queues.specs.Append.{put, stored}
use Rattle.queues.specs.Laws.Typed.{Typed, entries_long}
use Rattle.queues.specs.Laws.From.{slots_snoc, slots_all, from_at}
use Rattle.queues.specs.Laws.Stands.{QueuesHold, all_both}
use Rattle.queues.specs.Laws.Paste.{paste_there, paste_other}

-- ---- the slot that was free

module _ (u : Used) (w : told.Typed u) where
  used_one : (s : ℕ) → used_at u s ≡ true → bit (number u) s ≡ 1
  used_one s h = eqb-true (bit (number u) s) 1 (sym (used_bit u w s) ∙ h)

  module _ (k : ℕ) where
    used_still : (s : ℕ) → used_at u s ≡ true → used_at (marked u k) s ≡ true
    used_still s h =
        used_bit (marked u k) (marked_typed u w k) s
        ∙ rw (marked_bit u w k s, used_one s h, pick_same {A = ℕ} (eqb s k && ltb k 128) 1)

    used_now : k < 128 → used_at (marked u k) k ≡ true
    used_now h =
        used_bit (marked u k) (marked_typed u w k) k ∙ rw (marked_bit u w k k, eqb_same k, lt-ltb k 128 h)

    -- a slot in use is not the free one
    used_other : bit (number u) k ≡ 0 → (s : ℕ) → used_at u s ≡ true → eqb s k ≡ false
    used_other z s h =
        ne_eqb s k (λ e. let o : bit (number u) k ≡ 1 = ap (bit (number u)) (sym e) ∙ used_one s h in omega arith)

-- ---- a pointer stays where it may be

pub pointed_more : (os : List ℕ) (o : ℕ) (ns ps : List ℕ) → pointed os ns ps ≡ true → pointed (os ++ (o ∷ [])) ns ps ≡ true
pointed_more os o [] ps h = refl
pointed_more os o (n ∷ ns) [] h = refl
pointed_more os o (n ∷ ns) (p ∷ ps) h =
    let here : Bool = leb p (copies n os) in
    and_i (le-leb p (copies n (os ++ (o ∷ []))) (omega (arith, copies_append n os (o ∷ []), leb-true p (copies n os) (and_l here (pointed os ns ps) h))))
    (pointed_more os o ns ps (and_r here (pointed os ns ps) h))

module _ (q : Queues) (t : Typed q) (n size k may : ℕ) (fr : Free may q.used k) where
  put_entries : entries (put q n size k) ≡ suc (entries q)
  unfolding put
  put_entries = marked_held q.used t.words k fr.below fr.clear ∙ add-one (entries q)

  -- a list with one entry more
  took : (l : List ℕ) (v : ℕ) → length l ≡ 128 → take (entries (put q n size k)) (set l (entries q) v) ≡ take (entries q) l ++ (v ∷ [])
  took l v e = rw put_entries (take-suc-set l (entries q) v (omega (arith, fr.room)))

  put_owners : owners (put q n size k) ≡ owners q ++ (n ∷ [])
  unfolding put
  put_owners = took q.owner n t.owner_long

  put_places : places (put q n size k) ≡ places q ++ (k ∷ [])
  unfolding put
  put_places = took q.slot k t.slot_long

  -- the length of a slot in use, and of the one that was free
  len_other : (s : ℕ) → eqb s k ≡ false → get_or (put q n size k).len s 0 ≡ get_or q.len s 0
  unfolding put
  len_other s e = get_or-set_other q.len k s size 0 (eqb-false s k e)

  len_here : get_or (put q n size k).len k 0 ≡ size
  unfolding put
  len_here = get_or-set_same q.len k size 0 (omega (arith, fr.below, t.len_long))

  module _ (s : QueuesHold q) where
    -- no entry lies there
    apart : all (λ (x : ℕ). not (eqb x k)) (places q) ≡ true
    apart =
        all_imp (used_at q.used) (λ (x : ℕ). not (eqb x k)) (λ x h. ap not (used_other q.used t.words k fr.clear x h)) (places q) s.laid.taken

    free_place : has k (places q) ≡ false
    free_place = not-true (has k (places q)) (sym (all_none (λ x. eqb x k) (places q)) ∙ apart)

    filled_still : all (length_in (put q n size k)) (places q) ≡ true
    filled_still =
        all_imp (λ (x : ℕ). used_at q.used x && length_in q x) (length_in (put q n size k))
        (λ x h.
        rw (len_other x (used_other q.used t.words k fr.clear x (and_l (used_at q.used x) (length_in q x) h)))
        (and_r (used_at q.used x) (length_in q x) h)) (places q)
        (all_both (used_at q.used) (length_in q) (places q) s.laid.taken s.laid.filled)

    pub put_holds : has n (names_of q) ≡ true → 1 ≤ size → size ≤ 64 → QueuesHold (put q n size k)
    unfolding put
    put_holds there low high = record {
      laid = record {
        few = s.laid.few;
        owned = rw (put_owners, within_append (owners q) (n ∷ []) (names_of q), s.laid.owned, there);
        alone = rw put_places (once_snoc k (places q) free_place s.laid.alone);
        taken =
            rw (put_places, all_append (used_at (marked q.used k)) (places q) (k ∷ []), used_now q.used t.words k fr.below)
            (and_i (all_imp (used_at q.used) (used_at (marked q.used k)) (used_still q.used t.words k) (places q) s.laid.taken) refl);
        filled =
            rw (put_places, all_append (length_in (put q n size k)) (places q) (k ∷ []), filled_still, len_here, le-leb 1 size low, le-leb size 64 high);
      };
      unique = s.unique;
      named = s.named;
      pointing = rw put_owners (pointed_more (owners q) n (names_of q) (pointers_of q) s.pointing);
    }

-- ---- what it stands for

module _ (q : Queues) (t : Typed q) (s : QueuesHold q) (n k may : ℕ) (fr : Free may q.used k) (b item : List ℕ) (long : length b ≡ 8192) (fits : length item ≤ 64) where
  abbrev q' : Queues
  q' = put q n (length item) k

  abbrev b' : List ℕ
  b' = stored b item k

  -- an entry's slot holds what it held
  contents_other : (x : ℕ) → (used_at q.used x && length_in q x) ≡ true → contents q' b' x ≡ contents q b x
  unfolding stored
  contents_other x h =
      let d : eqb x k ≡ false = used_other q.used t.words k fr.clear x (and_l (used_at q.used x) (length_in q x) h) in
      let size : ℕ = get_or q.len x 0 in
      let m : size ≤ 64 = leb-true size 64 (and_r (leb 1 size) (leb size 64) (and_r (used_at q.used x) (length_in q x) h)) in
      ap (λ (j : ℕ). take j (drop (x * 64) (paste b (k * 64) item (length item)))) (len_other q t n (length item) k may fr x d)
      ∙ paste_other b item k long fr.below fits x size (eqb-false x k d) m

  -- the slot that was free holds the item
  contents_new : contents q' b' k ≡ item
  unfolding stored
  contents_new =
      ap (λ (j : ℕ). take j (drop (k * 64) (paste b (k * 64) item (length item)))) (len_here q t n (length item) k may fr)
      ∙ paste_there b (k * 64) item (omega (arith, fr.below))

  last : (x : Bool) → map (contents q' b') (pick x (k ∷ []) []) ≡ pick x (item ∷ []) []
  last true = ap (λ (x : List ℕ). x ∷ []) contents_new
  last false = refl

  put_items : (m : ℕ) → items_of q' b' m ≡ items_of q b m ++ pick (eqb n m) (item ∷ []) []
  unfolding items_of
  put_items m =
      let old : List ℕ = slots_in q m in
      let kept : map (contents q' b') old ≡ map (contents q b) old =
      map_all_same (λ (x : ℕ). used_at q.used x && length_in q x) (contents q' b') (contents q b) contents_other old
      (slots_all (λ (x : ℕ). used_at q.used x && length_in q x) m (owners q) (places q)
      (all_both (used_at q.used) (length_in q) (places q) s.laid.taken s.laid.filled)) in
      ap₂ (λ (x y : List ℕ). map (contents q' b') (slots_of m x y)) (put_owners q t n (length item) k may fr) (put_places q t n (length item) k may fr)
      ∙ ap (map (contents q' b')) (slots_snoc m (owners q) (places q) n k (entries_long q t))
      ∙ map-append (contents q' b') old (pick (eqb n m) (k ∷ []) [])
      ∙ ap₂ (λ (x y : List (List ℕ)). x ++ y) kept (last (eqb n m))

  pub put_stands : queues_of (put q n (length item) k) (stored b item k) ≡ at_queue n (longer item) (queues_of q b)
  unfolding queues_of put
  put_stands =
      from_at (items_of q b) (items_of q' b') n (longer item) (names_of q) (pointers_of q)
      (λ m e.
      let f : eqb n m ≡ false = eqb_sym n m ∙ e in
      put_items m ∙ rw f (append-nil (items_of q b m)))
      (λ p. ap (λ (i : List (List ℕ)). record { name = n; pointer = p; items = i }) (put_items n ∙ rw (eqb_same n)))
