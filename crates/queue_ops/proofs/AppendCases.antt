-- The cases of an append, and what its stores leave. Assumes nothing.
use mathlib.Core.Path.{◌≡◌, sym, ap, ◌∙◌}
use mathlib.Core.Bool.{Bool, true, false, not, ◌&&◌, ◌||◌}
use mathlib.Core.List.{List}
use Prim.Native.Nat.{ℕ, ◌+◌, ◌*◌, ◌<◌, ◌≤◌, min}
use native.Mathlib.Omega.{arith}
use lib.Dec.{leb, ltb}
use lib.ListN.{length, get_or, set, length-take, length-set}
use borrow.Author.Tests.{eq-eqb, ne_eqb, lt-leb, not-true, not-false}
use Rattle.base.specs.Lists.{has, copies}
use Rattle.base.specs.Bytes.{blank, stored}
use Rattle.base.specs.Laws.Tests.{by_test}
use Rattle.slots.specs.Bits.{free_for, marked}
use Rattle.slots.specs.Told.{Typed, Free}
use Rattle.slots.specs.declared.Used.{Used}
use Rattle.std.specs.Prelude.{Option}
use Rattle.std.specs.Prelude.{Some, None}
use Rattle.model.specs.Plans.{no_space, wrong_length, invalid_request, fault, done}
use Rattle.queue_rows.specs.declared.Columns.{Columns}
use Rattle.queue_rows.specs.Table.{Queues, rows_in, slots_in, names_of, entries, owners, store}
use Rattle.queue_rows.specs.Append.{grown, with_queue, put, in_slot, append_to}
use Rattle.queue_rows.specs.Layout.{Laid, seen}
use Rattle.queue_rows.specs.Laws.Columns.{with_count, with_names, with_pointers, with_owner, with_slot, with_len, slot_lies, names_stored, pointers_stored, owner_stored, slot_stored, len_stored, count_stored, used_stored, laid_as}
use Rattle.queue_rows.specs.Laws.Free.{free_open}
use Rattle.queue_ops.proofs.Seeks.{copies_le}
use Rattle.queue_ops.specs.Entry.{Rowed, entered}

-- ---- the stores

module _ (l : Columns) (w : List ℕ) (h : Laid (length w) l) where
  pub enters : (u : Used) (e n k size : ℕ) → e < l.slots → k < l.slots
      → seen l (set (set (set (set (set w 1 u.lo) 2 u.hi) (l.owner + e) n) (l.slot + e) k) (l.len + k) size) ≡ entered (seen l w) u e n k size
  enters u e n k size be bk =
      let one : List ℕ = set (set w 1 u.lo) 2 u.hi in
      let two : List ℕ = set one (l.owner + e) n in
      let three : List ℕ = set two (l.slot + e) k in
      let h1 : Laid (length one) l = laid_as (simp length-set) h in
      let h2 : Laid (length two) l = laid_as (simp length-set) h in
      let h3 : Laid (length three) l = laid_as (simp length-set) h in
      len_stored l three h3 k size bk
      ∙ ap (λ (q : Queues). with_len (set q.len k size) q)
      (slot_stored l two h2 e k be
      ∙ ap (λ (q : Queues). with_slot (set q.slot e k) q)
      (owner_stored l one h1 e n be ∙ ap (λ (q : Queues). with_owner (set q.owner e n) q) (used_stored l w h u (omega arith))))

  pub grows : (count n : ℕ) → count ≡ get_or w 0 0 → count < l.rows
      → seen l (set (set (set w (l.names + count) n) (l.pointers + count) 0) 0 (count + 1)) ≡ grown (seen l w) n
  unfolding grown
  grows count n e b =
      let one : List ℕ = set w (l.names + count) n in
      let two : List ℕ = set one (l.pointers + count) 0 in
      let h1 : Laid (length one) l = laid_as (simp length-set) h in
      let h2 : Laid (length two) l = laid_as (simp length-set) h in
      count_stored l two h2 (count + 1) (simp length-set (omega arith))
      ∙ ap (with_count (count + 1))
      (pointers_stored l one h1 count 0 b ∙ ap (λ (q : Queues). with_pointers (set q.pointers count 0) q) (names_stored l w h count n b))
      ∙ ap (λ (k : ℕ). with_count (k + 1) (with_pointers (set (seen l w).pointers k 0) (with_names (set (seen l w).names k n) (seen l w)))) e

-- ---- a row for the name

module _ (q : Queues) (n : ℕ) where
  module _ (f : has n (names_of q) ≡ false) where
    pub row_made : (p : Queues) → q.count < rows_in q → p ≡ grown q n → Rowed q p n true
    row_made p b e = record { told = rw (f, lt-leb (rows_in q) q.count b); left = rw f e }

  -- the entries are as they were
  pub made_used : (with_queue q n).used ≡ q.used
  unfolding grown
  made_used = by_test (has n (names_of q)) (λ t. rw t) (λ f. rw f)

-- ---- the slot

-- what the stores ask
pub record Within (e k copies slots : ℕ) : Type 0 where
  pub entry : e < slots
  pub slot : k < slots
  pub below : k < 128
  pub few : copies ≤ 128

pub within : (l : Columns) (w : List ℕ) → Laid (length w) l → (may m n k : ℕ) → Typed (seen l w).used → Free m (seen l w).used k
    → free_for (min may l.slots) (seen l w).used ≡ Some k → Within (entries (seen l w)) k (copies n (owners (seen l w))) l.slots
within l w h may m n k t f is =
    let q = seen l w in
    let d = (slot_lies l w h).long in
    let o = free_open q t may k (ap (λ (x : ℕ). free_for (min may x) q.used) d ∙ is) in
    record {
      entry = omega (arith, o.room);
      slot = omega (arith, o.below);
      below = f.below;
      few = omega (arith, f.room, copies_le n (owners q), length-take (entries q) q.owner);
    }

module _ (q : Queues) (b : List ℕ) (n : ℕ) (item : List ℕ) (s : Option ℕ) where
  pub slot_none : s ≡ None → fault (store q b) no_space ≡ in_slot q b n item s
  slot_none e = rw e

  pub slot_taken : (k : ℕ) (v : Used) (p : Queues) (a : List ℕ) → s ≡ Some k → v ≡ marked q.used k
      → p ≡ entered q v (entries q) n k (length item) → a ≡ stored b (k * 64) item
      → done (store p a) (copies n (owners q) + 1) ≡ in_slot q b n item s
  unfolding put
  slot_taken k v p a es ev ep ea = rw (es, ep, ea, ev)

-- ---- the cases

module _ (q : Queues) (b : List ℕ) (may n : ℕ) (item : List ℕ) where
  pub append_blank : n ≡ blank 8 → fault (store q b) invalid_request ≡ append_to q b may n item
  unfolding append_to
  append_blank e = rw (eq-eqb n (blank 8) e)

  module _ (d : n ≡ blank 8 → ⊥) where
    pub append_length : (not (leb 1 (length item)) || ltb 64 (length item)) ≡ true → fault (store q b) wrong_length ≡ append_to q b may n item
    unfolding append_to
    append_length t = rw (ne_eqb n (blank 8) d, t)

    module _ (t : (not (leb 1 (length item)) || ltb 64 (length item)) ≡ false) (p : Queues) (r : Bool) (o : Rowed q p n r) where
      pub append_full : r ≡ false → fault (store p b) no_space ≡ append_to q b may n item
      unfolding append_to
      append_full f =
          let g : (not (has n (names_of q)) && leb (rows_in q) q.count) ≡ true = not-false _ (sym o.told ∙ f) in
          let same : p ≡ q = rw f at o.left in
          rw (ne_eqb n (blank 8) d, t, g, same)

      pub append_slot : r ≡ true → in_slot p b n item (free_for (min may (slots_in q)) p.used) ≡ append_to q b may n item
      unfolding append_to
      append_slot f =
          let g : (not (has n (names_of q)) && leb (rows_in q) q.count) ≡ false = not-true _ (sym o.told ∙ f) in
          let same : p ≡ with_queue q n = rw f at o.left in
          rw (ne_eqb n (blank 8) d, t, g, same, made_used q n)
