-- The search for a queue's row by its name, and for an item by its place. Assumes nothing.
use Rattle.std.specs.Prelude.{ℕ, ◌-◌, ◌<◌, ◌≤◌, ◌≡◌, refl, true, false, Option, Some, None, List, [], ◌∷◌, eqb, ltb, length, take, min, get_or, slice_get, map, filter, zip, position}
use Rattle.std.specs.Option.{unwrap_or}
use Rattle.std.proofs.Common.{sym, ap, ◌∙◌, arith, eq-eqb, ne_eqb, le-ltb, lt-ltb, le-leb, ltb-true, ltb-false, length-take}
use Rattle.std.proofs.lemmas.Bool.{lt-leb}
use Rattle.std.proofs.lemmas.Option.{get_or_from_slice_get, unwrap_or-slice_get}
use Rattle.base.specs.Choice.{pick}
use Rattle.base.specs.Lists.{has, copies}
use Rattle.base.specs.Laws.Tests.{by_test}
use Rattle.base.specs.Laws.Keep.{first_at_any}
use Rattle.base.specs.Laws.Scans.{take_least}
use Rattle.base.specs.Laws.Library.{position_some, position_none}
use Rattle.words.specs.Rows.{column}
use Rattle.queue_rows.specs.declared.Columns.{Columns}
use Rattle.queue_rows.specs.Table.{Queues, slots_in, names_of, row_of, entries, owners, places, slots_of, slots_named}
use Rattle.queue_rows.specs.Place.{slot_at, slot_in}
use Rattle.queue_rows.specs.Layout.{Laid, seen}
use Rattle.queue_rows.specs.Laws.From.{slots_count}
use Rattle.queue_rows.specs.Laws.Columns.{owner_lies, slot_lies}
use Rattle.queue_ops.specs.Seen.{found_in}

-- ---- a row, by its name

-- rows of one word each are their names
pub one_word : (l : List ℕ) → column 0 l ≡ l
one_word [] = refl
one_word (x ∷ l) = ap (λ (r : List ℕ). x ∷ r) (one_word l)

-- the row is the name's, and one of those that are counted
pub record Named (q : Queues) (n row : ℕ) : Type 0 where
  pub known : has n (names_of q) ≡ true
  pub at : row ≡ row_of q n
  pub below : row < length (names_of q)

module _ (q : Queues) (n : ℕ) (o : Option ℕ) (e : o ≡ position (λ m. eqb m n) (names_of q)) where
  pub row_known : (row : ℕ) → o ≡ Some row → Named q n row
  row_known row f =
      let p = position_some (λ m. eqb m n) (names_of q) row (sym e ∙ f) in
      let below : row_of q n < length (names_of q) = omega (arith, p.0, p.1) in
      record { known = first_at_any (λ m. eqb m n) (names_of q) ∙ lt-ltb _ _ below; at = sym p.0; below = p.1 }

  pub row_unknown : o ≡ None → has n (names_of q) ≡ false
  row_unknown f =
      let p = position_none (λ m. eqb m n) (names_of q) (sym e ∙ f) in
      first_at_any (λ m. eqb m n) (names_of q) ∙ le-ltb _ _ (omega (arith, p))

-- ---- an item, by its place

-- the slots of a name, as the entries whose owner it is
pub slots_zip : (n : ℕ) (os ss : List ℕ) → map (λ (p : ℕ × ℕ). p.1) (filter (λ (p : ℕ × ℕ). eqb p.0 n) (zip os ss)) ≡ slots_of n os ss
slots_zip n [] ss = refl
slots_zip n (o ∷ os) [] = refl
slots_zip n (o ∷ os) (s ∷ ss) = by_test (eqb o n) (λ t. rw t (ap (λ (r : List ℕ). s ∷ r) (slots_zip n os ss))) (λ t. rw t (slots_zip n os ss))

module _ (len ss : List ℕ) (p k : ℕ) (long : length len ≡ k) where
  abbrev found : Option ℕ
  found = pick (ltb (slot_at len ss p) k) (Some (slot_at len ss p)) None

  none : slot_at len ss p ≡ length len → None ≡ found
  none e = rw (e, le-ltb (length len) k (omega arith))

  pub at_zero : p ≡ 0 → None ≡ found
  unfolding slot_at
  at_zero z = none (rw (eq-eqb p 0 z))

  module _ (d : p ≡ 0 → ⊥) where
    pub at_end : slice_get ss (p - 1) ≡ None → None ≡ found
    unfolding slot_at
    at_end e =
        let g : get_or ss (p - 1) (length len) ≡ length len =
        sym (unwrap_or-slice_get ss (p - 1) (length len)) ∙ ap (λ (o : Option ℕ). unwrap_or o (length len)) e in
        none (rw (ne_eqb p 0 d, g, le-ltb (length len) (length len) (omega arith)))

    module _ (s : ℕ) (e : slice_get ss (p - 1) ≡ Some s) where
      is : get_or ss (p - 1) (length len) ≡ s
      is = get_or_from_slice_get ss (p - 1) s (length len) e

      pub at_past : k ≤ s → None ≡ found
      unfolding slot_at
      at_past h = none (rw (ne_eqb p 0 d, is, le-ltb s (length len) (omega arith)))

      pub at_long : s < k → 64 < get_or len s 0 → None ≡ found
      unfolding slot_at
      at_long h l = none (rw (ne_eqb p 0 d, is, lt-ltb s (length len) (omega arith), lt-leb (get_or len s 0) 64 l))

      pub at_slot : s < k → get_or len s 0 ≤ 64 → Some s ≡ found
      unfolding slot_at
      at_slot h l =
          let f : slot_at len ss p ≡ s = rw (ne_eqb p 0 d, is, lt-ltb s (length len) (omega arith), le-leb (get_or len s 0) 64 l) in
          rw (f, lt-ltb s k h)

-- the slot is the one at the place, and one of those that there are
pub record Lying (q : Queues) (n p s : ℕ) : Type 0 where
  pub at : s ≡ slot_in q n p
  pub below : s < slots_in q

module _ (q : Queues) (n p : ℕ) (o : Option ℕ) (e : o ≡ found_in q n p) where
  pub slot_known : (s : ℕ) → o ≡ Some s → Lying q n p s
  slot_known s f =
      let g : found_in q n p ≡ Some s = sym e ∙ f in
      by_test (ltb (slot_in q n p) (slots_in q))
      (λ t.
      let h : Some (slot_in q n p) ≡ Some s = rw t at g in
      let i : s ≡ slot_in q n p = cc in
      record { at = i; below = omega (arith, ltb-true (slot_in q n p) (slots_in q) t) })
      (λ t. let h : None ≡ Some s = rw t at g in cc)

  pub slot_unknown : o ≡ None → slots_in q ≤ slot_in q n p
  slot_unknown f =
      let g : found_in q n p ≡ None = sym e ∙ f in
      by_test (ltb (slot_in q n p) (slots_in q))
      (λ t. let h : Some (slot_in q n p) ≡ None = rw t at g in cc)
      (ltb-false (slot_in q n p) (slots_in q))

-- ---- how many

pub copies_le : (n : ℕ) (l : List ℕ) → copies n l ≤ length l
copies_le n [] = omega arith
copies_le n (m ∷ l) = by_test (eqb m n) (λ e. rw e (omega (arith, copies_le n l))) (λ e. rw e (omega (arith, copies_le n l)))

-- the first `count` of a column, or all of it where it is shorter
pub take_at_most : (c : List ℕ) (k count m : ℕ) → length c ≡ k → m ≡ min count k → take m c ≡ take count c
take_at_most c k count m long e =
    let f : m ≡ min count (length c) = rw long e in
    ap (λ (j : ℕ). take j c) f ∙ take_least count c

-- a queue has no more items than there are slots
pub named_few : (l : Columns) (w : List ℕ) → Laid (length w) l → (n : ℕ) → length (slots_named (seen l w) n) ≤ l.slots
named_few l w h n =
    let q = seen l w in
    let a = length-take (entries q) q.owner in
    let b = length-take (entries q) q.slot in
    let c = (owner_lies l w h).long in
    let d = (slot_lies l w h).long in
    omega (arith, slots_count n (owners q) (places q) (omega arith), copies_le n (owners q))
