-- A queue of a struct: the row of its name, the slot at a place, and the item there as the model has it. Assumes nothing.
use Rattle.std.specs.Prelude.{◌≡◌, refl, true, false, ◌&&◌, ◌||◌, List, [], ◌∷◌, map, ℕ, zero, suc, ◌-◌, ◌<◌, ◌≤◌, eqb, leb, ltb, length, get_or, Some, is_none}
use Rattle.std.proofs.Common.{sym, ◌∙◌, arith, length-take, lt-ltb}
use Rattle.std.proofs.Math.Path.{ap}
use Rattle.std.proofs.Math.ListN.{get_or-eq_default}
use Rattle.base.specs.Lists.{all, has, copies}
use Rattle.base.specs.Laws.Tests.{by_test, and_l, and_r, and_i}
use Rattle.base.specs.Laws.Keep.{first_at_none, first_at_lt, first_none, all_imp}
use Rattle.slots.specs.Bits.{used_at}
use Rattle.model.specs.Queues.{Queue, queue_of, no_items, no_place, item_at}
use Rattle.model.specs.Plans.{Check, Outcome, first_of, fault, obey}
use Rattle.queues.specs.declared.Queues.{Queues}
use Rattle.queues.specs.Table.{rows_in, names_of, pointers_of, entries, owners, places, row_of, slots_of, slots_in, contents}
use Rattle.queues.specs.Model.{items_of, queues_of}
use Rattle.queues.specs.Sound.{length_in}
use Rattle.queues.specs.Place.{has_item, slot_in}
use Rattle.queues.specs.Laws.Typed.{Typed, entries_long, names_count, rows_long}
use Rattle.queues.specs.Laws.From.{slots_count, slots_all}
use Rattle.queues.specs.Laws.Stands.{QueuesHold, all_both, known_of_lem, queue_of_lem, number_of_lem, used_below, contents_long}
use Rattle.queues.specs.Laws.Place.{At, at_found, at_none}

-- ---- a plan that is obeyed: a check holds, or none does

module _ {S : Type 0} (s : S) (l : List Check) (o : Outcome S) where
  pub faulty : (c : ℕ) → first_of l ≡ suc c → fault s (suc c) ≡ obey s (first_of l) o
  faulty c e = rw e

  pub clear : first_of l ≡ 0 → o ≡ obey s (first_of l) o
  clear e = rw e

-- ---- the row of a name

module _ (q : Queues) (t : Typed q) (n : ℕ) where
  pub row_known : row_of q n < rows_in q → has n (names_of q) ≡ true
  row_known h =
      by_test (has n (names_of q)) (λ e. e)
      (λ e. absurd (omega (arith, first_at_none (λ m. eqb m n) (names_of q) e, names_count q t)))

  pub row_unknown : rows_in q ≤ row_of q n → has n (names_of q) ≡ false
  row_unknown h =
      by_test (has n (names_of q)) (λ e. absurd (omega (arith, first_at_lt (λ m. eqb m n) (names_of q) e, names_count q t))) (λ e. e)

  pub known_row : has n (names_of q) ≡ true → row_of q n < rows_in q
  known_row e = omega (arith, first_at_lt (λ m. eqb m n) (names_of q) e, names_count q t)

-- a place that has a slot is at most as many as there are entries
pub place_few : (q : Queues) → length q.owner ≡ 128 → (n p k : ℕ) → slot_in q n p ≡ Some k → p ≤ 128
place_few q l n p k h =
    omega (arith, (at_found q.len (slots_in q n) p k h).to, slots_few n (owners q) (places q), length-take (entries q) q.owner)
  where
    slots_few : (n : ℕ) (os ss : List ℕ) → length (slots_of n os ss) ≤ length os
    slots_few n [] ss = omega arith
    slots_few n (o ∷ os) [] = omega arith
    slots_few n (o ∷ os) (s ∷ ss) =
        by_test (eqb o n) (λ e. rw e (omega (arith, slots_few n os ss))) (λ e. rw e (omega (arith, slots_few n os ss)))

-- ---- sound queues

module _ (q : Queues) (t : Typed q) (s : QueuesHold q) (b : List ℕ) (n : ℕ) where
  -- every slot of a queue has an item
  entry_has : (x : ℕ) → (used_at q.used x && length_in q x) ≡ true → has_item q.len x ≡ true
  entry_has x h =
      let m = get_or q.len x 0 in
      and_i (lt-ltb x 128 (used_below q x (and_l (used_at q.used x) (length_in q x) h)))
      (and_r (leb 1 m) (leb m 64) (and_r (used_at q.used x) (length_in q x) h))

  pub slots_have : all (has_item q.len) (slots_in q n) ≡ true
  slots_have =
      slots_all (has_item q.len) n (owners q) (places q)
      (all_imp (λ x. used_at q.used x && length_in q x) (has_item q.len) entry_has (places q)
      (all_both (used_at q.used) (length_in q) (places q) s.laid.taken s.laid.filled))

  pub slots_number : length (slots_in q n) ≡ copies n (owners q)
  slots_number = slots_count n (owners q) (places q) (entries_long q t)

  -- "NoneLeft!, OutOfBounds!"
  pub no_place_lem : (p : ℕ) → no_place (queue_of (queues_of q b) n) p ≡ is_none (slot_in q n p)
  no_place_lem p =
      ap (λ (k : ℕ). eqb p 0 || ltb k p) (number_of_lem q b t s n ∙ sym slots_number) ∙ sym (at_none q.len (slots_in q n) p slots_have)

  -- the pointer, of a name that has no row too
  pub pointer_of_lem : (queue_of (queues_of q b) n).pointer ≡ get_or (pointers_of q) (row_of q n) 0
  pointer_of_lem =
      by_test (has n (names_of q)) (λ h. ap (λ (x : Queue). x.pointer) (queue_of_lem q b t n h))
      (λ h.
      let none : queue_of (queues_of q b) n ≡ no_items n = first_none (λ (x : Queue). eqb x.name n) (no_items n) (queues_of q b) (known_of_lem q b t n ∙ h) in
      let past : length (pointers_of q) ≤ row_of q n = omega (arith, first_at_none (λ m. eqb m n) (names_of q) h, rows_long q t) in
      ap (λ (x : Queue). x.pointer) none ∙ sym (get_or-eq_default (pointers_of q) 0 past))

  -- the item at a place is what its slot holds
  item_in_lem : (i : ℕ) (ss : List ℕ) → i < length ss → get_or (map (contents q b) ss) i [] ≡ contents q b (get_or ss i 128)
  item_in_lem i [] h = absurd (omega arith)
  item_in_lem zero (x ∷ ss) h = refl
  item_in_lem (suc i) (x ∷ ss) h = item_in_lem i ss (omega arith)

  module _ (p k : ℕ) (known : has n (names_of q) ≡ true) (found : slot_in q n p ≡ Some k) where
    abbrev at : At q.len (slots_in q n) p k
    at = at_found q.len (slots_in q n) p k found

    pub item_at_lem : item_at (queue_of (queues_of q b) n) p ≡ contents q b k
    unfolding items_of
    item_at_lem =
        let a = at in
        ap (λ (x : Queue). item_at x p) (queue_of_lem q b t n known)
        ∙ item_in_lem (p - 1) (slots_in q n) (omega (arith, a.from, a.to))
        ∙ ap (contents q b) (sym a.is)

    pub item_long : length b ≡ 8192 → length (contents q b k) ≡ get_or q.len k 0
    item_long l = let a = at in contents_long q b t l k a.below a.short
