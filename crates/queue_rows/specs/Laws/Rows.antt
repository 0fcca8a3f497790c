-- A queue of the words: the row of its name, the slot at a place, and the item there as the model has it. Assumes nothing.
use Rattle.std.specs.Prelude.{◌≡◌, refl, true, ◌||◌, List, [], ◌∷◌, map, ℕ, zero, suc, ◌-◌, ◌<◌, ◌≤◌, eqb, leb, ltb, length, get_or}
use Rattle.std.proofs.Common.{sym, ◌∙◌, arith}
use Rattle.std.proofs.Math.Path.{ap}
use Rattle.std.proofs.Math.ListN.{get_or-eq_default}
use Rattle.base.specs.Lists.{all, has, copies}
use Rattle.base.specs.Laws.Tests.{by_test, both, and_i}
use Rattle.base.specs.Laws.Keep.{first_at_none, all_imp}
use Rattle.model.specs.Queues.{Queue, queue_of, no_place, item_at}
use Rattle.queue_rows.specs.Table.{Queues, slots_in, names_of, pointers_of, owners, places, row_of, slots_named, contents, store}
use Rattle.queue_rows.specs.Model.{items_of, queues_of}
use Rattle.queue_rows.specs.Sound.{length_in}
use Rattle.queue_rows.specs.Place.{has_item, slot_in}
use Rattle.queue_rows.specs.Laws.Typed.{Fits, entries_long, rows_long}
use Rattle.queue_rows.specs.Laws.From.{slots_count}
use Rattle.queue_rows.specs.Laws.Stands.{QueuesHold, item_in, slots_items, queue_of_lem, queue_unknown, number_of_lem}
use Rattle.queue_rows.specs.Laws.Place.{At, at_found, at_none}

module _ (q : Queues) (b : List ℕ) (f : Fits q b) (n : ℕ) where
  pub slots_number : length (slots_named q n) ≡ copies n (owners q)
  slots_number = slots_count n (owners q) (places q) (entries_long q f)

  -- what is known where a slot is found at a place
  pub at_place : (p : ℕ) → slot_in q n p < slots_in q → At q.len (slots_named q n) p
  at_place p h = at_found q.len (slots_named q n) p (rw f.len_long h)

  -- the item at a place is what its slot holds
  item_in_lem : (d i : ℕ) (ss : List ℕ) → i < length ss → get_or (map (contents q b) ss) i [] ≡ contents q b (get_or ss i d)
  item_in_lem d i [] h = absurd (omega arith)
  item_in_lem d zero (x ∷ ss) h = refl
  item_in_lem d (suc i) (x ∷ ss) h = item_in_lem d i ss (omega arith)

  pub item_at_lem : (p : ℕ) → has n (names_of q) ≡ true → slot_in q n p < slots_in q
      → item_at (queue_of (queues_of (store q b)) n) p ≡ contents q b (slot_in q n p)
  unfolding items_of
  item_at_lem p known below =
      let a = at_place p below in
      ap (λ (x : Queue). item_at x p) (queue_of_lem q b f n known)
      ∙ item_in_lem (length q.len) (p - 1) (slots_named q n) (omega (arith, a.from, a.to))
      ∙ ap (contents q b) (sym a.is)

  module _ (s : QueuesHold q) where
    -- every slot of a queue has an item
    pub slots_have : all (has_item q.len) (slots_named q n) ≡ true
    slots_have =
        all_imp (item_in q) (has_item q.len)
        (λ x h.
        let size = get_or q.len x 0 in
        let at = both (ltb x (slots_in q)) (length_in q x) h in
        rw f.len_long (and_i at.0 (both (leb 1 size) (leb size 64) at.1).1)) (slots_named q n) (slots_items q s.laid n)

    -- "NoneLeft!, OutOfBounds!"
    pub no_place_lem : (p : ℕ) → no_place (queue_of (queues_of (store q b)) n) p ≡ leb (slots_in q) (slot_in q n p)
    no_place_lem p =
        ap (λ (k : ℕ). eqb p 0 || ltb k p) (number_of_lem q b f s n ∙ sym slots_number)
        ∙ sym (at_none q.len (slots_named q n) p slots_have) ∙ ap (λ (k : ℕ). leb k (slot_in q n p)) f.len_long

    -- the pointer, of a name that has no row too
    pub pointer_of_lem : (queue_of (queues_of (store q b)) n).pointer ≡ get_or (pointers_of q) (row_of q n) 0
    pointer_of_lem =
        by_test (has n (names_of q)) (λ h. ap (λ (x : Queue). x.pointer) (queue_of_lem q b f n h))
        (λ h.
        let past : length (pointers_of q) ≤ row_of q n = omega (arith, first_at_none (λ m. eqb m n) (names_of q) h, rows_long q f) in
        ap (λ (x : Queue). x.pointer) (queue_unknown q b f n h) ∙ sym (get_or-eq_default (pointers_of q) 0 past))
