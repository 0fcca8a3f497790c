-- The item at a place of a queue, by the number of its slot: the specs have an Option now, and nothing cites these. Assumes nothing.
use Rattle.std.specs.Prelude.{◌≡◌, List, ℕ, ◌<◌, ◌≤◌, leb, length, get_or, ltb, eqb, ◌||◌}
use Rattle.std.proofs.Common.{sym, ap, ◌∙◌}
use Rattle.std.proofs.Math.Bool.{true}
use Rattle.base.specs.Lists.{has}
use Rattle.model.specs.Queues.{queue_of, no_place, item_at}
use Rattle.queues.specs.declared.Queues.{Queues}
use Rattle.queues.specs.Table.{names_of, slots_in, contents}
use Rattle.queues.specs.Model.{queues_of}
use Rattle.queues.specs.Laws.Typed.{Typed}
use Rattle.queues.specs.Laws.Stands.{QueuesHold, number_of_lem}
use Rattle.queues.specs.Laws.Rows as now
use Rattle.queues.proofs.Counted.Place.{slot_in, At, at_found, at_none, option_some}

-- a place that has a slot is at most as many as there are entries
pub place_few : (q : Queues) → Typed q → (n p : ℕ) → slot_in q n p < 128 → p ≤ 128
place_few q t n p h = now.place_few q t.owner_long n p (slot_in q n p) (option_some q.len (slots_in q n) p h)

module _ (q : Queues) (t : Typed q) (s : QueuesHold q) (b : List ℕ) (n : ℕ) where
  -- "NoneLeft!, OutOfBounds!"
  pub no_place_lem : (p : ℕ) → no_place (queue_of (queues_of q b) n) p ≡ leb 128 (slot_in q n p)
  no_place_lem p =
      ap (λ (k : ℕ). eqb p 0 || ltb k p) (number_of_lem q b t s n ∙ sym (now.slots_number q t s b n))
      ∙ sym (at_none q.len (slots_in q n) p (now.slots_have q t s b n))

  module _ (p : ℕ) (known : has n (names_of q) ≡ true) (below : slot_in q n p < 128) where
    abbrev at : At q.len (slots_in q n) p
    at = at_found q.len (slots_in q n) p below

    pub item_at_lem : item_at (queue_of (queues_of q b) n) p ≡ contents q b (slot_in q n p)
    item_at_lem = now.item_at_lem q t s b n p (slot_in q n p) known (option_some q.len (slots_in q n) p below)

    pub item_long : length b ≡ 8192 → length (contents q b (slot_in q n p)) ≡ get_or q.len (slot_in q n p) 0
    item_long = now.item_long q t s b n p (slot_in q n p) known (option_some q.len (slots_in q n) p below)
