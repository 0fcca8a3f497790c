-- The slot of the item at a place of a queue, for every value of the struct.
use Rattle.std.specs.Prelude.{ℕ, ◌-◌, Bool, ◌&&◌, List, leb, ltb, eqb, get_or, slice_get, Option, Some, None}
use Rattle.base.specs.Choice.{pick}
use Rattle.queues.specs.declared.Queues.{Queues}
use Rattle.queues.specs.Table.{slots_in}

-- is there an item in the slot: only in unsound queues does an entry name another slot, or a slot a greater length
abbrev pub has_item : List ℕ → ℕ → Bool
has_item len s = ltb s 128 && leb (get_or len s 0) 64

-- the slot of an entry, where there is an item
abbrev pub with_item : List ℕ → Option ℕ → Option ℕ
with_item len None = None
with_item len (Some s) = pick (has_item len s) (Some s) None

-- the slot at a place, from 1, of a queue's slots
unfoldable pub slot_at : List ℕ → List ℕ → ℕ → Option ℕ
slot_at len ss p = pick (eqb p 0) None (with_item len (slice_get ss (p - 1)))

abbrev pub slot_in : Queues → ℕ → ℕ → Option ℕ
slot_in q n p = slot_at q.len (slots_in q n) p
