-- What is seen in the words of a table, and what stays.
use Rattle.std.specs.Prelude.{ℕ, ◌≡◌, ltb, Option, Some, None}
use Rattle.base.specs.Choice.{pick}
use Rattle.queue_rows.specs.Table.{Queues, slots_in}
use Rattle.queue_rows.specs.Place.{slot_in}
use Rattle.queue_rows.specs.Layout.{seen}
use Rattle.queue_ops.specs.declared.table.Table.{Table}

abbrev pub queues_in : Table → Queues
queues_in t = seen t.at t.words.now

-- the same words, laid out alike
pub record Same (t u : Table) : Type 0 where
  pub words : u.words.ghost_name ≡ t.words.ghost_name
  pub at : u.at ≡ t.at

-- the slot of the item at a place, where there is one
abbrev pub found_in : Queues → ℕ → ℕ → Option ℕ
found_in q n p = pick (ltb (slot_in q n p) (slots_in q)) (Some (slot_in q n p)) None
