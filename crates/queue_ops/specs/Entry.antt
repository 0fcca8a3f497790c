-- What the steps of an append leave.
use Rattle.std.specs.Prelude.{ℕ, ◌≡◌, Bool, not, ◌&&◌, leb, set}
use Rattle.base.specs.Choice.{pick}
use Rattle.base.specs.Lists.{has}
use Rattle.slots.specs.declared.Used.{Used}
use Rattle.queue_rows.specs.Table.{Queues, rows_in, names_of}
use Rattle.queue_rows.specs.Append.{with_queue}

-- is there a row for the name, its own or a new one
abbrev pub room_for : Queues → ℕ → Bool
room_for q n = not (not (has n (names_of q)) && leb (rows_in q) q.count)

-- p is what is left: the queues in which the name has a row, where there is one
pub record Rowed (q p : Queues) (n : ℕ) (r : Bool) : Type 0 where
  pub told : r ≡ room_for q n
  pub left : p ≡ pick r (with_queue q n) q

-- an entry behind e others, in slot k, of so many bytes; and the occupancy
abbrev pub entered : Queues → Used → ℕ → ℕ → ℕ → ℕ → Queues
entered q u e n k size = record {
  count = q.count;
  used = u;
  names = q.names;
  pointers = q.pointers;
  owner = set q.owner e n;
  slot = set q.slot e k;
  len = set q.len k size;
  past = q.past;
}
