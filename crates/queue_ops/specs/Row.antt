-- What is left where a row goes.
use Rattle.std.specs.Prelude.{ℕ, ◌-◌, length}
use Rattle.base.specs.Lists.{over}
use Rattle.queue_rows.specs.Table.{Queues, names_of, pointers_of}
use Rattle.queue_rows.specs.Delete.{less}

abbrev pub less_row : Queues → ℕ → Queues
less_row q row = record {
  count = length (names_of q) - 1;
  used = q.used;
  names = over (less row (names_of q)) q.names;
  pointers = over (less row (pointers_of q)) q.pointers;
  owner = q.owner;
  slot = q.slot;
  len = q.len;
  past = q.past;
}
