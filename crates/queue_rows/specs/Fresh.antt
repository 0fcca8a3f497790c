-- Queues, none made.
use Rattle.std.specs.Prelude.{length, replicate}
use Rattle.slots.specs.Bits.{none}
use Rattle.queue_rows.specs.Table.{Queues}

unfoldable pub fresh_of : Queues → Queues
fresh_of q = record {
  count = 0;
  used = none;
  names = replicate (length q.names) 0;
  pointers = replicate (length q.pointers) 0;
  owner = replicate (length q.owner) 0;
  slot = replicate (length q.slot) 0;
  len = replicate (length q.len) 0;
  past = replicate (length q.past) 0;
}
