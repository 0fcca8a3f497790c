-- Append, over the words and the lent bytes, for all of both.
use Rattle.std.specs.Prelude.{ℕ, ◌+◌, ◌*◌, min, not, ◌&&◌, ◌||◌, List, eqb, leb, ltb, length, set}
use Rattle.base.specs.Choice.{pick}
use Rattle.base.specs.Lists.{has, copies}
use Rattle.base.specs.Bytes.{blank, stored}
use Rattle.slots.specs.Bits.{free_for, marked}
use Rattle.std.specs.Prelude.{Option}
use Rattle.std.specs.Prelude.{Some, None}
use Rattle.model.specs.Limits.{some}
use Rattle.model.specs.Plans.{no_space, wrong_length, invalid_request, Outcome, fault, done}
use Rattle.queue_rows.specs.Table.{Queues, rows_in, slots_in, names_of, entries, owners, Store, store}

-- one row more, an empty queue's, behind the others
unfoldable pub grown : Queues → ℕ → Queues
grown q n = record {
  count = q.count + 1;
  used = q.used;
  names = set q.names q.count n;
  pointers = set q.pointers q.count 0;
  owner = q.owner;
  slot = q.slot;
  len = q.len;
  past = q.past;
}

-- "makes an unknown queue"
abbrev pub with_queue : Queues → ℕ → Queues
with_queue q n = pick (has n (names_of q)) q (grown q n)

-- an item of so many bytes in slot k, as the last entry
unfoldable pub put : Queues → ℕ → ℕ → ℕ → Queues
put q n size k = record {
  count = q.count;
  used = marked q.used k;
  names = q.names;
  pointers = q.pointers;
  owner = set q.owner (entries q) n;
  slot = set q.slot (entries q) k;
  len = set q.len k size;
  past = q.past;
}

-- an item of a queue that has a row goes into the slot that is free
abbrev pub in_slot : Queues → List ℕ → ℕ → List ℕ → Option ℕ → Outcome Store
in_slot q b n item None = fault (store q b) no_space
in_slot q b n item (Some k) = done (store (put q n (length item) k) (stored b (k * 64) item)) (copies n (owners q) + 1)

-- "10 if blank, 4 length not 1..64, 1": the name is unknown and there are as many queues as there can be, or the slots that the asker may fill are in use
unfoldable pub append_to : Queues → List ℕ → ℕ → ℕ → List ℕ → Outcome Store
append_to q b may n item =
    pick (eqb n (blank 8)) (fault (store q b) invalid_request)
    (pick (not (some item) || ltb 64 (length item)) (fault (store q b) wrong_length)
    (pick (not (has n (names_of q)) && leb (rows_in q) q.count) (fault (store q b) no_space)
    (in_slot (with_queue q n) b n item (free_for (min may (slots_in q)) q.used))))
