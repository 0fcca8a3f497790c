-- Read next and read at, for all words and bytes. The item stays stored.
use Rattle.std.specs.Prelude.{ℕ, ◌+◌, not, List, eqb, leb, get_or, set}
use Rattle.base.specs.Choice.{pick}
use Rattle.base.specs.Lists.{has}
use Rattle.base.specs.Bytes.{blank}
use Rattle.model.specs.Plans.{unknown_queue, no_such_item, invalid_request, Outcome, fault, cut}
use Rattle.queue_rows.specs.Table.{Queues, slots_in, names_of, pointers_of, row_of, contents}
use Rattle.queue_rows.specs.Place.{slot_in}

-- the pointer of the queue set to a place
unfoldable pub point_to : Queues → ℕ → ℕ → Queues
point_to q n p = record {
  count = q.count;
  used = q.used;
  names = q.names;
  pointers = set q.pointers (row_of q n) p;
  owner = q.owner;
  slot = q.slot;
  len = q.len;
  past = q.past;
}

-- 0 where the name has no row
abbrev pub pointer_of : Queues → ℕ → ℕ
pointer_of q n = get_or (pointers_of q) (row_of q n) 0

-- "10 if blank, 2, 3, then 4": the item at a place is given and the pointer set to it; "The pointer moves all the same."
unfoldable pub read_in : Queues → List ℕ → ℕ → ℕ → ℕ → Outcome Queues
read_in q b n p room =
    pick (eqb n (blank 8)) (fault q invalid_request)
    (pick (not (has n (names_of q))) (fault q unknown_queue)
    (pick (leb (slots_in q) (slot_in q n p)) (fault q no_such_item)
    (cut (point_to q n p) room (contents q b (slot_in q n p)))))

-- "Read next gives the item behind the pointer and moves the pointer there"
unfoldable pub read_next_in : Queues → List ℕ → ℕ → ℕ → Outcome Queues
read_next_in q b n room = read_in q b n (pointer_of q n + 1) room
