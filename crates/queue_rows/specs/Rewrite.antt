-- Rewrite, over the words and the lent bytes, for all of both.
use Rattle.std.specs.Prelude.{ℕ, ◌*◌, not, ◌||◌, List, eqb, leb, ltb, length, set}
use Rattle.base.specs.Choice.{pick}
use Rattle.base.specs.Lists.{has}
use Rattle.base.specs.Bytes.{blank, stored}
use Rattle.model.specs.Limits.{some}
use Rattle.model.specs.Plans.{unknown_queue, no_such_item, wrong_length, invalid_request, Outcome, fault, done}
use Rattle.queue_rows.specs.Table.{Queues, slots_in, names_of, Store, store}
use Rattle.queue_rows.specs.Place.{slot_in}

-- slot s holds so many bytes: nothing else changes, "Rewrite keeps the pointer."
unfoldable pub resized : Queues → ℕ → ℕ → Queues
resized q s size = record {
  count = q.count;
  used = q.used;
  names = q.names;
  pointers = q.pointers;
  owner = q.owner;
  slot = q.slot;
  len = set q.len s size;
  past = q.past;
}

-- the item in slot s
abbrev pub put_in : Queues → List ℕ → List ℕ → ℕ → Outcome Store
put_in q b item s = done (store (resized q s (length item)) (stored b (s * 64) item)) 0

-- "10 if blank, 4 length not 1..64, 2, 3"
unfoldable pub rewrite_in : Queues → List ℕ → ℕ → ℕ → List ℕ → Outcome Store
rewrite_in q b n p item =
    pick (eqb n (blank 8)) (fault (store q b) invalid_request)
    (pick (not (some item) || ltb 64 (length item)) (fault (store q b) wrong_length)
    (pick (not (has n (names_of q))) (fault (store q b) unknown_queue)
    (pick (leb (slots_in q) (slot_in q n p)) (fault (store q b) no_such_item)
    (put_in q b item (slot_in q n p)))))
