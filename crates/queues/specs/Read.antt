-- Read next and read at, over the struct, for every value of it. The item stays where it lies: a read says where that is, in the bytes that
-- the caller holds.
use Rattle.std.specs.Prelude.{ℕ, ◌+◌, ◌*◌, ◌≤◌, min, not, List, [], eqb, ltb, take, drop, get_or, set, Option, Some, None, Result, Ok, Err, IfOk}
use Rattle.base.specs.Choice.{pick}
use Rattle.base.specs.Lists.{has}
use Rattle.base.specs.Bytes.{blank}
use Rattle.model.specs.Plans.{normal, unknown_queue, no_such_item, wrong_length, invalid_request}
use Rattle.queues.specs.declared.Queues.{Queues}
use Rattle.queues.specs.declared.read.Part.{Part}
use Rattle.queues.specs.declared.read.ReadError.{ReadError}
use Rattle.queues.specs.declared.read.ReadError.TheVariants.{NoSuchItem, UnknownQueue, Invalid}
use Rattle.queues.specs.declared.read.Read.{Read}
use Rattle.queues.specs.Table.{names_of, pointers_of, row_of}
use Rattle.queues.specs.Place.{slot_in}

-- ---- document 01's condition, number and bytes of each outcome

-- "A reader whose room is shorter than the item gets the first room bytes and condition 4"
abbrev pub condition_of : Result Part ReadError → ℕ
condition_of (Ok p) = pick (ltb p.len p.full) wrong_length normal
condition_of (Err NoSuchItem) = no_such_item
condition_of (Err UnknownQueue) = unknown_queue
condition_of (Err Invalid) = invalid_request

-- "full length"; "On any condition but 0 the number is 0 and there are no bytes", but for condition 4 on a read
abbrev pub number_of : Result Part ReadError → ℕ
number_of (Ok p) = p.full
number_of (Err e) = 0

-- of the bytes that are lent
abbrev pub bytes_of : List ℕ → Result Part ReadError → List ℕ
bytes_of b (Ok p) = take p.len (drop p.at b)
bytes_of b (Err e) = []

-- a part lies within the 8,192 bytes: a caller may index with it
pub record Inside (p : Part) : Type 0 where
  pub fits : p.at + p.len ≤ 8192
  pub part : p.len ≤ p.full
  pub short : p.full ≤ 64

abbrev pub Lies : Result Part ReadError → Type 0
Lies o = IfOk o (λ p. Inside p)

-- ---- what is done

-- the bytes of slot s, as many as there is room for
abbrev pub part_in : Queues → ℕ → ℕ → Part
part_in q room s = record { at = s * 64; full = get_or q.len s 0; len = min (get_or q.len s 0) room }

-- the pointer of the queue set to a place
unfoldable pub point_to : Queues → ℕ → ℕ → Queues
point_to q n p = record {
  count = q.count;
  names = q.names;
  pointers = set q.pointers (row_of q n) p;
  used = q.used;
  owner = q.owner;
  slot = q.slot;
  len = q.len;
}

-- 0 where the name has no row
abbrev pub pointer_of : Queues → ℕ → ℕ
pointer_of q n = get_or (pointers_of q) (row_of q n) 0

abbrev pub answer : Queues → Result Part ReadError → Read
answer q o = record { queues = q; outcome = o }

-- the item in the slot, if there is one, is given and the pointer set to its place; "The pointer moves all the same."
abbrev pub at_slot : Queues → ℕ → ℕ → ℕ → Option ℕ → Read
at_slot q n p room None = answer q (Err NoSuchItem)
at_slot q n p room (Some s) = answer (point_to q n p) (Ok (part_in q room s))

-- "10 if blank, 2, 3, then 4"
unfoldable pub read_in : Queues → ℕ → ℕ → ℕ → Read
read_in q n p room =
    pick (eqb n (blank 8)) (answer q (Err Invalid))
    (pick (not (has n (names_of q))) (answer q (Err UnknownQueue))
    (at_slot q n p room (slot_in q n p)))

-- "Read next gives the item behind the pointer and moves the pointer there"
unfoldable pub read_next_in : Queues → ℕ → ℕ → Read
read_next_in q n room = read_in q n (pointer_of q n + 1) room
