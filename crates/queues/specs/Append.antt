-- Append, over the struct and the lent bytes, for every value of both.
use Rattle.std.specs.Prelude.{ℕ, ◌+◌, ◌*◌, not, ◌&&◌, ◌||◌, List, eqb, leb, ltb, length, set, Option, Some, None, Result, Ok, Err}
use Rattle.std.proofs.Math.Seq.{paste}
use Rattle.base.specs.Choice.{pick}
use Rattle.base.specs.Lists.{has, copies}
use Rattle.base.specs.Bytes.{blank}
use Rattle.slots.specs.Bits.{free_for, marked}
use Rattle.model.specs.Limits.{some}
use Rattle.model.specs.Plans.{normal, no_space, wrong_length, invalid_request}
use Rattle.queues.specs.declared.Queues.{Queues}
use Rattle.queues.specs.declared.append.Appended.{Appended}
use Rattle.queues.specs.declared.append.AppendError.{AppendError}
use Rattle.queues.specs.declared.append.AppendError.TheVariants.{NoSpace, WrongLength, Invalid}
use Rattle.queues.specs.Table.{names_of, entries, owners, row_of}

-- ---- document 01's condition and number of each outcome

abbrev pub condition_of : Result ℕ AppendError → ℕ
condition_of (Ok place) = normal
condition_of (Err NoSpace) = no_space
condition_of (Err WrongLength) = wrong_length
condition_of (Err Invalid) = invalid_request

-- "new item's place"; "On any condition but 0 the number is 0"
abbrev pub number_of : Result ℕ AppendError → ℕ
number_of (Ok place) = place
number_of (Err e) = 0

-- ---- what is done

-- one row more, an empty queue's, behind the others
unfoldable pub grown : Queues → ℕ → Queues
grown q n = record {
  count = q.count + 1;
  names = set q.names q.count n;
  pointers = set q.pointers q.count 0;
  used = q.used;
  owner = q.owner;
  slot = q.slot;
  len = q.len;
}

-- "makes an unknown queue"
abbrev pub with_queue : Queues → ℕ → Queues
with_queue q n = pick (has n (names_of q)) q (grown q n)

-- an item of so many bytes in slot k, as the last entry
unfoldable pub put : Queues → ℕ → ℕ → ℕ → Queues
put q n size k = record {
  count = q.count;
  names = q.names;
  pointers = q.pointers;
  used = marked q.used k;
  owner = set q.owner (entries q) n;
  slot = set q.slot (entries q) k;
  len = set q.len k size;
}

-- its bytes in slot k
unfoldable pub stored : List ℕ → List ℕ → ℕ → List ℕ
stored b item k = paste b (k * 64) item (length item)

-- what append gives, and the bytes that it was lent as it leaves them
pub record Lent : Type 0 where
  pub appended : Appended
  pub items : List ℕ

abbrev pub lent : Appended → List ℕ → Lent
lent r b = record { appended = r; items = b }

abbrev pub answer : Queues → List ℕ → Result ℕ AppendError → Lent
answer q b o = lent (record { queues = q; outcome = o }) b

-- an item of a queue that has a row goes into the slot that is free
abbrev pub in_slot : Queues → List ℕ → ℕ → List ℕ → Option ℕ → Lent
in_slot q b n item None = answer q b (Err NoSpace)
in_slot q b n item (Some k) = answer (put q n (length item) k) (stored b item k) (Ok (copies n (owners q) + 1))

-- "10 if blank, 4 length not 1..64, 1": the name is unknown and 16 queues exist, or the slots that the asker may fill are in use
unfoldable pub append_to : Queues → List ℕ → ℕ → ℕ → List ℕ → Lent
append_to q b may n item =
    pick (eqb n (blank 8)) (answer q b (Err Invalid))
    (pick (not (some item) || ltb 64 (length item)) (answer q b (Err WrongLength))
    (pick (not (has n (names_of q)) && leb 16 q.count) (answer q b (Err NoSpace))
    (in_slot (with_queue q n) b n item (free_for may q.used))))

-- ---- of the helpers

-- the checks of the name and the length, and the row that the name has or is to have
unfoldable pub checked : Queues → ℕ → ℕ → Result ℕ AppendError
checked q n size =
    pick (eqb n (blank 8)) (Err Invalid)
    (pick (not (leb 1 size && leb size 64)) (Err WrongLength)
    (pick (has n (names_of q)) (Ok (row_of q n))
    (pick (ltb q.count 16) (Ok q.count) (Err NoSpace))))
