-- Rewrite, over the struct and the lent bytes, for every value of both.
use Rattle.std.specs.Prelude.{ℕ, ◌*◌, not, ◌||◌, List, eqb, ltb, length, set, Option, Some, None, Result, Ok, Err}
use Rattle.std.proofs.Math.Seq.{paste}
use Rattle.base.specs.Choice.{pick}
use Rattle.base.specs.Lists.{has}
use Rattle.base.specs.Bytes.{blank}
use Rattle.model.specs.Limits.{some}
use Rattle.model.specs.Plans.{normal, unknown_queue, no_such_item, wrong_length, invalid_request}
use Rattle.queues.specs.declared.Queues.{Queues}
use Rattle.queues.specs.declared.rewrite.RewriteError.{RewriteError}
use Rattle.queues.specs.declared.rewrite.RewriteError.TheVariants.{WrongLength, UnknownQueue, NoSuchItem, Invalid}
use Rattle.queues.specs.declared.rewrite.Rewritten.{Rewritten}
use Rattle.queues.specs.Table.{names_of}
use Rattle.queues.specs.Place.{slot_in}

-- document 01's condition of each outcome; the number is 0, and there are no bytes
abbrev pub condition_of : Result (Unit {0}) RewriteError → ℕ
condition_of (Ok done) = normal
condition_of (Err WrongLength) = wrong_length
condition_of (Err UnknownQueue) = unknown_queue
condition_of (Err NoSuchItem) = no_such_item
condition_of (Err Invalid) = invalid_request

-- slot s holds so many bytes: nothing else changes, "Rewrite keeps the pointer."
unfoldable pub resized : Queues → ℕ → ℕ → Queues
resized q s size = record {
  count = q.count;
  names = q.names;
  pointers = q.pointers;
  used = q.used;
  owner = q.owner;
  slot = q.slot;
  len = set q.len s size;
}

-- what rewrite gives, and the bytes that it was lent as it leaves them
pub record Lent : Type 0 where
  pub rewritten : Rewritten
  pub items : List ℕ

abbrev pub lent : Rewritten → List ℕ → Lent
lent r b = record { rewritten = r; items = b }

abbrev pub answer : Queues → List ℕ → Result (Unit {0}) RewriteError → Lent
answer q b o = lent (record { queues = q; outcome = o }) b

-- the item in the slot of the one that is there
abbrev pub at_slot : Queues → List ℕ → List ℕ → Option ℕ → Lent
at_slot q b item None = answer q b (Err NoSuchItem)
at_slot q b item (Some s) = answer (resized q s (length item)) (paste b (s * 64) item (length item)) (Ok tt)

-- "10 if blank, 4 length not 1..64, 2, 3"
unfoldable pub rewrite_in : Queues → List ℕ → ℕ → ℕ → List ℕ → Lent
rewrite_in q b n p item =
    pick (eqb n (blank 8)) (answer q b (Err Invalid))
    (pick (not (some item) || ltb 64 (length item)) (answer q b (Err WrongLength))
    (pick (not (has n (names_of q))) (answer q b (Err UnknownQueue))
    (at_slot q b item (slot_in q n p))))
