-- Delete queue: what is left of the struct, for every value of it. A row and the entries that go leave no gap: the later ones move down, and
-- what stands past the new counts is what stood there.
use Rattle.std.specs.Prelude.{ℕ, suc, ◌+◌, ◌-◌, ◌≡◌, true, false, not, List, [], ◌∷◌, ◌++◌, eqb, take, drop, Result, Ok, Err}
use Rattle.base.specs.Choice.{pick}
use Rattle.base.specs.Bytes.{blank}
use Rattle.base.specs.Lists.{keep, has, copies, over}
use Rattle.slots.specs.Bits.{used_at, cleared}
use Rattle.slots.specs.declared.Used.{Used}
use Rattle.model.specs.Plans.{normal, unknown_queue, invalid_request}
use Rattle.queues.specs.declared.Queues.{Queues}
use Rattle.queues.specs.declared.delete.DeleteError.{DeleteError}
use Rattle.queues.specs.declared.delete.DeleteError.TheVariants.{UnknownQueue, Invalid}
use Rattle.queues.specs.declared.delete.Deleted.{Deleted}
use Rattle.queues.specs.Table.{rows_in, names_of, pointers_of, entries, owners, places, row_of, slots_in}

-- "14 | delete queue: 8 | 10 if blank, 2 | items freed"
abbrev pub condition_of : Result ℕ DeleteError → ℕ
condition_of (Ok k) = normal
condition_of (Err UnknownQueue) = unknown_queue
condition_of (Err Invalid) = invalid_request

abbrev pub number_of : Result ℕ DeleteError → ℕ
number_of (Ok k) = k
number_of (Err e) = 0

-- ---- a row goes

-- the list without its element at r
abbrev pub less : ℕ → List ℕ → List ℕ
less r l = take r l ++ drop (suc r) l

unfoldable pub shut_at : Queues → ℕ → Queues
shut_at q r = record {
  count = rows_in q - 1;
  names = over (less r (names_of q)) q.names;
  pointers = over (less r (pointers_of q)) q.pointers;
  used = q.used;
  owner = q.owner;
  slot = q.slot;
  len = q.len;
}

-- the row of a name
abbrev pub shut : Queues → ℕ → Queues
shut q n = shut_at q (row_of q n)

-- ---- the entries of an owner go

-- the owners that are not n
abbrev pub others_than : ℕ → List ℕ → List ℕ
others_than n os = keep (λ o. not (eqb o n)) os

-- the slots of the entries whose owner is not n, in their order
abbrev pub slots_but : ℕ → List ℕ → List ℕ → List ℕ
slots_but n [] ss = []
slots_but n (o ∷ os) [] = []
slots_but n (o ∷ os) (s ∷ ss) = pick (eqb o n) (slots_but n os ss) (s ∷ slots_but n os ss)

-- the listed slots are free, one cleared after the other
abbrev pub clear_all : Used → List ℕ → Used
clear_all u [] = u
clear_all u (s ∷ ss) = clear_all (cleared u s) ss

-- "Delete frees every place."
unfoldable pub emptied : Queues → ℕ → Queues
emptied q n = record {
  count = q.count;
  names = q.names;
  pointers = q.pointers;
  used = clear_all q.used (slots_in q n);
  owner = over (others_than n (owners q)) q.owner;
  slot = over (slots_but n (owners q) (places q)) q.slot;
  len = q.len;
}

-- "items freed"
unfoldable pub swept : Queues → ℕ → Deleted
swept q n = record { queues = emptied q n; outcome = Ok (copies n (owners q)) }

-- ---- 14 (DeleteQ₀): a faulty command changes nothing

abbrev pub answer : Queues → Result ℕ DeleteError → Deleted
answer q o = record { queues = q; outcome = o }

unfoldable pub delete_from : Queues → ℕ → Deleted
delete_from q n =
    pick (eqb n (blank 8)) (answer q (Err Invalid))
    (pick (has n (names_of q)) (swept (shut q n) n) (answer q (Err UnknownQueue)))

-- ---- "Delete frees every place."

-- r has as many entries fewer as the queue had items; their slots are free to serve again, and every other slot is as it was
pub record Frees (q : Queues) (n : ℕ) (r : Queues) : Type 0 where
  pub fewer : entries r + copies n (owners q) ≡ entries q
  pub free : (t : ℕ) → has t (slots_in q n) ≡ true → used_at r.used t ≡ false
  pub kept : (t : ℕ) → has t (slots_in q n) ≡ false → used_at r.used t ≡ used_at q.used t
