-- Delete queue: what is left, for all words. A row and the entries that go leave no gap: the later ones move down, and what stands past the new
-- counts is what stood there.
use Rattle.std.specs.Prelude.{ℕ, suc, ◌-◌, not, List, [], ◌∷◌, ◌++◌, eqb, length, take, drop}
use Rattle.base.specs.Choice.{pick}
use Rattle.base.specs.Bytes.{blank}
use Rattle.base.specs.Lists.{keep, has, copies, over}
use Rattle.slots.specs.Bits.{cleared}
use Rattle.slots.specs.declared.Used.{Used}
use Rattle.model.specs.Plans.{unknown_queue, invalid_request, Outcome, fault, done}
use Rattle.queue_rows.specs.Table.{Queues, names_of, pointers_of, owners, places, row_of, slots_named}

-- ---- a row goes

-- the list without its element at r
abbrev pub less : ℕ → List ℕ → List ℕ
less r l = take r l ++ drop (suc r) l

unfoldable pub shut_row : Queues → ℕ → Queues
shut_row q n = record {
  count = length (names_of q) - 1;
  used = q.used;
  names = over (less (row_of q n) (names_of q)) q.names;
  pointers = over (less (row_of q n) (pointers_of q)) q.pointers;
  owner = q.owner;
  slot = q.slot;
  len = q.len;
  past = q.past;
}

-- ---- the entries of an owner go

-- the owners that are not n
abbrev pub others_than : ℕ → List ℕ → List ℕ
others_than n os = keep (λ o. not (eqb o n)) os

-- the slots of the entries whose owner is not n, in their order
abbrev pub slots_but : ℕ → List ℕ → List ℕ → List ℕ
slots_but n [] ss = []
slots_but n (o ∷ os) [] = []
slots_but n (o ∷ os) (s ∷ ss) = pick (eqb o n) (slots_but n os ss) (s ∷ slots_but n os ss)

-- the listed slots are free, one cleared after the other
abbrev pub clear_all : Used → List ℕ → Used
clear_all u [] = u
clear_all u (s ∷ ss) = clear_all (cleared u s) ss

-- "Delete frees every place."
unfoldable pub emptied : Queues → ℕ → Queues
emptied q n = record {
  count = q.count;
  used = clear_all q.used (slots_named q n);
  names = q.names;
  pointers = q.pointers;
  owner = over (others_than n (owners q)) q.owner;
  slot = over (slots_but n (owners q) (places q)) q.slot;
  len = q.len;
  past = q.past;
}

-- "10 if blank, 2 | items freed" (DeleteQ₀)
unfoldable pub delete_from : Queues → ℕ → Outcome Queues
delete_from q n =
    pick (eqb n (blank 8)) (fault q invalid_request)
    (pick (has n (names_of q)) (done (emptied (shut_row q n) n) (copies n (owners q))) (fault q unknown_queue))
