-- The live parts of the struct, for every value of it: rows and entries past the counts keep what they held and mean nothing.
use Rattle.std.specs.Prelude.{ℕ, ◌*◌, min, List, [], ◌∷◌, eqb, take, drop, get_or}
use Rattle.base.specs.Choice.{pick}
use Rattle.base.specs.Lists.{first_at}
use Rattle.slots.specs.Bits.{held}
use Rattle.queues.specs.declared.Queues.{Queues}

-- how many rows there are: a count that says more than the table has is taken as all
abbrev pub rows_in : Queues → ℕ
rows_in q = min q.count 16

abbrev pub names_of : Queues → List ℕ
names_of q = take q.count q.names

abbrev pub pointers_of : Queues → List ℕ
pointers_of q = take q.count q.pointers

-- as many entries as slots in use
abbrev pub entries : Queues → ℕ
entries q = held q.used

abbrev pub owners : Queues → List ℕ
owners q = take (entries q) q.owner

abbrev pub places : Queues → List ℕ
places q = take (entries q) q.slot

-- the row of a name, and the number of rows where it has none
abbrev pub row_of : Queues → ℕ → ℕ
row_of q n = first_at (λ m. eqb m n) (names_of q)

-- the slots of the entries whose owner is n, in their order
abbrev pub slots_of : ℕ → List ℕ → List ℕ → List ℕ
slots_of n [] ss = []
slots_of n (o ∷ os) [] = []
slots_of n (o ∷ os) (s ∷ ss) = pick (eqb o n) (s ∷ slots_of n os ss) (slots_of n os ss)

-- the slots of the queue's items, in the order of their places
abbrev pub slots_in : Queues → ℕ → List ℕ
slots_in q n = slots_of n (owners q) (places q)

-- what slot s holds, of the bytes that are lent
abbrev pub contents : Queues → List ℕ → ℕ → List ℕ
contents q b s = take (get_or q.len s 0) (drop (s * 64) b)
