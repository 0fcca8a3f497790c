-- The queues in words: how many there are, the two words of occupancy, then the columns, one behind the other: names and pointers, as many as queues
-- can be; owner, slot and len, as many as items can be. What stands past a count is kept and means nothing.
use Rattle.std.specs.Prelude.{ℕ, ◌+◌, ◌-◌, ◌*◌, ◌/◌, min, List, [], ◌∷◌, eqb, length, take, drop, get_or}
use Rattle.base.specs.Choice.{pick}
use Rattle.base.specs.Lists.{first_at}
use Rattle.slots.specs.Bits.{held}
use Rattle.slots.specs.declared.Used.{Used}

-- Rows 0..count of names and pointers are the queues, in the order in which they were made. The items are entries, as many as slots are in use, in the
-- order of append: entry e is an item of the queue owner[e] and lies in slot slot[e], which holds len[slot[e]] bytes.
pub record Queues : Type 0 where
  pub count : ℕ
  pub used : Used
  pub names : List ℕ
  pub pointers : List ℕ
  pub owner : List ℕ
  pub slot : List ℕ
  pub len : List ℕ
  -- words past the columns
  pub past : List ℕ

-- how many items so many words and bytes can hold: 64 bytes and three words each, and the occupancy is two words
unfoldable pub slots_for : ℕ → ℕ → ℕ
slots_for words bytes = min (min (bytes / 64) ((words - 3) / 3)) 128

-- how many queues the words can hold besides: two words each
unfoldable pub rows_for : ℕ → ℕ → ℕ
rows_for words slots = (words - 3 - 3 * slots) / 2

abbrev pub columns : ℕ → ℕ → List ℕ → Queues
columns q s w = record {
  count = get_or w 0 0;
  used = record { lo = get_or w 1 0; hi = get_or w 2 0 };
  names = take q (drop 3 w);
  pointers = take q (drop (3 + q) w);
  owner = take s (drop (3 + q + q) w);
  slot = take s (drop (3 + q + q + s) w);
  len = take s (drop (3 + q + q + s + s) w);
  past = drop (3 + q + q + s + s + s) w;
}

-- with so many bytes lent for the items
abbrev pub view_of : List ℕ → ℕ → Queues
view_of w bytes = columns (rows_for (length w) (slots_for (length w) bytes)) (slots_for (length w) bytes) w

-- how many queues there can be, and how many items
abbrev pub rows_in : Queues → ℕ
rows_in q = length q.names

abbrev pub slots_in : Queues → ℕ
slots_in q = length q.slot

abbrev pub names_of : Queues → List ℕ
names_of q = take q.count q.names

abbrev pub pointers_of : Queues → List ℕ
pointers_of q = take q.count q.pointers

-- as many entries as slots in use
abbrev pub entries : Queues → ℕ
entries q = held q.used

abbrev pub owners : Queues → List ℕ
owners q = take (entries q) q.owner

abbrev pub places : Queues → List ℕ
places q = take (entries q) q.slot

-- the row of a name, and the number of rows where it has none
abbrev pub row_of : Queues → ℕ → ℕ
row_of q n = first_at (λ m. eqb m n) (names_of q)

-- the slots of the entries whose owner is n, in their order
abbrev pub slots_of : ℕ → List ℕ → List ℕ → List ℕ
slots_of n [] ss = []
slots_of n (o ∷ os) [] = []
slots_of n (o ∷ os) (s ∷ ss) = pick (eqb o n) (s ∷ slots_of n os ss) (slots_of n os ss)

-- the slots of the queue's items, in the order of their places
abbrev pub slots_named : Queues → ℕ → List ℕ
slots_named q n = slots_of n (owners q) (places q)

-- what slot s holds, of the bytes that are lent
abbrev pub contents : Queues → List ℕ → ℕ → List ℕ
contents q b s = take (get_or q.len s 0) (drop (s * 64) b)

-- the queues, and the bytes of their items
pub record Store : Type 0 where
  pub queues : Queues
  pub items : List ℕ

abbrev pub store : Queues → List ℕ → Store
store q b = record { queues = q; items = b }
