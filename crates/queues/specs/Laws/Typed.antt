-- What the struct's type says of every value that a program holds, and what follows of the lengths of its live parts. A function has it
-- where it starts, by `search (rules, word, byte)`. Assumes nothing.
use Rattle.std.specs.Prelude.{◌≡◌, refl, true, List, [], ◌∷◌, ℕ, zero, suc, ◌^◌, ◌≤◌, ◌<◌, ltb, length, get_or, set}
use Rattle.std.proofs.Common.{sym, ◌∙◌, arith, Fits, length-take, length-take-le, lt-ltb}
use Rattle.std.specs.Int.{w8, w64}
use Rattle.base.specs.Lists.{all}
use Rattle.base.specs.Laws.Tests.{and_i}
use Rattle.slots.specs.Told as told
use Rattle.slots.proofs.Laws.Slots.{held_le}
use Rattle.queues.specs.declared.Queues.{Queues}
use Rattle.queues.specs.Table.{rows_in, names_of, pointers_of, entries, owners, places}

pub record Typed (q : Queues) : Type 0 where
  pub names_long : length q.names ≡ 16
  pub pointers_long : length q.pointers ≡ 16
  pub owner_long : length q.owner ≡ 128
  pub slot_long : length q.slot ≡ 128
  pub len_long : length q.len ≡ 128
  pub words : told.Typed q.used
  pub name_fits : (i : ℕ) → get_or q.names i 0 < 2 ^ 64
  pub pointer_fits : (i : ℕ) → get_or q.pointers i 0 < 256
  pub owner_fits : (i : ℕ) → get_or q.owner i 0 < 2 ^ 64
  pub slot_fits : (i : ℕ) → get_or q.slot i 0 < 256
  pub len_fits : (i : ℕ) → get_or q.len i 0 < 256

-- what the borrow checker tells of an element, as a bound
pub word : {n : ℕ} → Fits w64 n → n < 2 ^ 64
word f = f.fits

pub byte : {n : ℕ} → Fits w8 n → n < 256
byte f = f.fits

-- each element is below a bound, as a test
pub all_below : (bound : ℕ) (l : List ℕ) → ((i : ℕ) → get_or l i 0 < bound) → all (λ x. ltb x bound) l ≡ true
all_below bound [] h = refl
all_below bound (x ∷ l) h = and_i (lt-ltb x bound (h 0)) (all_below bound l (λ i. h (suc i)))

-- and stays so where one is set to what is below it
pub set_below : (bound : ℕ) (l : List ℕ) (i v : ℕ) → ((j : ℕ) → get_or l j 0 < bound) → v < bound → (j : ℕ) → get_or (set l i v) j 0 < bound
set_below bound [] i v h g j = h j
set_below bound (x ∷ l) zero v h g zero = g
set_below bound (x ∷ l) zero v h g (suc j) = h (suc j)
set_below bound (x ∷ l) (suc i) v h g zero = h 0
set_below bound (x ∷ l) (suc i) v h g (suc j) = set_below bound l i v (λ m. h (suc m)) g j

module _ (q : Queues) (t : Typed q) where
  pub entries_le : entries q ≤ 128
  entries_le = held_le q.used t.words

  pub owners_long : length (owners q) ≡ entries q
  owners_long = length-take-le (entries q) q.owner (omega (arith, entries_le, t.owner_long))

  pub places_long : length (places q) ≡ entries q
  places_long = length-take-le (entries q) q.slot (omega (arith, entries_le, t.slot_long))

  -- an entry has an owner and a slot
  pub entries_long : length (owners q) ≡ length (places q)
  entries_long = owners_long ∙ sym places_long

  pub names_count : length (names_of q) ≡ rows_in q
  names_count = rw (length-take, t.names_long)

  pub pointers_count : length (pointers_of q) ≡ rows_in q
  pointers_count = rw (length-take, t.pointers_long)

  -- a row has a name and a pointer
  pub rows_long : length (names_of q) ≡ length (pointers_of q)
  rows_long = names_count ∙ sym pointers_count
