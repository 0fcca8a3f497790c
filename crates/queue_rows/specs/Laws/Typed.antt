-- What is known of words and bytes whatever they say: that the columns go together and each slot has its bytes; what the types say; and what follows
-- of the lengths of the live parts. Assumes nothing.
use Rattle.std.specs.Prelude.{◌≡◌, Bool, true, List, ℕ, ◌*◌, ◌^◌, ◌≤◌, ◌<◌, ltb, length}
use Rattle.std.proofs.Common.{◌∙◌, length-take, length-take-le}
use Rattle.base.specs.Lists.{all}
use Rattle.base.specs.Bytes.{is_bytes}
use Rattle.slots.specs.Told as told
use Rattle.queue_rows.specs.Table.{Queues, slots_in, names_of, pointers_of, entries, owners, places, Store}

-- a row has a name and a pointer; an entry has an owner, a slot and a length, and a slot 64 bytes; the occupancy is two words
pub record Fits (q : Queues) (b : List ℕ) : Type 0 where
  pub pointers_long : length q.pointers ≡ length q.names
  pub owner_long : length q.owner ≡ length q.slot
  pub len_long : length q.len ≡ length q.slot
  pub slots_few : length q.slot ≤ 128
  pub bytes_long : 64 * length q.slot ≤ length b
  pub words : told.Typed q.used

-- a number of 64 binary digits
abbrev pub is_word : ℕ → Bool
is_word x = ltb x (2 ^ 64)

abbrev pub are_words : List ℕ → Bool
are_words l = all is_word l

-- every word is one and every byte is one; and no more rows are lent than a slice can have
pub record Typed (s : Store) : Type 0 where
  pub rows : length s.queues.names < 2 ^ 64
  pub count : s.queues.count < 2 ^ 64
  pub names : are_words s.queues.names ≡ true
  pub pointers : are_words s.queues.pointers ≡ true
  pub owner : are_words s.queues.owner ≡ true
  pub slot : are_words s.queues.slot ≡ true
  pub len : are_words s.queues.len ≡ true
  pub past : are_words s.queues.past ≡ true
  pub bytes : is_bytes s.items ≡ true

module _ (q : Queues) {b : List ℕ} (f : Fits q b) where
  -- an entry has an owner and a slot
  pub entries_long : length (owners q) ≡ length (places q)
  entries_long = simp (length-take, f.owner_long)

  -- a row has a name and a pointer
  pub rows_long : length (names_of q) ≡ length (pointers_of q)
  rows_long = simp (length-take, f.pointers_long)

  places_long : entries q ≤ slots_in q → length (places q) ≡ entries q
  places_long h = length-take-le (entries q) q.slot h

  pub owners_long : entries q ≤ slots_in q → length (owners q) ≡ entries q
  owners_long h = entries_long ∙ places_long h
