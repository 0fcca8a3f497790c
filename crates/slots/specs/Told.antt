-- What the contracts say in words of bits, beside the exact definitions.
use Rattle.std.specs.Prelude.{ℕ, ◌≤◌, ◌<◌, ◌^◌, ◌≡◌, ◌&&◌, ◌⊎◌, eqb, ltb, Option, Some, None}
use Rattle.base.specs.Choice.{pick}
use Rattle.slots.specs.Bits.{bit, number, held}
use Rattle.slots.specs.declared.Used.{Used}

-- each is a word: what the type says of every value that a program holds
pub record Typed (u : Used) : Type 0 where
  pub low : u.lo < 2 ^ 64
  pub high : u.hi < 2 ^ 64

-- slot k may be taken: it is the lowest free slot, and its asker's share is not used up
pub record Free (may : ℕ) (u : Used) (k : ℕ) : Type 0 where
  pub below : k < 128
  pub clear : bit (number u) k ≡ 0
  pub lowest : (j : ℕ) → j < k → bit (number u) j ≡ 1
  pub share : held u < may
  pub room : held u < 128

-- a slot is found where one may be taken, and none exactly where the share or all 128 slots are used up
pub record Found (may : ℕ) (u : Used) (r : Option ℕ) : Type 0 where
  pub some : (k : ℕ) → r ≡ Some k → Free may u k
  pub full : r ≡ None → (may ≤ held u) ⊎ (held u ≡ 128)

-- r is u with slot k's digit made b and no other changed; past the 128 slots none is
pub record Alone (u : Used) (k b : ℕ) (r : Used) : Type 0 where
  pub bits : (j : ℕ) → bit (number r) j ≡ pick (eqb j k && ltb k 128) b (bit (number u) j)
