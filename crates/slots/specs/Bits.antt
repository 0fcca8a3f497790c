-- The occupancy of the 128 slots: two words of 64 binary digits, read as one number of 128. Slot k is digit k, and it is in use
-- where the digit is 1. These are the definitions that the contracts cite; each holds for every pair of numbers, words or not.
use Rattle.std.specs.Prelude.{ℕ, zero, suc, ◌+◌, ◌-◌, ◌*◌, ◌/◌, ◌%◌, ◌^◌, Bool, ◌&&◌, eqb, ltb, Option, Some, None}
use Rattle.std.specs.Int.Count.{ones}
use Rattle.base.specs.Choice.{pick}
use Rattle.slots.specs.declared.Used.{Used}

-- ---- of a number

-- digit k of w, the lowest being digit 0
unfoldable pub bit : ℕ → ℕ → ℕ
bit w zero = w % 2
bit w (suc k) = bit (w / 2) k

-- w with digit k made b
unfoldable pub with_bit : ℕ → ℕ → ℕ → ℕ
with_bit w k b = w - bit w k * 2 ^ k + b * 2 ^ k

-- the first digit that is 0 among the n from digit k on, and k + n where each is 1
unfoldable pub clear_from : ℕ → ℕ → ℕ → ℕ
clear_from w k zero = k
clear_from w k (suc n) = pick (eqb (bit w k) 0) k (clear_from w (suc k) n)

-- the lowest digit that is 0 among w's n lowest, and n where each is 1
unfoldable pub lowest_clear : ℕ → ℕ → ℕ
lowest_clear w n = clear_from w 0 n

-- ---- of the two words

abbrev pub number : Used → ℕ
number u = u.hi * 2 ^ 64 + u.lo

abbrev pub none : Used
none = record { lo = 0; hi = 0 }

-- how many slots are in use
abbrev pub held : Used → ℕ
held u = ones (number u)

-- is slot k in use
unfoldable pub used_at : Used → ℕ → Bool
used_at u k = ltb k 128 && eqb (bit (number u) k) 1

-- the lowest free slot, where fewer are in use than may be, and not all 128
unfoldable pub free_for : ℕ → Used → Option ℕ
free_for may u = pick (ltb (held u) may && ltb (held u) 128) (Some (lowest_clear (number u) 128)) None

-- the words with slot k's digit made b; past the 128 there is none
unfoldable pub put : Used → ℕ → ℕ → Used
put u k b =
    pick (ltb k 64) (record { lo = with_bit u.lo k b; hi = u.hi })
    (pick (ltb k 128) (record { lo = u.lo; hi = with_bit u.hi (k - 64) b }) u)

-- slot k in use, slot k free: all others as they were
abbrev pub marked : Used → ℕ → Used
marked u k = put u k 1

abbrev pub cleared : Used → ℕ → Used
cleared u k = put u k 0
