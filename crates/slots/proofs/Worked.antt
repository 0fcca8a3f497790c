-- The definitions on a few occupancies, by computation: slots 0, 1 and 3 in use; the lower word full. Assumes nothing.
use mathlib.Core.Path.{◌≡◌, refl}
use mathlib.Core.Bool.{true, false}
use Prim.Native.Nat.{◌-◌, ◌^◌}
use lib.Count.{ones, ones_in}
use Rattle.slots.specs.Bits.{bit, with_bit, clear_from, lowest_clear, number, held, used_at, free_for, put, marked, cleared}
use Rattle.slots.specs.declared.Used.{Used}
use Rattle.std.specs.Prelude.{Some, None}

abbrev three : Used
three = record { lo = 11; hi = 0 }

abbrev lower : Used
lower = record { lo = 2 ^ 64 - 1; hi = 5 }

three_held : held three ≡ 3
unfolding ones ones_in
three_held = refl

-- the lowest free slot is 2, for one who may fill more than three
three_free : free_for 4 three ≡ Some 2
unfolding free_for lowest_clear clear_from bit ones ones_in
three_free = refl

three_full : free_for 3 three ≡ None
unfolding free_for lowest_clear clear_from bit ones ones_in
three_full = refl

three_marked : marked three 2 ≡ record { lo = 15; hi = 0 }
unfolding put with_bit bit
three_marked = refl

three_cleared : cleared three 1 ≡ record { lo = 9; hi = 0 }
unfolding put with_bit bit
three_cleared = refl

-- slots 64 and 66 are bits 0 and 2 of the upper word
lower_free : lowest_clear (number lower) 128 ≡ 65
unfolding lowest_clear clear_from bit
lower_free = refl

lower_used : used_at lower 66 ≡ true
unfolding used_at bit
lower_used = refl

lower_past : used_at lower 128 ≡ false
unfolding used_at bit
lower_past = refl

lower_marked : marked lower 65 ≡ record { lo = 2 ^ 64 - 1; hi = 7 }
unfolding put with_bit bit
lower_marked = refl
