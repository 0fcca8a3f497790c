-- Laws of the register's circle. None asks that a due tick be below 2 ^ 32. Assumes nothing.
use Rattle.std.specs.Prelude.{◌≡◌, ℕ, ◌+◌, ◌%◌, ◌^◌, ◌<◌, ◌≤◌}
use Rattle.std.proofs.Common.{arith}
use Rattle.interval.specs.Circle.{after, to_go}

pub to_go_lt : (d r : ℕ) → to_go d r < 2 ^ 32
unfolding to_go
to_go_lt d r = omega arith

pub after_lt : (r n : ℕ) → after r n < 2 ^ 32
unfolding after
after_lt r n = omega arith

-- what comes n ticks after the register's has n to go
pub to_go_after : (r n : ℕ) → r < 2 ^ 32 → n < 2 ^ 32 → to_go (after r n) r ≡ n
unfolding to_go after
to_go_after r n hr hn = omega arith

-- as the register moves by n, no more than the ticks to go, they fall by n
pub to_go_falls : (d r n : ℕ) → r < 2 ^ 32 → n ≤ to_go d r → to_go d (after r n) + n ≡ to_go d r
unfolding to_go after
to_go_falls d r n hr hn = omega arith

-- a register that means a clock means, n ticks after, the clock n ticks after
pub after_means : (r c n : ℕ) → r ≡ c % 2 ^ 32 → after r n ≡ (c + n) % 2 ^ 32
unfolding after
after_means r c n e = omega arith

-- std's subtraction is the ticks to go, its addition the tick after
pub to_go_wraps : (d r x : ℕ) → d < 2 ^ 32 → r < 2 ^ 32 → x < 2 ^ 32 → (x + r) % 2 ^ 32 ≡ d → x ≡ to_go d r
unfolding to_go
to_go_wraps d r x hd hr hx e = omega arith
