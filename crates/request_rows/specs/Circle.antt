-- "reckoned on the register's circle": 2 ^ 32 ticks, on which no tick is before another.
use Rattle.std.specs.Prelude.{ℕ, ◌+◌, ◌-◌, ◌%◌, ◌^◌}

-- the tick that comes n ticks after the register's
unfoldable pub after : ℕ → ℕ → ℕ
after register n = (register + n) % 2 ^ 32

-- the ticks from the register to a due tick
unfoldable pub to_go : ℕ → ℕ → ℕ
to_go due register = (due + (2 ^ 32 - register)) % 2 ^ 32
