-- Requests, none made, at a register value.
use Rattle.std.specs.Prelude.{ℕ, length, set, replicate}
use Rattle.request_rows.specs.Rows.{no_row}
use Rattle.request_rows.specs.Table.{Requests}

unfoldable pub fresh_at : Requests → ℕ → Requests
fresh_at t register = record { register = set t.register 0 register; count = 0; rows = replicate (length t.rows) no_row; past = replicate (length t.past) 0 }
