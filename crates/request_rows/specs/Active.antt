-- Who is an active task.
use Rattle.std.specs.Prelude.{ℕ, Bool, ◌&&◌, Option, Some, None}
use Rattle.base.specs.Choice.{pick}
use Rattle.base.specs.Lists.{any, first_at}
use Rattle.request_rows.specs.Rows.{Row, active, named}
use Rattle.request_rows.specs.Table.{Requests, live}

-- "An active task is named by the request that started it."
abbrev pub task : ℕ → Row → Bool
task n q = active q && named n q

unfoldable pub active_in : Requests → ℕ → Bool
active_in t n = any (task n) (live t)

-- its row
unfoldable pub task_in : Requests → ℕ → Option ℕ
task_in t n = pick (any (task n) (live t)) (Some (first_at (task n) (live t))) None
