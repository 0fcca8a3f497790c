-- Who is an active task.
use Rattle.std.specs.Prelude.{ℕ, Bool, ◌&&◌}
use Rattle.base.specs.Lists.{any}
use Rattle.interval.specs.declared.Request.{Request}
use Rattle.interval.specs.declared.Requests.{Requests}
use Rattle.interval.specs.Table.{live}
use Rattle.interval.specs.Rows.{active, named}

abbrev pub task : ℕ → Request → Bool
task n q = active q && named n q

unfoldable pub active_in : Requests → ℕ → Bool
active_in t n = any (task n) (live t)
