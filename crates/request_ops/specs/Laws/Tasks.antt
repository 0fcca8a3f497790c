-- Who is an active task, by the row that is found. Assumes nothing.
use Rattle.std.specs.Prelude.{◌≡◌, ℕ, position}
use Rattle.request_rows.specs.Active.{task, task_in}
use Rattle.request_rows.specs.Table.{Requests, live}
use Rattle.request_ops.specs.Laws.Found.{position_any}

pub task_found : (t : Requests) (n : ℕ) → position (task n) (live t) ≡ task_in t n
unfolding task_in
task_found t n = position_any (task n) (live t)
