-- What retrieve finds out on its way, of requests as the definitions have it of rows.
use Rattle.std.specs.Prelude.{ℕ, ◌*◌, min, Bool, ◌&&◌, List, take, drop, ◌==◌}
use Rattle.model.specs.Limits.{some}
use Rattle.request_rows.specs.declared.Request.{Request}
use Rattle.request_rows.specs.Rows.{is_expired, not_taken}

abbrev pub data_in : List ℕ → Request → List ℕ
data_in area q = take (min q.len 64) (drop (q.slot * 64) area)

abbrev pub owns : List ℕ → Request → Bool
owns area q = not_taken q.phase && some (data_in area q)

abbrev pub serving : List ℕ → ℕ → ℕ → Request → Bool
serving area p m q = is_expired q.phase && q.program == p && q.terminal == m && some (data_in area q)
