-- A request goes.
use Rattle.std.specs.Prelude.{ℕ, ltb, length}
use Rattle.base.specs.Choice.{pick}
use Rattle.base.specs.Lists.{first_at, cut_at}
use Rattle.request_rows.specs.Rows.{named}
use Rattle.request_rows.specs.Table.{Requests, live, with_live}

-- the one at i, if there is one
unfoldable pub remove_at : Requests → ℕ → Requests
remove_at t i = pick (ltb i (length (live t))) (with_live t (cut_at i (live t))) t

-- the place of the first of that name, behind all where there is none
abbrev pub place_of : Requests → ℕ → ℕ
place_of t n = first_at (named n) (live t)

-- the first of that name, if there is one
unfoldable pub remove_in : Requests → ℕ → Requests
remove_in t n = remove_at t (place_of t n)
