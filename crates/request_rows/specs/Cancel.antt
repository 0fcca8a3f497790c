-- Cancel.
use Rattle.std.specs.Prelude.{ℕ, not, ◌||◌, eqb, get_or}
use Rattle.base.specs.Choice.{pick}
use Rattle.base.specs.Lists.{any}
use Rattle.base.specs.Bytes.{blank}
use Rattle.model.specs.Plans.{invalid_request, not_found, Outcome, fault, done}
use Rattle.request_rows.specs.Rows.{no_row, active, named}
use Rattle.request_rows.specs.Table.{Requests, live}
use Rattle.request_rows.specs.Remove.{remove_at, place_of}

-- "Cancel removes a waiting or expired request. An active one gets 8.": the first of that name
unfoldable pub cancel_in : Requests → ℕ → Outcome Requests
cancel_in t n =
    pick (eqb n (blank 8)) (fault t invalid_request)
    (pick (not (any (named n) (live t)) || active (get_or (live t) (place_of t n) no_row)) (fault t not_found)
    (done (remove_at t (place_of t n)) 0))
