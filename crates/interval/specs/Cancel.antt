-- Cancel.
use Rattle.std.specs.Prelude.{ℕ, not, ◌||◌, ◌==◌, slice_index_or, Result, Ok, Err}
use Rattle.base.specs.Choice.{pick}
use Rattle.base.specs.Lists.{any, first_at, cut_at}
use Rattle.base.specs.Bytes.{blank}
use Rattle.model.specs.Plans.{normal, invalid_request, not_found}
use Rattle.interval.specs.declared.Requests.{Requests}
use Rattle.interval.specs.declared.answers.CancelError.{CancelError}
use Rattle.interval.specs.declared.answers.CancelError.TheVariants.{Invalid, NotFound}
use Rattle.interval.specs.Answers.{Cancelled}
use Rattle.interval.specs.Table.{live, with_live}
use Rattle.interval.specs.Rows.{named, active, out_row}

abbrev pub cancel_gives : Result (Unit {0}) CancelError → ℕ
cancel_gives (Ok u) = normal
cancel_gives (Err Invalid) = invalid_request
cancel_gives (Err NotFound) = not_found

abbrev pub cancelled : Requests → Result (Unit {0}) CancelError → Cancelled
cancelled t o = record { requests = t; outcome = o }

-- the first of that name, unless there is none or it is active
unfoldable pub cancel_in : Requests → ℕ → Cancelled
cancel_in t n =
    pick (n == blank 8) (cancelled t (Err Invalid))
    (pick (not (any (named n) (live t)) || active (slice_index_or t.rows (first_at (named n) (live t)) out_row)) (cancelled t (Err NotFound))
    (cancelled (with_live t (cut_at (first_at (named n) (live t)) (live t))) (Ok tt)))
