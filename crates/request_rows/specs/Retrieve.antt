-- Retrieve.
use Rattle.std.specs.Prelude.{ℕ, Bool, true, ◌&&◌, List, eqb, get_or}
use Rattle.base.specs.Choice.{pick}
use Rattle.base.specs.Lists.{any, first_at}
use Rattle.model.specs.Limits.{some}
use Rattle.model.specs.Plans.{end_of_data, Outcome, fault, cut}
use Rattle.request_rows.specs.declared.Phase.TheVariants.{Active}
use Rattle.request_rows.specs.Rows.{Row, no_row, phase_of, program_of, terminal_of, in_phase, expired, not_taken, data_of}
use Rattle.request_rows.specs.Table.{Requests, live, with_row}
use Rattle.request_rows.specs.Remove.{remove_at}

-- "the task's own data if it has some not yet taken"
abbrev pub has_own : List ℕ → Row → Bool
has_own area q = not_taken (phase_of q.phase) && some (data_of area q)

-- "with the same program, the same terminal (none equals none) and some data", in the line
abbrev pub serves : List ℕ → ℕ → ℕ → Row → Bool
serves area p m q = expired q && eqb (program_of q) p && eqb (terminal_of q) m && some (data_of area q)

-- the task's row q stands at i, and j is the first that serves it
abbrev pub retrieval : Requests → List ℕ → ℕ → Row → ℕ → ℕ → Outcome Requests
retrieval t area i q j room =
    pick (has_own area q) (cut (with_row t i (in_phase (Active true) q)) room (data_of area q))
    (pick (any (serves area (program_of q) (terminal_of q)) (live t)) (cut (remove_at t j) room (data_of area (get_or (live t) j no_row)))
    (fault t end_of_data))

abbrev pub row_at : Requests → ℕ → Row
row_at t i = get_or (live t) i no_row

-- of the task in row i: "Retrieve gives the task's own data .. Otherwise the first in the line .. that request is removed."
unfoldable pub retrieve_at : Requests → List ℕ → ℕ → ℕ → Outcome Requests
retrieve_at t area i room =
    retrieval t area i (row_at t i) (first_at (serves area (program_of (row_at t i)) (terminal_of (row_at t i))) (live t)) room
