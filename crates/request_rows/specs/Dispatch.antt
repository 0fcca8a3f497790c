-- Dispatch.
use Rattle.std.specs.Prelude.{ℕ, ◌%◌, Bool, false, not, ◌&&◌, ◌||◌, List, [], ◌++◌, eqb, length, take, get_or}
use Rattle.base.specs.Choice.{pick}
use Rattle.base.specs.Lists.{keep, any, first_at}
use Rattle.base.specs.Bytes.{blank, bytes_of}
use Rattle.model.specs.Plans.{normal, not_found, Outcome}
use Rattle.request_rows.specs.declared.Phase.TheVariants.{Active}
use Rattle.request_rows.specs.Rows.{Row, no_row, program_of, terminal_of, in_phase, expired, active}
use Rattle.request_rows.specs.Table.{Requests, live, with_row}

-- an active task that has the program, or the terminal where that is one
abbrev pub clash : ℕ → ℕ → Row → Bool
clash p m q = active q && (eqb (program_of q) p || (not (eqb m (blank 4)) && eqb (terminal_of q) m))

-- in the line, "whose terminal is none or not held by an active task, and whose program has no active task"
abbrev pub ready : List Row → Row → Bool
ready l q = expired q && not (any (clash (program_of q) (terminal_of q)) l)

-- how many of the line stand before i
abbrev pub passed_by : ℕ → List Row → ℕ
passed_by i l = length (keep expired (take i l))

-- the row that starts and how many of the line stand before it; or how many the line has
pub data Picked : Type 0 where
  At : ℕ → ℕ → Picked
  None : ℕ → Picked

unfoldable pub pick_in : List Row → Picked
pick_in l = pick (any (ready l) l) (At (first_at (ready l) l) (passed_by (first_at (ready l) l) l)) (None (length (keep expired l)))

-- "Bytes: request, program, terminal."
abbrev pub bytes_for : Row → List ℕ
bytes_for q = bytes_of 8 q.name ++ bytes_of 4 (program_of q) ++ bytes_of 4 (terminal_of q)

-- "4-byte number"
abbrev pub dispatched_row : Requests → ℕ → Row → ℕ → Outcome Requests
dispatched_row t i q k = record { condition = normal; number = k % 4_294_967_296; bytes = bytes_for q; state = with_row t i (in_phase (Active false) q) }

abbrev pub dispatched : Requests → Picked → Outcome Requests
dispatched t (At i k) = dispatched_row t i (get_or (live t) i no_row) k
dispatched t (None k) = record { condition = not_found; number = k % 4_294_967_296; bytes = []; state = t }

-- "Dispatch takes the first in the line" that can start
unfoldable pub dispatch_in : Requests → Outcome Requests
dispatch_in t = dispatched t (pick_in (live t))
