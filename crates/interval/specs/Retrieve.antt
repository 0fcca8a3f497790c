-- Retrieve.
use Rattle.std.specs.Prelude.{ℕ, min, Bool, true, ◌&&◌, List, [], length, take, ◌==◌, nat_lt, slice_index_or, Option, Some, None}
use Rattle.base.specs.Choice.{pick}
use Rattle.base.specs.Lists.{any, first, first_at, cut_at}
use Rattle.model.specs.Limits.{some}
use Rattle.model.specs.Plans.{normal, wrong_length, end_of_data}
use Rattle.interval.specs.declared.Phase.TheVariants.{Active}
use Rattle.interval.specs.declared.Request.{Request}
use Rattle.interval.specs.declared.Requests.{Requests}
use Rattle.interval.specs.declared.answers.Data.{Data}
use Rattle.interval.specs.Answers.{Retrieved}
use Rattle.interval.specs.Table.{live, with_live, in_phase}
use Rattle.interval.specs.Rows.{expired, not_taken, named, data_of, no_row, out_row, with_row}

-- cut where there is not room for all
abbrev pub retrieve_gives : Option Data → ℕ
retrieve_gives (Some d) = pick (nat_lt d.len d.full) wrong_length normal
retrieve_gives None = end_of_data

abbrev pub retrieve_number : Option Data → ℕ
retrieve_number (Some d) = d.full
retrieve_number None = 0

abbrev pub retrieve_bytes : Option Data → List ℕ
retrieve_bytes (Some d) = take d.len d.bytes
retrieve_bytes None = []

abbrev pub has_own : Request → Bool
has_own q = not_taken q.phase && some (data_of q)

abbrev pub serves : ℕ → ℕ → Request → Bool
serves p m q = expired q && q.program == p && q.terminal == m && some (data_of q)

-- a request's data, as far as there is room
abbrev pub given : Request → ℕ → Data
given q room = record { full = length (data_of q); len = min (length (data_of q)) room; bytes = q.bytes }

abbrev pub retrieved : Requests → Option Data → Retrieved
retrieved t o = record { requests = t; outcome = o }

abbrev pub handed : Requests → Request → ℕ → Retrieved
handed t q room = retrieved t (Some (given q room))

abbrev pub nothing : Requests → Retrieved
nothing t = retrieved t None

-- the task's request q stands at i, and j is the first that serves it
abbrev pub retrieval : Requests → ℕ → Request → ℕ → ℕ → Retrieved
retrieval t i q j room =
    pick (has_own q) (handed (with_row t i (in_phase (Active true) q)) q room)
    (pick (any (serves q.program q.terminal) (live t)) (handed (with_live t (cut_at j (live t))) (slice_index_or t.rows j out_row) room)
    (nothing t))

abbrev pub task_of : Requests → ℕ → Request
task_of t n = first (named n) no_row (live t)

unfoldable pub retrieve_in : Requests → ℕ → ℕ → Retrieved
retrieve_in t n room =
    retrieval t (first_at (named n) (live t)) (task_of t n) (first_at (serves (task_of t n).program (task_of t n).terminal) (live t)) room
