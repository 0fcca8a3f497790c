-- Dispatch.
use Rattle.std.specs.Prelude.{◌≡◌, ℕ, Bool, false, not, ◌&&◌, ◌||◌, List, [], ◌++◌, map, length, take, ◌==◌, slice_index_or, Option, Some, None}
use Rattle.base.specs.Choice.{pick}
use Rattle.base.specs.Lists.{keep, any, first_at, has}
use Rattle.base.specs.Bytes.{blank, bytes_of}
use Rattle.model.specs.Plans.{normal, not_found}
use Rattle.interval.specs.declared.Phase.TheVariants.{Active}
use Rattle.interval.specs.declared.Request.{Request}
use Rattle.interval.specs.declared.Requests.{Requests}
use Rattle.interval.specs.declared.answers.Task.{Task}
use Rattle.interval.specs.declared.answers.Dispatched.{Dispatched}
use Rattle.interval.specs.declared.dispatch.Busy.{Busy}
use Rattle.interval.specs.Table.{live, in_phase}
use Rattle.interval.specs.Rows.{expired, active, out_row, with_row}

abbrev pub dispatch_gives : Option Task → ℕ
dispatch_gives (Some a) = normal
dispatch_gives None = not_found

-- "Bytes: request, program, terminal."
abbrev pub dispatch_bytes : Option Task → List ℕ
dispatch_bytes (Some a) = bytes_of 8 a.name ++ bytes_of 4 a.program ++ bytes_of 4 a.terminal
dispatch_bytes None = []

abbrev pub program_of : Request → ℕ
program_of q = q.program

abbrev pub terminal_of : Request → ℕ
terminal_of q = q.terminal

-- an active task that holds program p or terminal m
abbrev pub blocks : ℕ → ℕ → Request → Bool
blocks p m q = active q && (q.program == p || (not (m == blank 4) && q.terminal == m))

-- the columns of some rows
pub record Runs (l : List Request) (b : Busy) : Type 0 where
  pub programs : take b.n b.programs ≡ map program_of l
  pub terminals : take b.n b.terminals ≡ map terminal_of l

-- among running programs and held terminals
abbrev pub free_of : List ℕ → List ℕ → ℕ → ℕ → Bool
free_of programs terminals p m = (m == blank 4 || not (has m terminals)) && not (has p programs)

abbrev pub free : List Request → ℕ → ℕ → Bool
free l p m = free_of (map program_of (keep active l)) (map terminal_of (keep active l)) p m

-- in the line, and can start
abbrev pub ready : List Request → Request → Bool
ready l q = expired q && free l q.program q.terminal

-- how many of the line stand before i
abbrev pub passed_by : ℕ → List Request → ℕ
passed_by i l = length (keep expired (take i l))

-- the row that starts and how many of the line stand before it; or how many the line has
pub data Picked : Type 0 where
  At : ℕ → ℕ → Picked
  Nothing : ℕ → Picked

unfoldable pub pick_in : List Request → Picked
pick_in l = pick (any (ready l) l) (At (first_at (ready l) l) (passed_by (first_at (ready l) l) l)) (Nothing (length (keep expired l)))

abbrev pub dispatched_row : Requests → ℕ → Request → ℕ → Dispatched
dispatched_row t i q k = record { requests = with_row t i (in_phase (Active false) q); passed = k; started = Some (record { name = q.name; program = q.program; terminal = q.terminal }) }

abbrev pub dispatched : Requests → Picked → Dispatched
dispatched t (At i k) = dispatched_row t i (slice_index_or t.rows i out_row) k
dispatched t (Nothing k) = record { requests = t; passed = k; started = None }

unfoldable pub dispatch_in : Requests → Dispatched
dispatch_in t = dispatched t (pick_in (live t))
