-- Start.
use Rattle.std.specs.Prelude.{ℕ, Bool, not, ◌||◌, List, [], ◌∷◌, ◌++◌, length, replicate, ◌==◌, nat_le, nat_lt, is_ok, Result, Ok, Err}
use Rattle.base.specs.Choice.{pick}
use Rattle.base.specs.Lists.{any, has, over}
use Rattle.base.specs.Bytes.{blank}
use Rattle.model.specs.Plans.{normal, invalid_request, wrong_length, unknown_program, unknown_terminal, not_unique, no_space}
use Rattle.model.specs.Interval.{Asked, none_or_known}
use Rattle.interval.specs.declared.Phase.{Phase}
use Rattle.interval.specs.declared.Phase.TheVariants.{Waiting, Expired}
use Rattle.interval.specs.declared.Request.{Request}
use Rattle.interval.specs.declared.Requests.{Requests}
use Rattle.interval.specs.declared.answers.StartError.{StartError}
use Rattle.interval.specs.declared.answers.StartError.TheVariants.{Invalid, WrongLength, UnknownProgram, UnknownTerminal, NotUnique, NoSpace}
use Rattle.interval.specs.declared.start.Asked as lent
use Rattle.interval.specs.Answers.{Started}
use Rattle.interval.specs.Circle.{after}
use Rattle.interval.specs.Table.{programs_of, terminals_of, live, with_live}
use Rattle.interval.specs.Rows.{named}

abbrev pub start_gives : Result (Unit {0}) StartError → ℕ
start_gives (Ok u) = normal
start_gives (Err Invalid) = invalid_request
start_gives (Err WrongLength) = wrong_length
start_gives (Err UnknownProgram) = unknown_program
start_gives (Err UnknownTerminal) = unknown_terminal
start_gives (Err NotUnique) = not_unique
start_gives (Err NoSpace) = no_space

abbrev pub asked : ℕ → ℕ → ℕ → ℕ → List ℕ → Asked
asked n p m i b = record { name = n; program = p; terminal = m; interval = i; bytes = b }

-- what is asked for, with its data
abbrev pub asks : lent.Asked → List ℕ → Asked
asks a b = asked a.name a.program a.terminal a.interval b

-- the tests in their order: of the name, the interval, the size, whether program, terminal and name are known, and the count
unfoldable pub ruling : ℕ → ℕ → ℕ → Bool → Bool → Bool → ℕ → Result (Unit {0}) StartError
ruling n i size program terminal taken count =
    pick (n == blank 8 || nat_lt 359_999_000 i) (Err Invalid)
    (pick (nat_lt 64 size) (Err WrongLength)
    (pick (not program) (Err UnknownProgram)
    (pick (not terminal) (Err UnknownTerminal)
    (pick taken (Err NotUnique)
    (pick (nat_le 32 count) (Err NoSpace) (Ok tt))))))

abbrev pub ruled : Requests → Asked → Result (Unit {0}) StartError
ruled t a =
    ruling a.name a.interval (length a.bytes) (has a.program (programs_of t)) (none_or_known a.terminal (terminals_of t))
    (any (named a.name) (live t)) (length (live t))

-- "interval 0 expires at once"
unfoldable pub begun_at : ℕ → ℕ → Phase
begun_at register i = pick (i == 0) Expired (Waiting (after register i))

-- its data, and zeros behind them
abbrev pub new_row : ℕ → Asked → Request
new_row register a = record {
  name = a.name;
  program = a.program;
  terminal = a.terminal;
  phase = begun_at register a.interval;
  len = length a.bytes;
  bytes = over a.bytes (replicate 64 0);
}

abbrev pub started : Result (Unit {0}) StartError → Requests → Requests → Started
started o t new = record { requests = pick (is_ok o) new t; outcome = o }

unfoldable pub start_in : Requests → Asked → Started
start_in t a = started (ruled t a) t (with_live t (live t ++ (new_row t.register a ∷ [])))
