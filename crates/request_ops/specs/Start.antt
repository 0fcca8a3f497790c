-- What a start finds out on its way.
use Rattle.std.specs.Prelude.{◌≡◌, ◌<◌, ℕ, not, ◌||◌, List, length, ◌==◌, nat_lt, Result, Ok, Err}
use Rattle.base.specs.Choice.{pick}
use Rattle.base.specs.Lists.{has}
use Rattle.base.specs.Bytes.{blank}
use Rattle.model.specs.Plans.{invalid_request, wrong_length, unknown_program, unknown_terminal, no_space, Outcome, fault}
use Rattle.model.specs.Interval.{Asked, none_or_known}
use Rattle.names.specs.Names.{Names, names_in}
use Rattle.words.specs.declared.said.Condition.{Condition}
use Rattle.words.specs.Said.{code_of}
use Rattle.request_rows.specs.Table.{Requests, live}
use Rattle.request_rows.specs.Start.{asked, free_slot, room_in, Kept}
use Rattle.request_ops.specs.declared.start.Asked as lent

-- what is asked for, with the bytes that are lent
abbrev pub asks : lent.Asked → Asked
asks a = asked a.name a.program a.terminal a.interval a.bytes.now

-- what a test comes to: its condition where it has one, and else what follows
abbrev pub follows : {A : Type 0} → Result A Condition → Kept → Outcome Kept → Outcome Kept
follows (Ok x) s o = o
follows (Err c) s o = fault s (code_of c)

-- the tests before the requests are looked at, and what follows where none holds
unfoldable pub checked : Names → Names → Asked → Kept → Outcome Kept → Outcome Kept
checked programs terminals a s o =
    pick (a.name == blank 8 || nat_lt 359_999_000 a.interval) (fault s invalid_request)
    (pick (nat_lt 64 (length a.bytes)) (fault s wrong_length)
    (pick (not (has a.program (names_in programs))) (fault s unknown_program)
    (pick (not (none_or_known a.terminal (names_in terminals))) (fault s unknown_terminal) o)))

-- there is a row behind those in use and a slot, and what follows where there is
unfoldable pub roomed : Requests → List ℕ → Kept → Outcome Kept → Outcome Kept
roomed t area s o = pick (not (room_in t area)) (fault s no_space) o

-- there is a row behind those in use, and k is the lowest slot that is not in use
pub record Room (t : Requests) (k : ℕ) : Type 0 where
  pub row : length (live t) < length t.rows
  pub slot : k ≡ free_slot (live t)
  pub few : k < 128
