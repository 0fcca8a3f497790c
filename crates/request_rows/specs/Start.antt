-- Start.
use Rattle.std.specs.Prelude.{ℕ, ◌*◌, Bool, not, ◌&&◌, ◌||◌, List, [], ◌∷◌, ◌++◌, eqb, ltb, length, Option, Some, None}
use Rattle.base.specs.Choice.{pick}
use Rattle.base.specs.Lists.{any, has}
use Rattle.base.specs.Bytes.{blank, stored}
use Rattle.slots.specs.Bits.{none, marked, free_for}
use Rattle.slots.specs.declared.Used.{Used}
use Rattle.model.specs.Plans.{invalid_request, wrong_length, unknown_program, unknown_terminal, not_unique, no_space, Outcome, fault, done}
use Rattle.model.specs.Interval.{Asked, none_or_known}
use Rattle.names.specs.Names.{Names, names_in}
use Rattle.request_rows.specs.declared.Phase.{Phase}
use Rattle.request_rows.specs.declared.Phase.TheVariants.{Waiting, Expired}
use Rattle.request_rows.specs.Circle.{after}
use Rattle.request_rows.specs.Rows.{Row, slot_of, encode, named}
use Rattle.request_rows.specs.Table.{Requests, register_of, live, with_live, slots_in}

abbrev pub asked : ℕ → ℕ → ℕ → ℕ → List ℕ → Asked
asked n p m i b = record { name = n; program = p; terminal = m; interval = i; bytes = b }

-- "interval 0 expires at once"
unfoldable pub begun_at : ℕ → ℕ → Phase
begun_at register i = pick (eqb i 0) Expired (Waiting (after register i))

-- ---- the slot for its data: the lowest that no request has

abbrev pub used_from : Used → List Row → Used
used_from u [] = u
used_from u (q ∷ l) = used_from (marked u (slot_of q)) l

abbrev pub slot_from : Option ℕ → ℕ
slot_from (Some k) = k
slot_from None = 128

-- 128 where there is none
unfoldable pub free_slot : List Row → ℕ
free_slot l = slot_from (free_for 128 (used_from none l))

-- is there a row, and a slot
abbrev pub room_in : Requests → List ℕ → Bool
room_in t area = ltb (length (live t)) (length t.rows) && ltb (free_slot (live t)) (slots_in area)

-- ---- what is done

-- the requests, and the bytes of their data
pub record Kept : Type 0 where
  pub requests : Requests
  pub area : List ℕ

abbrev pub kept : Requests → List ℕ → Kept
kept t area = record { requests = t; area = area }

-- its data are the first bytes of slot k
abbrev pub new_row : ℕ → ℕ → Asked → Row
new_row register k a =
    encode (record { name = a.name; program = a.program; terminal = a.terminal; phase = begun_at register a.interval; len = length a.bytes; slot = k })

abbrev pub begin : Requests → List ℕ → Asked → ℕ → Kept
begin t area a k = kept (with_live t (live t ++ (new_row (register_of t) k a ∷ []))) (stored area (k * 64) a.bytes)

-- "10 blank request or interval above bound; 4 data over 64; 5; 6; 7; 1"
unfoldable pub start_in : Names → Names → Requests → List ℕ → Asked → Outcome Kept
start_in programs terminals t area a =
    pick (eqb a.name (blank 8) || ltb 359_999_000 a.interval) (fault (kept t area) invalid_request)
    (pick (ltb 64 (length a.bytes)) (fault (kept t area) wrong_length)
    (pick (not (has a.program (names_in programs))) (fault (kept t area) unknown_program)
    (pick (not (none_or_known a.terminal (names_in terminals))) (fault (kept t area) unknown_terminal)
    (pick (any (named a.name) (live t)) (fault (kept t area) not_unique)
    (pick (not (room_in t area)) (fault (kept t area) no_space)
    (done (begin t area a (free_slot (live t))) 0))))))
