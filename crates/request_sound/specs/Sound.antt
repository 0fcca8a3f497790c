-- The soundness check in the words' own terms: a row's test, and the columns in which none may stand twice.
use Rattle.std.specs.Prelude.{ℕ, Bool, true, false, not, ◌&&◌, ◌||◌, Option, None, Some, List, length, ◌==◌, nat_le, nat_lt}
use Rattle.std.specs.Bool.{then_some}
use Rattle.std.specs.List.{filter_map}
use Rattle.base.specs.Lists.{all, has, once}
use Rattle.base.specs.Bytes.{blank}
use Rattle.names.specs.Names.{Names, names_in, sound_names}
use Rattle.request_rows.specs.declared.Phase.{Phase}
use Rattle.request_rows.specs.declared.Phase.TheVariants.{Waiting, Expired, Active}
use Rattle.request_rows.specs.declared.Request.{Request}
use Rattle.request_rows.specs.Circle.{to_go}
use Rattle.request_rows.specs.Rows.{Row, is_active, program_of, terminal_of, decode}
use Rattle.request_rows.specs.Table.{Requests, register_of, live}
use Rattle.request_sound.specs.declared.columns.Column.{Column}
use Rattle.request_sound.specs.declared.columns.Column.TheVariants.{Name, Slot, Program, Terminal}

-- ---- a row

-- "A waiting request has 1..359,999,000 ticks to go"; "data of 0 bytes is never marked taken"
abbrev pub phase_fits : ℕ → ℕ → Phase → Bool
phase_fits register len (Waiting d) = nat_le 1 (to_go d register) && nat_le (to_go d register) 359_999_000
phase_fits register len Expired = true
phase_fits register len (Active t) = not t || nat_le 1 len

-- its data are in its slot, and that is one of so many
abbrev pub laid : ℕ → Request → Bool
laid slots q = nat_le q.len 64 && nat_lt q.slot slots

-- the rules of one row, of which it is told whether its program and its terminal are known
unfoldable pub sound_row : ℕ → ℕ → Bool → Bool → Request → Bool
sound_row register slots program terminal q =
    laid slots q && not (q.name == blank 8) && program && (q.terminal == blank 4 || terminal) && phase_fits register q.len q.phase

abbrev pub sound_in : Names → Names → Requests → ℕ → Row → Bool
sound_in programs terminals t slots q =
    sound_row (register_of t) slots (has (program_of q) (names_in programs)) (has (terminal_of q) (names_in terminals)) (decode q)

-- ---- columns

-- what a row has in a column, if it has anything there: its name; its data slot; its program, where it is active; its terminal, where it is active and has one
abbrev pub key_of : Column → Request → Option ℕ
key_of Name q = Some q.name
key_of Slot q = Some q.slot
key_of Program q = then_some (is_active q.phase) q.program
key_of Terminal q = then_some (is_active q.phase && not (q.terminal == blank 4)) q.terminal

abbrev pub key_in : Column → Row → Option ℕ
key_in which q = key_of which (decode q)

abbrev pub column : Column → List Row → List ℕ
column which l = filter_map (key_in which) l

-- is a key, if there is one, among those
abbrev pub key_among : Option ℕ → List ℕ → Bool
key_among None l = false
key_among (Some k) l = has k l

-- what a row has in a column stands there in one of those rows
abbrev pub seen : Column → Row → List Row → Bool
seen which q l = key_among (key_in which q) (column which l)

-- none stands twice in any of the four
abbrev pub apart : List Row → Bool
apart l = once (column Name l) && once (column Slot l) && once (column Program l) && once (column Terminal l)

-- ---- all of it

-- there is a register, and no more requests than rows
abbrev pub headed : Requests → Bool
headed t = length t.register == 1 && nat_le t.count (length t.rows)

-- what is looked at, where there are so many slots
abbrev pub checked : Names → Names → Requests → ℕ → Bool
checked programs terminals t slots =
    sound_names programs && sound_names terminals && headed t && all (sound_in programs terminals t slots) (live t) && apart (live t)
