-- The soundness check in the struct's own words: a row's test, and the columns in which none may stand twice.
use Rattle.std.specs.Prelude.{ℕ, Bool, true, not, ◌&&◌, ◌||◌, List, map, length, take, ◌==◌, nat_le, Option, Some, None}
use Rattle.std.specs.List.{list_all}
use Rattle.base.specs.Choice.{pick}
use Rattle.base.specs.Lists.{keep, all, has, once}
use Rattle.base.specs.Bytes.{blank, is_name}
use Rattle.model.specs.Limits.{cabinet, is_data}
use Rattle.model.specs.Interval as model
use Rattle.interval.specs.declared.Phase.{Phase}
use Rattle.interval.specs.declared.Phase.TheVariants.{Waiting, Expired, Active}
use Rattle.interval.specs.declared.Request.{Request}
use Rattle.interval.specs.declared.Requests.{Requests}
use Rattle.interval.specs.declared.sound.Column.{Column}
use Rattle.interval.specs.declared.sound.Column.TheVariants.{Name, Program, Terminal}
use Rattle.interval.specs.Circle.{to_go}
use Rattle.interval.specs.Table.{programs_of, terminals_of, live}
use Rattle.interval.specs.Stands.{phase_at}
use Rattle.interval.specs.Rows.{active, data_of}

-- "A waiting request has 1..359,999,000 ticks to go"; "data of 0 bytes is never marked taken"
abbrev pub phase_fits : ℕ → ℕ → Phase → Bool
phase_fits register len (Waiting d) = nat_le 1 (to_go d register) && nat_le (to_go d register) 359_999_000
phase_fits register len Expired = true
phase_fits register len (Active t) = not t || nat_le 1 len

-- the rules of one row, of which it is told whether its program and its terminal are known
unfoldable pub sound_row : ℕ → Bool → Bool → Request → Bool
sound_row register program terminal q =
    nat_le q.len 64
    && (is_name 8 q.name
    && program
    && (q.terminal == blank 4 || terminal)
    && is_data cabinet (data_of q)
    && model.sound_phase cabinet register (data_of q) (phase_at register register q.phase))

abbrev pub sound_in : Requests → Request → Bool
sound_in t q = sound_row t.register (has q.program (programs_of t)) (has q.terminal (terminals_of t)) q

-- a row has its name; its program, where it is active; its terminal, where it is active and has one
abbrev pub is_in : Column → Request → Bool
is_in Name q = true
is_in Program q = active q
is_in Terminal q = active q && not (q.terminal == blank 4)

abbrev pub value_in : Column → Request → ℕ
value_in Name q = q.name
value_in Program q = q.program
value_in Terminal q = q.terminal

abbrev pub key_of : Column → Request → Option ℕ
key_of c q = pick (is_in c q) (Some (value_in c q)) None

abbrev pub column : Column → List Request → List ℕ
column c l = map (value_in c) (keep (is_in c) l)

-- all that is tested of a struct
abbrev pub names_fit : ℕ → List ℕ → Bool
names_fit count names = nat_le count (length names) && once (take count names) && all (is_name 4) (take count names)

abbrev pub checked : Requests → Bool
checked t =
    nat_le t.count 32
    && names_fit t.pcount t.programs
    && names_fit t.tcount t.terminals
    && list_all (sound_in t) (live t)
    && once (column Name (live t))
    && once (column Program (live t))
    && once (column Terminal (live t))
