-- Rows: their phases, their names and their data; a row that holds no request; and the rows without one of them.
use Rattle.std.specs.Prelude.{ℕ, Bool, true, false, not, List, [], take, replicate, ◌==◌, slice_set}
use Rattle.interval.specs.declared.Phase.{Phase}
use Rattle.interval.specs.declared.Phase.TheVariants.{Waiting, Expired, Active}
use Rattle.interval.specs.declared.Request.{Request}
use Rattle.interval.specs.declared.Requests.{Requests}

abbrev pub is_expired : Phase → Bool
is_expired (Waiting d) = false
is_expired Expired = true
is_expired (Active t) = false

abbrev pub is_active : Phase → Bool
is_active (Waiting d) = false
is_active Expired = false
is_active (Active t) = true

abbrev pub not_taken : Phase → Bool
not_taken (Waiting d) = false
not_taken Expired = false
not_taken (Active t) = not t

abbrev pub expired : Request → Bool
expired q = is_expired q.phase

abbrev pub active : Request → Bool
active q = is_active q.phase

abbrev pub named : ℕ → Request → Bool
named n q = q.name == n

abbrev pub data_of : Request → List ℕ
data_of q = take q.len q.bytes

-- no request
abbrev pub no_row : Request
no_row = record { name = 0; program = 0; terminal = 0; phase = Expired; len = 0; bytes = replicate 64 0 }

-- what the logic takes for an element past a list's end
abbrev pub out_row : Request
out_row = record { name = 0; program = 0; terminal = 0; phase = Waiting 0; len = 0; bytes = [] }

-- another request at i
abbrev pub with_row : Requests → ℕ → Request → Requests
with_row t i q = record {
  register = t.register;
  pcount = t.pcount;
  programs = t.programs;
  tcount = t.tcount;
  terminals = t.terminals;
  count = t.count;
  rows = slice_set t.rows i q;
}
