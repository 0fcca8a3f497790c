-- The live parts of the struct, for every value of it, and the struct with other live rows: what stands past a count is kept.
use Rattle.std.specs.Prelude.{ℕ, List, length, take}
use Rattle.base.specs.Lists.{over}
use Rattle.interval.specs.declared.Phase.{Phase}
use Rattle.interval.specs.declared.Request.{Request}
use Rattle.interval.specs.declared.Requests.{Requests}

abbrev pub programs_of : Requests → List ℕ
programs_of t = take t.pcount t.programs

abbrev pub terminals_of : Requests → List ℕ
terminals_of t = take t.tcount t.terminals

abbrev pub live : Requests → List Request
live t = take t.count t.rows

abbrev pub with_live : Requests → List Request → Requests
with_live t l = record {
  register = t.register;
  pcount = t.pcount;
  programs = t.programs;
  tcount = t.tcount;
  terminals = t.terminals;
  count = length l;
  rows = over l t.rows;
}

abbrev pub in_phase : Phase → Request → Request
in_phase p q = record { name = q.name; program = q.program; terminal = q.terminal; phase = p; len = q.len; bytes = q.bytes }
