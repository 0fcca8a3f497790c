-- What the type of the requests tells of every value that a program holds is what `Typed` says: from the relation of a parameter or of a
-- call's result. Assumes nothing.
use Rattle.std.proofs.Common.{◌≡◌, ℕ, ◌^◌, Bool, true, List, length, subst, sym, refl, w8, w32, w64, lt-ltb, eq-eqb}
use Rattle.std.proofs.lemmas.List.{map-id}
use mir.Val.{Val}
use denote.RattleType.{RattleType}
use denote.Plain.{UInt}
use denote.Array.{Array}
use denote.Struct.Field.{array_field, row_field}
use denote.Shadow.{shadow}
use Rattle.base.specs.Lists.{all}
use Rattle.base.specs.Laws.Tests.{and_i}
use Rattle.base.specs.Laws.Told.{Told, Passes, uint_passes, array_long, array_all}
use Rattle.interval.specs.declared.Phase.TheVariants.{Waiting, Expired, Active}
use Rattle.interval.specs.declared.Requests.{Requests}
use Rattle.interval.specs.Typed.{Typed, typed_phase, typed_row}
use Rattle.interval.specs.contracts.Phase as phase
use Rattle.interval.specs.contracts.Request as request
use Rattle.interval.specs.contracts.Requests as requests

-- an array in a struct is told as it stands
module _ (R : RattleType) (n : ℕ) (l : List R.Denot) (vs : List Val) (s : shadow ((Array R n).own_val l vs)) where
  told : Told (array_field (row_field R) n) l vs
  told = subst (λ (x : List R.Denot). shadow ((Array R n).own_val x vs)) (sym (map-id l)) s

  long : length l ≡ n
  long = array_long (row_field R) n l vs told

  each : (p : R.Denot → Bool) → Passes (row_field R) p → all p l ≡ true
  each p h = array_all (row_field R) n l vs told p h

phase_passes : Passes phase.the_field typed_phase
phase_passes (Waiting d) vs s = lt-ltb d (2 ^ 32) s.1.1.1.1.0.1
phase_passes Expired vs s = refl
phase_passes (Active t) vs s = refl

-- in the order of the struct's fields: name, program, terminal, phase, len, bytes
row_passes : Passes request.the_field typed_row
row_passes q vs s =
    let f = s.1.1 in
    let b = f.1.1.1.1.1.0 in
    let words =
    and_i (and_i (and_i (uint_passes w64 q.name _ f.0) (uint_passes w32 q.program _ f.1.0)) (uint_passes w32 q.terminal _ f.1.1.0))
    (uint_passes w8 q.len _ f.1.1.1.1.0) in
    let wide = eq-eqb (length q.bytes) 64 (long (UInt w8) 64 q.bytes _ b) in
    and_i (and_i (and_i words wide) (each (UInt w8) 64 q.bytes _ b _ (uint_passes w8))) (phase_passes q.phase _ f.1.1.1.0)

-- in the order of the struct's fields
pub told_typed : (t : Requests) (vs : List Val) → Told requests.the_field t vs → Typed t
told_typed t vs s =
    let f = s.1.1 in
    let programs = f.1.1.0 in
    let terminals = f.1.1.1.1.0 in
    let rows = f.1.1.1.1.1.1.0 in
    record {
      register = f.0.1;
      pcount = f.1.0.1;
      programs = long (UInt w32) 16 t.programs _ programs;
      each_program = each (UInt w32) 16 t.programs _ programs _ (uint_passes w32);
      tcount = f.1.1.1.0.1;
      terminals = long (UInt w32) 8 t.terminals _ terminals;
      each_terminal = each (UInt w32) 8 t.terminals _ terminals _ (uint_passes w32);
      count = f.1.1.1.1.1.0.1;
      rows = long request.the_row 32 t.rows _ rows;
      each_row = each request.the_row 32 t.rows _ rows _ row_passes;
    }
