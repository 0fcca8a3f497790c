-- What the type of the tasks tells of every value that a program holds is what `Typed` says: from the relation of a parameter or of a call's
-- result. Assumes nothing.
use Prim.Native.Nat.{ℕ, ◌^◌}
use mathlib.Core.Path.{◌≡◌, refl, sym, subst}
use mathlib.Core.Bool.{Bool, true}
use mathlib.Core.List.{List}
use lib.ListN.{length}
use Rattle.std.proofs.lemmas.List.{map-id}
use borrow.Author.Tests.{lt-ltb, eq-eqb}
use mir.Syntax.{w64}
use mir.Val.{Val}
use denote.RattleType.{RattleType}
use denote.Array.{Array}
use denote.Struct.Field.{array_field, row_field}
use denote.Shadow.{shadow}
use Rattle.base.specs.Lists.{all}
use Rattle.base.specs.Laws.Tests.{and_i}
use Rattle.base.specs.Laws.Told.{Told, Passes, uint_passes, array_long, array_all}
use Rattle.handlers.specs.declared.Setting.TheVariants.{Unset, Ignore, Label}
use Rattle.handlers.specs.declared.Cell.{Cell}
use Rattle.handlers.specs.declared.Tasks.{Tasks}
use Rattle.handlers.specs.Laws.Every.{Typed, wide_setting, typed_row}
use Rattle.handlers.specs.contracts.Setting as setting
use Rattle.handlers.specs.contracts.Cell as cell
use Rattle.handlers.specs.contracts.Task as task
use Rattle.handlers.specs.contracts.Tasks as tasks

-- an array in a struct is told as it stands
module _ (R : RattleType) (n : ℕ) (l : List R.Denot) (vs : List Val) (s : shadow ((Array R n).own_val l vs)) where
  told : Told (array_field (row_field R) n) l vs
  told = subst (λ (x : List R.Denot). shadow ((Array R n).own_val x vs)) (sym (map-id l)) s

  long : length l ≡ n
  long = array_long (row_field R) n l vs told

  each : (p : R.Denot → Bool) → Passes (row_field R) p → all p l ≡ true
  each p h = array_all (row_field R) n l vs told p h

setting_passes : Passes setting.the_field wide_setting
setting_passes Unset vs s = refl
setting_passes Ignore vs s = refl
setting_passes (Label n) vs s = lt-ltb n (2 ^ 16) s.1.1.1.1.0.1

cell_passes : Passes cell.the_field (λ (e : Cell). wide_setting e.setting)
cell_passes e vs s = setting_passes e.setting _ s.1.1.0

row_passes : Passes task.the_field typed_row
row_passes v vs s =
    let cells = s.1.1.1.0 in
    and_i (uint_passes w64 v.name _ s.1.1.0)
    (and_i (eq-eqb (length v.cells) 11 (long cell.the_row 11 v.cells _ cells))
    (each cell.the_row 11 v.cells _ cells _ cell_passes))

pub told_typed : (t : Tasks) (vs : List Val) → Told tasks.the_field t vs → Typed t
told_typed t vs s =
    let rows = s.1.1.1.0 in
    record {
      rows = long task.the_row 16 t.rows _ rows;
      each = each task.the_row 16 t.rows _ rows _ row_passes;
    }
