-- What a row has in a column, as the code finds it. Assumes nothing.
use Rattle.std.specs.Prelude.{◌≡◌, ℕ, Bool, false, not, ◌&&◌, Option, None, Some, List, ◌==◌, refl}
use Rattle.std.specs.Bool.{then_some}
use Rattle.std.proofs.Common.{sym, ap, ◌∙◌}
use Rattle.base.specs.Lists.{has}
use Rattle.base.specs.Bytes.{blank}
use Rattle.request_rows.specs.declared.Request.{Request}
use Rattle.request_rows.specs.Rows.{Row, is_active, decode}
use Rattle.request_sound.specs.declared.columns.Column.{Column}
use Rattle.request_sound.specs.declared.columns.Column.TheVariants.{Name, Slot, Program, Terminal}
use Rattle.request_sound.specs.Sound.{key_of, key_in, key_among, column, seen}
use Rattle.request_sound.specs.Laws.Columns.{is_key}

module _ (q : Request) where
  pub key_name : Some q.name ≡ key_of Name q
  key_name = refl

  pub key_slot : Some q.slot ≡ key_of Slot q
  key_slot = refl

  module _ (a : Bool) (f : a ≡ is_active q.phase) where
    pub key_program : then_some a q.program ≡ key_of Program q
    key_program = rw f

    pub key_terminal : (b : Bool) → b ≡ (a && not (q.terminal == blank 4)) → then_some b q.terminal ≡ key_of Terminal q
    key_terminal b g = rw (g, f)

-- of a row, as it was read
module _ (w : Column) (q : Row) (r : Request) (k : Option ℕ) (e : r ≡ decode q) (f : k ≡ key_of w r) where
  read : k ≡ key_in w q
  read = f ∙ ap (key_of w) e

  pub key_tested : (v : ℕ) (b : Bool) → b ≡ is_key v k → is_key v (key_in w q) ≡ b
  key_tested v b h = ap (is_key v) (sym read) ∙ sym h

  key_looked : (l : List Row) → key_among k (column w l) ≡ seen w q l
  key_looked l = ap (λ (y : Option ℕ). key_among y (column w l)) read

  pub key_on : (l : List Row) (v : ℕ) (b : Bool) → k ≡ Some v → b ≡ has v (column w l) → b ≡ seen w q l
  key_on l v b t h = h ∙ (rw t at (key_looked l))

  pub key_off : (l : List Row) → k ≡ None → false ≡ seen w q l
  key_off l t = rw t at (key_looked l)
