-- `set::add` meets its contract: the first row that does not count is written, and then it counts. Assumes nothing.
use Prim.Native.Nat.{ℕ, ◌+◌, ◌*◌, ◌-◌}
use mathlib.Core.Path.{◌≡◌, refl, ◌∙◌}
use mathlib.Core.Bool.{true}
use native.Mathlib.Omega.{arith}
use lib.Dec.{eqb}
use lib.ListN.{length, replicate, length-set}
use borrow.Author.Tests.{eq-eqb}
use Rattle.settings.specs.Rows.{unset_line, with_word}
use Rattle.settings.specs.Table.{view_of}
use Rattle.settings.specs.Laws.Lent.{row_fits, row_counted}
use Rattle.settings.proofs.Coded.{add_put}
use Rattle.settings.proofs.set.add.Goals as goal

-- there is a place, so the row is in the words
pub overflow_mul-at : goal.overflow_mul-at
overflow_mul-at c = omega (arith, row_fits c.args.settings.now c.args.n (omega arith))

pub overflow_add-at : goal.overflow_add-at
overflow_add-at c = omega (arith, row_fits c.args.settings.now c.args.n (omega arith))

pub overflow_add-end : goal.overflow_add-end
overflow_add-end c = omega (arith, row_fits c.args.settings.now c.args.n (omega arith))

pub offset_bounds-settings-at : goal.offset_bounds-settings-at
offset_bounds-settings-at c = omega (arith, row_fits c.args.settings.now c.args.n (omega arith))

pub slice_bounds-new_row-end : goal.slice_bounds-new_row-end
slice_bounds-new_row-end c = omega (arith, row_fits c.args.settings.now c.args.n (omega arith))

-- the part that is lent is a row
long : (n : ℕ) → n * 12 + 1 + 12 - (n * 12 + 1) ≡ 12
long n = omega arith

pub returns-then-n-rows_in : goal.returns-then-n-rows_in
returns-then-n-rows_in c =
    let a = c.args in
    let v = with_word a.c a.w (unset_line a.task) in
    let eleven : eqb (length v.cells) 11 ≡ true = eq-eqb (length v.cells) 11 (length-set (replicate 11 0) a.c a.w) in
    row_counted a.settings.now a.n (omega arith) (a.n * 12 + 1) (a.n * 12 + 1 + 12 - (a.n * 12 + 1)) refl (long a.n)
    v c.new_row.new.row (a.n + 1) eleven c.new_row.ensures
    ∙ add_put (view_of a.settings.now) a.n c.requires.n_value v (omega arith)
