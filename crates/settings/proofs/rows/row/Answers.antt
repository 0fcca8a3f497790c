-- `rows::row` meets its contract: the row is in the words. Assumes nothing.
use Rattle.std.proofs.Common.{◌≡◌, ◌+◌, ◌*◌, ◌-◌, refl, arith}
use Rattle.settings.specs.Laws.Lent.{row_fits, row_lent}
use Rattle.settings.proofs.rows.row.Goals as goal

pub overflow_mul-at : goal.overflow_mul-at
overflow_mul-at c = omega (arith, row_fits c.args.settings.now c.args.i c.requires)

pub overflow_add-at : goal.overflow_add-at
overflow_add-at c = omega (arith, row_fits c.args.settings.now c.args.i c.requires)

pub overflow_add-result : goal.overflow_add-result
overflow_add-result c = omega (arith, row_fits c.args.settings.now c.args.i c.requires)

pub offset_bounds-settings-at : goal.offset_bounds-settings-at
offset_bounds-settings-at c = omega (arith, row_fits c.args.settings.now c.args.i c.requires)

pub slice_bounds-result-end : goal.slice_bounds-result-end
slice_bounds-result-end c = omega (arith, row_fits c.args.settings.now c.args.i c.requires)

pub returns-clause-exact : goal.returns-clause-exact
returns-clause-exact c =
    let i = c.args.i in
    let e : i * 12 + 1 + 12 - (i * 12 + 1) ≡ 12 = omega arith in
    row_lent c.args.settings.now i c.requires (i * 12 + 1) _ refl e
