-- `rows::place` meets its contract: of the rows that it lends, `find` reads the names. Assumes nothing.
use Rattle.std.proofs.Common.{ℕ, List, ◌≡◌, ◌+◌, ◌*◌, ◌-◌, take, eqb, ap, sym, ◌∙◌, arith}
use Rattle.std.specs.Prelude.{position}
use Rattle.words.specs.Rows.{column}
use Rattle.settings.specs.Rows.{name_of, named}
use Rattle.settings.specs.Table.{view_of}
use Rattle.settings.specs.Laws.Lent.{rows_fit, names_lent}
use Rattle.settings.proofs.Places.{position_map}
use Rattle.settings.proofs.rows.place.Goals as goal

pub overflow_mul-n : goal.overflow_mul-n
overflow_mul-n c = omega (arith, rows_fit c.args.settings.now c.args.n c.requires)

pub overflow_add-n : goal.overflow_add-n
overflow_add-n c = omega (arith, rows_fit c.args.settings.now c.args.n c.requires)

-- only where there are none are the rows not in the words
pub returns-in_err-rows : goal.returns-in_err-rows
returns-in_err-rows c =
    let w = c.args.settings.now in
    let h = c.in_err-rows.ensures.lookup.0 in
    let e : c.args.n ≡ 0 = omega (arith, rows_fit w c.args.n c.requires) in
    c.from_residual.ensures ∙ ap (λ (n : ℕ). position (named c.args.task) (take n (view_of w).rows)) (sym e)

pub returns : goal.returns
returns c =
    let w = c.args.settings.now in
    let n = c.args.n in
    let e : n * 12 + 1 - 1 ≡ n * 12 = omega arith in
    c.find.ensures.exact ∙ ap (λ (r : List ℕ). position (λ m. eqb m c.args.task) (column 11 r)) c.in_ok-rows.ensures.lookup.0.2
    ∙ ap (position (λ m. eqb m c.args.task)) (names_lent w n c.requires (n * 12 + 1 - 1) e)
    ∙ position_map name_of (λ m. eqb m c.args.task) (take n (view_of w).rows)
