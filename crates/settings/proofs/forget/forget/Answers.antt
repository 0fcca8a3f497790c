-- `forget::forget` meets its contract: the rows that count are lent, and come back without one. Assumes nothing.
use Rattle.std.proofs.Common.{◌+◌, ◌*◌, ◌-◌, ◌<◌, ◌≡◌, ◌≤◌, length, ◌∙◌, arith}
use Rattle.settings.specs.Table.{view_of}
use Rattle.settings.specs.Laws.Lent.{rows_fit, cut_back}
use Rattle.settings.proofs.Clauses.{forget_clause}
use Rattle.settings.proofs.Coded.{fits, found, before, forget_held, forget_none}
use Rattle.settings.proofs.forget.forget.Goals as goal
use Rattle.settings.proofs.forget.forget.Goals.{In-Some}

pub place-requires : goal.place-requires
place-requires c = fits (view_of c.args.settings.now) c.count-n.result c.count-n.ensures.exact

-- the rows are in the words, and the task's is one of them
fit : (c : In-Some) → c.count-n.result * 12 ≤ length c.args.settings.now - 1
fit c =
    let w = c.args.settings.now in
    rows_fit w c.count-n.result (fits (view_of w) c.count-n.result c.count-n.ensures.exact)

row : (c : In-Some) → c.in-Some.i < c.count-n.result
row c = before (found (view_of c.args.settings.now) c.count-n.ensures.exact c.in-Some.ensures)

pub overflow_mul-end : goal.overflow_mul-end
overflow_mul-end c = omega (arith, fit c)

pub overflow_add-end : goal.overflow_add-end
overflow_add-end c = omega (arith, fit c)

pub slice_bounds-shut-end : goal.slice_bounds-shut-end
slice_bounds-shut-end c = omega (arith, fit c, row c)

pub overflow_mul-i : goal.overflow_mul-i
overflow_mul-i c = let d = (goal.at.overflow_mul-i c).In-Some in omega (arith, fit d, row d)

pub returns-in-Some : goal.returns-in-Some
returns-in-Some c =
    let w = c.args.settings.now in
    let n = c.count-n in
    let r = c.shut in
    let f = found (view_of w) n.ensures.exact c.in-Some.ensures in
    let k : n.result * 12 + 1 - 1 ≡ n.result * 12 = omega arith in
    let e = cut_back w n.result c.in-Some.i (n.result * 12 + 1 - 1) (fits (view_of w) n.result n.ensures.exact) (before f) k r.new.t (n.result - 1) r.ensures.exact
    ∙ forget_held f in
    record { exact = e; model = forget_clause (view_of w) c.args.task _ e }

pub returns-in_default : goal.returns-in_default
returns-in_default c =
    let t = view_of c.args.settings.now in
    let e = forget_none t c.count-n.result c.args.task c.count-n.ensures.exact c.in_default.ensures in
    record { exact = e; model = forget_clause t c.args.task t e }
