-- `set::put` meets its contract: a setting is made in the task's row, or in a new one. Assumes nothing.
use Rattle.std.proofs.Common.{ℕ, ◌≡◌, ◌+◌, List, length, get_or, set, arith, rules, ap, ap₂, ◌∙◌}
use Rattle.handlers.specs.declared.Task.{Task}
use Rattle.handlers.specs.Table.{live}
use Rattle.handlers.specs.Rows.{out_row, unset_row, with_row, with_setting}
use Rattle.handlers.proofs.Typed.{unmapped, tabled}
use Rattle.handlers.proofs.Coded.{set_held, set_new, set_full}
use Rattle.handlers.proofs.set.put.Goals as goal

pub returns-in-Some : goal.returns-in-Some
returns-in-Some c =
    let a = c.args in
    let i = c.in-Some.i in
    ap (λ (k : ℕ). with_row a.t i (with_setting k a.setting (get_or a.t.rows i out_row))) c.from-c.ensures
    ∙ set_held a.t a.name i c.in-Some.ensures a.condition a.setting out_row

pub returns-then-n-lt16 : goal.returns-then-n-lt16
returns-then-n-lt16 c =
    let a = c.args in
    let e = c.live-n.ensures.exact in
    let long : length a.t.rows ≡ 16 = search (rules, unmapped) in
    ap₂ (λ (l : List Task) (v : Task). tabled (length l + 1) (set a.t.rows (length l) (with_setting c.from-c.result a.setting v))) e c.unset_row-v.ensures
    ∙ ap (λ (k : ℕ). tabled (length (live a.t) + 1) (set a.t.rows (length (live a.t)) (with_setting k a.setting (unset_row a.name)))) c.from-c.ensures
    ∙ set_new a.t a.name c.in_default.ensures a.condition a.setting (omega (arith, ap (length {A = Task}) e)) long

pub returns-else-n-lt16 : goal.returns-else-n-lt16
returns-else-n-lt16 c =
    let a = c.args in
    set_full a.t a.name c.in_default.ensures a.condition a.setting (omega (arith, ap (length {A = Task}) c.live-n.ensures.exact))
