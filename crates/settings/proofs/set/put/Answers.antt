-- `set::put` meets its contract: a word is stored in the task's row, or a row is added. Assumes nothing.
use Rattle.std.proofs.Common.{ℕ, ◌≡◌, ◌+◌, ◌*◌, ◌<◌, length, ap, ◌∙◌, arith}
use Rattle.settings.specs.Table.{view_of}
use Rattle.settings.specs.Set.{set_in}
use Rattle.settings.specs.Laws.Lent.{cell_fits, cell_put}
use Rattle.settings.proofs.Coded.{fits, found, there, set_held, set_none}
use Rattle.settings.proofs.set.put.Goals as goal
use Rattle.settings.proofs.set.put.Goals.{In-Some}

pub place-requires : goal.place-requires
place-requires c = fits (view_of c.args.settings.now) c.count-n.result c.count-n.ensures.exact

-- where the setting stands in the words
cell : (c : In-Some) → c.in-Some.i * 12 + 2 + c.from-c.result < length c.args.settings.now
cell c =
    let w = c.args.settings.now in
    cell_fits w c.in-Some.i (there (found (view_of w) c.count-n.ensures.exact c.in-Some.ensures)) c.from-c.result (omega arith)

pub overflow_mul-settings : goal.overflow_mul-settings
overflow_mul-settings c = omega (arith, cell c)

pub overflow_add-settings : goal.overflow_add-settings
overflow_add-settings c = omega (arith, cell c)

pub overflow_add-settings-in-Some : goal.overflow_add-settings-in-Some
overflow_add-settings-in-Some c = omega (arith, cell c)

pub offset_bounds-settings-i : goal.offset_bounds-settings-i
offset_bounds-settings-i c = omega (arith, cell c)

pub bounds-settings-i : goal.bounds-settings-i
bounds-settings-i c = cell c

pub returns-in-Some : goal.returns-in-Some
returns-in-Some c =
    let a = c.args in
    let w = a.settings.now in
    let k = c.from-c in
    let x = c.from-w in
    let e : k.result ≡ a.condition = omega arith in
    let f = found (view_of w) c.count-n.ensures.exact c.in-Some.ensures in
    cell_put w c.in-Some.i (there f) k.result x.result (omega arith)
    ∙ set_held f k.result x.result a.setting x.ensures ∙ ap (λ (j : ℕ). set_in (view_of w) a.task j a.setting) e

pub returns-in_default : goal.returns-in_default
returns-in_default c =
    let a = c.args in
    let t = view_of a.settings.now in
    let k = c.from-c in
    let x = c.from-w in
    let e : k.result ≡ a.condition = omega arith in
    c.add.ensures ∙ set_none t c.count-n.result a.task c.count-n.ensures.exact c.in_default.ensures k.result x.result a.setting x.ensures
    ∙ ap (λ (j : ℕ). set_in t a.task j a.setting) e
