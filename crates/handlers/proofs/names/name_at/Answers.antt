-- `names::name_at` meets its contract. Assumes nothing.
use Rattle.std.proofs.Common.{◌≡◌, ℕ, List, get_or, arith, ap, ◌∙◌}
use Rattle.std.proofs.lemmas.Grind.{common_steps}
use Rattle.handlers.specs.Names.{names_in}
use Rattle.handlers.specs.Laws.Standing.{names_listed}
use Rattle.handlers.proofs.names.name_at.Goals as goal

pub returns-in-Some-clause-model : goal.returns-in-Some-clause-model
returns-in-Some-clause-model c =
    let a = c.args in
    let e : c.in-Some.v.now.name ≡ get_or (names_in a.t.now) a.i 0 = grind (arith, common_steps) in
    e ∙ ap (λ (l : List ℕ). get_or l a.i 0) (names_listed a.t.now)

pub returns-in-None-clause-model : goal.returns-in-None-clause-model
returns-in-None-clause-model c =
    let a = c.args in
    let e : 0 ≡ get_or (names_in a.t.now) a.i 0 = grind (arith, common_steps) in
    e ∙ ap (λ (l : List ℕ). get_or l a.i 0) (names_listed a.t.now)
