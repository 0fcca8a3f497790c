-- `names::name_at` meets its contract: row i begins with its name. Assumes nothing.
use Rattle.std.proofs.Common.{arith, ap, ◌∙◌, ℕ, List, get_or}
use Rattle.settings.specs.Table.{view_of}
use Rattle.settings.specs.Laws.Standing.{name_stands, few}
use Rattle.settings.proofs.names.name_at.Goals as goal

pub returns-then-i-rows_in-clause-model : goal.returns-then-i-rows_in-clause-model
returns-then-i-rows_in-clause-model c h =
    ap (λ (r : List ℕ). get_or r 0 0) c.row.ensures.exact ∙ name_stands (view_of c.args.settings.now) c.args.i h

pub returns-clause-model : goal.returns-clause-model
returns-clause-model c h = absurd (omega (arith, few (view_of c.args.settings.now), c.rows_in.ensures))
