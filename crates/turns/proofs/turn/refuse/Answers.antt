-- `refuse` meets its contract: a head alone (proofs/Turning.antt). Assumes nothing.
use mathlib.Core.Path.{ap}
use native.Mathlib.Omega.{arith}
use Rattle.turn_rules.specs.Turn.{left}
use Rattle.turns.proofs.Turning.{head_alone}
use Rattle.turns.proofs.turn.refuse.Goals as goal

pub returns-clause-exact : goal.returns-clause-exact
returns-clause-exact c =
    let a = c.args in
    λ t. ap (left 10 t) (head_alone a.condition a.out.now c.put_head.new.out (omega arith) c.put_head.ensures.exact)
