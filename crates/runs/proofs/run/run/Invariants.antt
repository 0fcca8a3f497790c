use Prim.Native.Nat.{◌-◌}
use lib.ListN.{length}
use Rattle.turn_rules.specs.Lent.{held, SameLoans}
use Rattle.runs.proofs.Running.{Running}
use Rattle.runs.proofs.run.run.Given as goal

abbrev pub invariant-loop-start : goal.invariant-loop-start
invariant-loop-start l = Running l.list l.initial.out (held l.initial.t) l.out (held l.t) l.at l.written × SameLoans l.t l.initial.t

abbrev pub decreases-loop-start : goal.decreases-loop-start
decreases-loop-start l = length l.list - l.at
