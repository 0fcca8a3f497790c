use Prim.Native.Nat.{◌-◌}
use lib.ListN.{length}
use Rattle.monitor.proofs.Laws.Held.{parts}
use Rattle.monitor.specs.Table.{tables}
use Rattle.lists.proofs.Running.{Running}
use Rattle.lists.proofs.run.run_records.Given as goal

abbrev pub invariant-loop-start : goal.invariant-loop-start
invariant-loop-start l =
    Running l.list l.initial.out (tables (parts l.initial.requests l.initial.queues l.initial.tasks) l.initial.items) l.out (tables (parts l.requests l.queues l.tasks) l.items) l.at l.written

abbrev pub decreases-loop-start : goal.decreases-loop-start
decreases-loop-start l = length l.list - l.at
