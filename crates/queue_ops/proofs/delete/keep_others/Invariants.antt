use Rattle.std.proofs.Common.{◌≤◌}
use Rattle.queue_ops.specs.Sweep.{Swept}
use Rattle.queue_ops.proofs.delete.keep_others.Given as goal

abbrev pub invariant-loop-i : goal.invariant-loop-i
invariant-loop-i l = record { moved : l.j ≤ l.i; swept : Swept l.name l.initial.owner l.initial.slot l.initial.v l.i l.v l.j l.owner l.slot }
