use Rattle.std.specs.Prelude.{◌≡◌}
use Rattle.queues.specs.Table.{owners, places}
use Rattle.queues.proofs.Rows.{seek}
use Rattle.queues.proofs.Queues.nth.Given as goal

abbrev pub invariant-loop-e : goal.invariant-loop-e
invariant-loop-e l = seek l.name (owners l.self) (places l.self) l.e l.before ≡ seek l.name (owners l.self) (places l.self) 0 l.index
