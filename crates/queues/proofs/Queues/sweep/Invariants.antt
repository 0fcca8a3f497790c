use Rattle.std.specs.Prelude.{◌≡◌, ◌≤◌, length, take}
use Rattle.queues.specs.Delete.{others_than}
use Rattle.queues.proofs.SweepLaws.{swept_to}
use Rattle.queues.proofs.Queues.sweep.Given as goal

abbrev pub invariant-loop-i : goal.invariant-loop-i
invariant-loop-i l = record {
  count : l.n ≤ 128;
  stayed : l.j ≡ length (others_than l.name (take l.i l.initial.self.owner));
  so_far : l.self ≡ swept_to l.initial.self l.name l.i;
  fewer : l.j ≤ l.i;
}
