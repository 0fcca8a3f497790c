use Rattle.std.proofs.Common.{◌≡◌, drop}
use Rattle.slots.specs.Told.{Typed}
use Rattle.queue_sound.proofs.Drains.{drains}
use Rattle.queue_sound.proofs.entries.slots_sound.Given as goal

abbrev pub invariant-loop-s : goal.invariant-loop-s
invariant-loop-s l = record {
  first : Typed l.initial.v;
  typed : Typed l.v;
  left : drains l.v (drop l.s-index l.s-items) ≡ drains l.initial.v l.s-items;
}
