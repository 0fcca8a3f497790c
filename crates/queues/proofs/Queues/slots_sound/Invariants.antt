use Rattle.std.specs.Prelude.{◌≡◌, drop}
use Rattle.slots.specs.Told.{Typed}
use Rattle.queues.proofs.SoundLaws.{drains}
use Rattle.queues.proofs.Queues.slots_sound.Given as goal

abbrev pub invariant-loop-slot : goal.invariant-loop-slot
invariant-loop-slot l =
    record { typed : Typed l.left; same : drains l.left (drop l.slot-index l.slot-items) ≡ drains l.self.used l.slot-items }
