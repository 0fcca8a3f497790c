-- `queue_sound::entries::entries_sound` meets its contract. Assumes nothing.
use Rattle.std.proofs.Common.{refl}
use Rattle.queue_sound.specs.Parts.{entries_sound}
use Rattle.queue_sound.proofs.Both.{both_then, both_else}
use Rattle.queue_sound.proofs.entries.entries_sound.Goals as goal

pub returns-then-slots_sound : goal.returns-then-slots_sound
unfolding entries_sound
returns-then-slots_sound c = both_then _ c.slots_sound.ensures c.if-slots_sound.true c.lengths_sound.ensures

pub returns-else-slots_sound : goal.returns-else-slots_sound
unfolding entries_sound
returns-else-slots_sound c = both_else _ _ c.slots_sound.ensures c.if-slots_sound.false refl
