-- Queues, none made.
use Rattle.std.specs.Prelude.{◌≡◌, true, List, [], ℕ, replicate}
use Rattle.slots.specs.Bits.{none}
use Rattle.queues.specs.declared.Queues.{Queues}
use Rattle.queues.specs.Model.{queues_of}
use Rattle.queues.specs.Sound.{sound_q}

unfoldable pub fresh : Queues
fresh = record {
  count = 0;
  names = replicate 16 0;
  pointers = replicate 16 0;
  used = none;
  owner = replicate 128 0;
  slot = replicate 128 0;
  len = replicate 128 0;
}

-- sound, and no queue, whatever bytes are lent
pub record Empty (q : Queues) : Type 0 where
  pub nothing : (b : List ℕ) → queues_of q b ≡ []
  pub soundly : sound_q q ≡ true
