-- Fresh words are sound and stand for no queue, whatever they were and whatever bytes are lent. Assumes nothing.
use Rattle.std.specs.Prelude.{◌≡◌, refl, true, List, [], ℕ}
use Rattle.std.proofs.Common.{arith}
use Rattle.std.specs.Int.Count.{ones, ones_in}
use Rattle.queue_rows.specs.Table.{Queues, store}
use Rattle.queue_rows.specs.Model.{queues_of}
use Rattle.queue_rows.specs.Sound.{sound_q}
use Rattle.queue_rows.specs.Fresh.{fresh_of}
use Rattle.queue_rows.specs.Laws.Stands.{held_sound}

fresh_sound : (q : Queues) → sound_q (fresh_of q) ≡ true
unfolding fresh_of ones ones_in
fresh_sound q =
    held_sound (fresh_of q)
    (record {
      laid = record { few = omega arith; room = omega arith; owned = refl; alone = refl; taken = refl; inside = refl; filled = refl };
      unique = refl;
      named = refl;
      pointing = refl;
    })

fresh_none : (q : Queues) (b : List ℕ) → queues_of (store (fresh_of q) b) ≡ []
unfolding fresh_of queues_of
fresh_none q b = refl

pub fresh_stands : (q : Queues) (b : List ℕ) → (sound_q (fresh_of q) ≡ true) × (queues_of (store (fresh_of q) b) ≡ [])
fresh_stands q b = (fresh_sound q, fresh_none q b)
