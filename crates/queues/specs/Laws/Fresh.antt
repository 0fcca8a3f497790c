-- Fresh queues are none, sound, and typed. Assumes nothing.
use Rattle.std.specs.Prelude.{◌≡◌, refl, ℕ, zero, suc, ◌<◌, get_or, replicate}
use Rattle.std.proofs.Common.{sym, subst, arith}
use Rattle.std.specs.Int.Count.{ones, ones_in}
use Rattle.std.proofs.lemmas.List.{length-replicate}
use Rattle.slots.proofs.Laws.Slots.{none_typed}
use Rattle.queues.specs.declared.Queues.{Queues}
use Rattle.queues.specs.Model.{queues_of}
use Rattle.queues.specs.Sound.{sound_q}
use Rattle.queues.specs.Fresh.{fresh, Empty}
use Rattle.queues.specs.Laws.Typed.{Typed}

pub fresh_empty : Empty fresh
unfolding fresh queues_of sound_q ones ones_in
fresh_empty = record { nothing = λ b. refl; soundly = refl }

pub fresh_both : (r : Queues) → r ≡ fresh → (r ≡ fresh) × Empty r
fresh_both r e = (e, subst (λ (x : Queues). Empty x) (sym e) fresh_empty)

pub zeros_below : (bound : ℕ) → 0 < bound → (n i : ℕ) → get_or (replicate n 0) i 0 < bound
zeros_below bound h zero i = h
zeros_below bound h (suc n) zero = h
zeros_below bound h (suc n) (suc i) = zeros_below bound h n i

pub fresh_typed : Typed fresh
unfolding fresh
fresh_typed = record {
  names_long = length-replicate {A = ℕ} 16 0;
  pointers_long = length-replicate {A = ℕ} 16 0;
  owner_long = length-replicate {A = ℕ} 128 0;
  slot_long = length-replicate {A = ℕ} 128 0;
  len_long = length-replicate {A = ℕ} 128 0;
  words = none_typed;
  name_fits = zeros_below _ (omega arith) 16;
  pointer_fits = zeros_below _ (omega arith) 16;
  owner_fits = zeros_below _ (omega arith) 128;
  slot_fits = zeros_below _ (omega arith) 128;
  len_fits = zeros_below _ (omega arith) 128;
}
