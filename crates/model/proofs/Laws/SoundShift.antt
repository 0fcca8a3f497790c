-- Tables moved on by k ticks are as sound as they were. Assumes nothing.
use Rattle.std.specs.Prelude.{ℕ, ◌+◌, ◌≡◌, refl, Bool, not, ◌&&◌, List, map, eqb}
use Rattle.std.proofs.Common.{arith, ap, ◌∙◌}
use Rattle.std.proofs.lemmas.Simd.{map-map}
use Rattle.std.proofs.lemmas.List.{length-map}
use Rattle.base.specs.Lists.{keep}
use Rattle.base.specs.Bytes.{blank}
use Rattle.base.specs.Laws.Tests.{leb_add, ltb_add}
use Rattle.base.specs.Laws.Keep.{all_same}
use Rattle.base.specs.Laws.Maps.{all_map, keep_map}
use Rattle.model.specs.Limits.{Limits}
use Rattle.model.specs.Interval.{Phase, Waiting, Expired, Active, Request, Interval, active, active_task, sound_phase, sound_request, running, held, sound_interval}
use Rattle.model.specs.Handlers.{Task}
use Rattle.model.specs.State.{State, sound}
use Rattle.model.proofs.Laws.SoundInterval.{holder}
use Rattle.model.proofs.Laws.Shift.{later_phase, later, shift_interval, shift, active_later, task_shift}

module _ (k : ℕ) (L : Limits) (i : Interval) where
  phase_shift : (b : List ℕ) (p : Phase) → sound_phase L (i.clock + k) b (later_phase k p) ≡ sound_phase L i.clock b p
  phase_shift b (Waiting d) =
      let e : i.clock + k + L.interval ≡ i.clock + L.interval + k = omega arith in
      cc (ltb_add k i.clock d, leb_add k d (i.clock + L.interval), e)
  phase_shift b Expired = refl
  phase_shift b (Active t) = refl

  request_shift : (q : Request) → sound_request L (shift_interval k i) (later k q) ≡ sound_request L i q
  request_shift q = rw (phase_shift q.bytes q.phase)

  names_shift : map (λ (q : Request). q.name) (map (later k) i.requests) ≡ map (λ (q : Request). q.name) i.requests
  names_shift = map-map (λ (q : Request). q.name) (later k) i.requests

  running_shift : running (map (later k) i.requests) ≡ running i.requests
  running_shift =
      ap (map (λ (q : Request). q.program)) (keep_map (later k) active active (λ q. active_later k q.phase) i.requests)
      ∙ map-map (λ (q : Request). q.program) (later k) (keep active i.requests)

  held_shift : held (map (later k) i.requests) ≡ held i.requests
  held_shift =
      ap (map (λ (q : Request). q.terminal)) (keep_map (later k) holder holder (λ q. ap (λ (b : Bool). b && not (eqb q.terminal (blank 4))) (active_later k q.phase)) i.requests)
      ∙ map-map (λ (q : Request). q.terminal) (later k) (keep holder i.requests)

  pub interval_shift : sound_interval L (shift_interval k i) ≡ sound_interval L i
  unfolding sound_interval
  interval_shift =
      rw (length-map i.requests (later k), names_shift, all_map (later k) (sound_request L i) (sound_request L (shift_interval k i)) request_shift i.requests, running_shift, held_shift)

pub sound_shift : (k : ℕ) (L : Limits) (s : State) → sound L (shift k s) ≡ sound L s
unfolding sound
sound_shift k L s =
    rw (interval_shift k L s.interval, all_same (λ (t : Task). active_task (shift_interval k s.interval) t.name) (λ (t : Task). active_task s.interval t.name) (λ t. task_shift k s.interval t.name) s.tasks)
