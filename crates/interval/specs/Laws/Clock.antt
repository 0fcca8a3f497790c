-- One struct at two clocks: what it stands for moves with the clock, and is as sound at one as at the other. Assumes nothing.
use Rattle.std.specs.Prelude.{◌≡◌, ℕ, ◌+◌, ◌-◌, true, map, nat_le, refl}
use Rattle.std.proofs.Common.{ap, ◌∙◌, arith}
use Rattle.std.proofs.Math.Path.{sym}
use Rattle.base.specs.Lists.{all}
use Rattle.base.specs.Laws.Tests.{both, and_i}
use Rattle.base.specs.Laws.Maps.{map-map, map_same}
use Rattle.model.specs.Limits.{cabinet}
use Rattle.model.specs.Interval as model
use Rattle.model.proofs.Laws.Shift.{later_phase, later, shift_interval}
use Rattle.model.proofs.Laws.SoundShift.{interval_shift}
use Rattle.interval.specs.declared.Phase.{Phase}
use Rattle.interval.specs.declared.Phase.TheVariants.{Waiting, Expired, Active}
use Rattle.interval.specs.declared.Request.{Request}
use Rattle.interval.specs.declared.Requests.{Requests}
use Rattle.interval.specs.Circle.{to_go}
use Rattle.interval.specs.Table.{live}
use Rattle.interval.specs.Stands.{phase_at, request_at, interval_at, Means, sound_r}

module _ (c k : ℕ) where
  pub phase_moves : (r : ℕ) (p : Phase) → phase_at (c + k) r p ≡ later_phase k (phase_at c r p)
  phase_moves r (Waiting d) = let e : c + k + to_go d r ≡ c + to_go d r + k = omega arith in ap model.Waiting e
  phase_moves r Expired = refl
  phase_moves r (Active t) = refl

  pub request_moves : (r : ℕ) (q : Request) → request_at (c + k) r q ≡ later k (request_at c r q)
  request_moves r q = rw (phase_moves r q.phase)

  pub interval_moves : (t : Requests) → interval_at (c + k) t ≡ shift_interval k (interval_at c t)
  unfolding interval_at
  interval_moves t =
      let e : map (request_at (c + k) t.register) (live t) ≡ map (later k) (map (request_at c t.register) (live t)) =
      map_same (request_at (c + k) t.register) (λ (q : Request). later k (request_at c t.register q)) (request_moves t.register) (live t)
      ∙ sym (map-map (later k) (request_at c t.register) (live t)) in
      rw e

-- at any clock that the register can mean it is as sound as at the register's own
pub sound_at : (t : Requests) (c : ℕ) → Means t c
    → model.sound_interval cabinet (interval_at c t) ≡ model.sound_interval cabinet (interval_at t.register t)
sound_at t c m =
    let low : t.register + (c - t.register) ≡ c = omega arith in
    ap (λ (n : ℕ). model.sound_interval cabinet (interval_at n t)) (sym low)
    ∙ ap (model.sound_interval cabinet) (interval_moves t.register (c - t.register) t)
    ∙ interval_shift (c - t.register) cabinet (interval_at t.register t)

-- what a sound struct is, part by part, at such a clock
pub record SoundAt (c : ℕ) (t : Requests) : Type 0 where
  pub programs : nat_le t.pcount 16 ≡ true
  pub terminals : nat_le t.tcount 8 ≡ true
  pub count : nat_le t.count 32 ≡ true
  pub lengths : all (λ (q : Request). nat_le q.len 64) (live t) ≡ true
  pub state : model.sound_interval cabinet (interval_at c t) ≡ true

pub sound_view : (t : Requests) (c : ℕ) → Means t c → sound_r t ≡ true → SoundAt c t
unfolding sound_r
sound_view t c m s =
    let p4 = both _ _ s in
    let p3 = both _ _ p4.0 in
    let p2 = both _ _ p3.0 in
    let p1 = both _ _ p2.0 in
    record { programs = p1.0; terminals = p1.1; count = p2.1; lengths = p3.1; state = sound_at t c m ∙ p4.1 }

pub sound_unview : (t : Requests) (c : ℕ) → Means t c → SoundAt c t → sound_r t ≡ true
unfolding sound_r
sound_unview t c m v = and_i (and_i (and_i (and_i v.programs v.terminals) v.count) v.lengths) (sym (sound_at t c m) ∙ v.state)
