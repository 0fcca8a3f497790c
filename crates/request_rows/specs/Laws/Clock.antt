-- One memory at two clocks: what it stands for moves with the clock, and is as sound at one as at the other. Assumes nothing.
use Prim.Native.Nat.{ℕ, ◌+◌, ◌-◌}
use Rattle.std.specs.Prelude.{◌≡◌, refl}
use Rattle.std.proofs.Common.{ap, ◌∙◌, arith}
use Rattle.std.proofs.Math.Path.{sym}
use mathlib.Core.List.{List, map}
use Rattle.base.specs.Laws.Maps.{map-map, map_same}
use Rattle.model.specs.Limits.{Limits}
use Rattle.model.specs.Interval as model
use Rattle.model.proofs.Laws.Shift.{later_phase, later, shift_interval}
use Rattle.model.proofs.Laws.SoundShift.{interval_shift}
use Rattle.request_rows.specs.declared.Phase.{Phase}
use Rattle.request_rows.specs.declared.Phase.TheVariants.{Waiting, Expired, Active}
use Rattle.request_rows.specs.Circle.{to_go}
use Rattle.request_rows.specs.Rows.{Row, phase_of}
use Rattle.request_rows.specs.Table.{register_of, live}
use Rattle.request_rows.specs.Stands.{Memory, phase_at, request_at, interval_at, Means}

module _ (c k : ℕ) where
  pub phase_moves : (r : ℕ) (p : Phase) → phase_at (c + k) r p ≡ later_phase k (phase_at c r p)
  phase_moves r (Waiting d) = let e : c + k + to_go d r ≡ c + to_go d r + k = omega arith in ap model.Waiting e
  phase_moves r Expired = refl
  phase_moves r (Active t) = refl

  pub request_moves : (r : ℕ) (area : List ℕ) (q : Row) → request_at (c + k) r area q ≡ later k (request_at c r area q)
  request_moves r area q = rw (phase_moves r (phase_of q.phase))

  pub interval_moves : (m : Memory) → interval_at (c + k) m ≡ shift_interval k (interval_at c m)
  unfolding interval_at
  interval_moves m =
      let r : ℕ = register_of m.requests in
      let e : map (request_at (c + k) (register_of m.requests) m.area) (live m.requests)
      ≡ map (later k) (map (request_at c (register_of m.requests) m.area) (live m.requests)) =
      map_same (request_at (c + k) r m.area) (λ (q : Row). later k (request_at c r m.area q)) (request_moves r m.area) (live m.requests)
      ∙ sym (map-map (later k) (request_at c r m.area) (live m.requests)) in
      rw e

-- at any clock that the register can mean it is as sound as at the register's own
pub sound_at : (L : Limits) (m : Memory) (c : ℕ) → Means m c
    → model.sound_interval L (interval_at c m) ≡ model.sound_interval L (interval_at (register_of m.requests) m)
sound_at L m c e =
    let r : ℕ = register_of m.requests in
    let low : register_of m.requests + (c - register_of m.requests) ≡ c = omega arith in
    ap (λ (n : ℕ). model.sound_interval L (interval_at n m)) (sym low)
    ∙ ap (model.sound_interval L) (interval_moves r (c - r) m)
    ∙ interval_shift (c - r) L (interval_at r m)
