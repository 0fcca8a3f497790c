-- Interval control is as sound whatever the bounds of the store are; and sound memory holds 128 requests at most, so that a number of 4 bytes can
-- count them. Assumes nothing.
use Rattle.std.specs.Prelude.{ℕ, ◌%◌, ◌≤◌, ◌≡◌, refl, Bool, ◌&&◌, List, length}
use Rattle.std.proofs.Common.{ap, arith}
use Rattle.base.specs.Lists.{has}
use Rattle.base.specs.Bytes.{is_name}
use Rattle.base.specs.Laws.Keep.{all_same}
use Rattle.model.specs.Limits.{Limits, sized, is_data}
use Rattle.model.specs.Interval.{Phase, Waiting, Expired, Active, Request, Interval, none_or_known, sound_phase, sound_request, sound_interval}
use Rattle.model.proofs.Laws.SoundInterval.{view}
use Rattle.request_rows.specs.Table.{live}
use Rattle.request_rows.specs.Stands.{Memory, limits_of, interval_at, Fine}
use Rattle.request_rows.specs.Laws.Ties.{sound_here}
use Rattle.request_rows.specs.Laws.Standing.{count_at}

module _ (p t r q s q' s' : ℕ) where
  abbrev L : Limits
  L = sized p t r q s

  abbrev M : Limits
  M = sized p t r q' s'

  phase_same : (c : ℕ) (b : List ℕ) (x : Phase) → sound_phase (sized p t r q s) c b x ≡ sound_phase (sized p t r q' s') c b x
  phase_same c b (Waiting d) = refl
  phase_same c b Expired = refl
  phase_same c b (Active taken) = refl

  request_same : (i : Interval) (x : Request) → sound_request (sized p t r q s) i x ≡ sound_request (sized p t r q' s') i x
  request_same i x =
      ap (λ (b : Bool). is_name 8 x.name && has x.program i.programs && none_or_known x.terminal i.terminals && is_data L x.bytes && b)
      (phase_same i.clock x.bytes x.phase)

  pub bounds_same : (i : Interval) → sound_interval (sized p t r q s) i ≡ sound_interval (sized p t r q' s') i
  unfolding sound_interval
  bounds_same i = rw (all_same (sound_request L i) (sound_request M i) (request_same i) i.requests)

-- ---- how many requests

pub few_live : (c : ℕ) (m : Memory) → Fine c m → length (live m.requests) ≤ 128
few_live c m f = omega (arith, (view {L = limits_of m} {i = interval_at c m} (sound_here m c f)).requests.fit, count_at c m)

pub counted : (n : ℕ) → n ≤ 128 → n % 4_294_967_296 ≡ n
counted n h = omega arith
