-- Fresh tables stand for the idle state at every clock and are sound; asking the ticks gives the clock's remainder. Assumes nothing.
use Rattle.std.specs.Prelude.{◌≡◌, ℕ, true, [], replicate, refl}
use Rattle.std.proofs.Common.{ap}
use Rattle.model.specs.Limits.{cabinet}
use Rattle.model.specs.Interval as model
use Rattle.model.proofs.Laws.SoundInterval.{idle_sound, ask_sound}
use Rattle.interval.specs.declared.Request.{Request}
use Rattle.interval.specs.declared.Requests.{Requests}
use Rattle.interval.specs.Stands.{interval_at, Means, sound_r, Done}
use Rattle.interval.specs.Rows.{no_row}
use Rattle.interval.specs.Fresh.{fresh_at, Fresh}
use Rattle.interval.specs.Laws.Ties.{small, finish}

-- ---- fresh

fresh_done : (register : ℕ) → Fresh register (fresh_at register)
unfolding fresh_at interval_at sound_r
fresh_done register = record { starts = refl; idle = λ c. refl; soundly = idle_sound cabinet register }

abbrev with : ℕ → Request → Requests
with register q = record {
  register = register;
  pcount = 0;
  programs = replicate 16 0;
  tcount = 0;
  terminals = replicate 8 0;
  count = 0;
  rows = replicate 32 q;
}

pub fresh_both : (register : ℕ) (q : Request) → q ≡ no_row → (with register q ≡ fresh_at register) × Fresh register (with register q)
unfolding fresh_at
fresh_both register q e = (ap (with register) e, rw e (fresh_done register))

-- ---- ask

pub ask_both : (t : Requests)
    → (t.register ≡ t.register) × ((c : ℕ) → Means t c → sound_r t ≡ true → Done c c t t (model.ask_ticks (interval_at c t)) 0 t.register [])
unfolding model.ask_ticks interval_at
ask_both t = (
  refl,
  λ c m s. finish c c t t (model.ask_ticks (interval_at c t)) 0 t.register [] m s
      (ap (λ (n : ℕ). record { condition = 0; number = n; bytes = []; state = interval_at c t }) m)
      (λ h e. ask_sound cabinet (interval_at c t) h e) m (small t s),
)
