-- Asking the ticks is what the model does: the register is the clock on the circle. Assumes nothing.
use Rattle.std.specs.Prelude.{ℕ}
use Rattle.std.proofs.Common.{ap}
use Rattle.model.specs.Plans.{done, outcome_in, Follows}
use Rattle.model.specs.Interval as model
use Rattle.request_rows.specs.Advance.{ask_in}
use Rattle.request_rows.specs.Stands.{Memory, with_requests, interval_at, Fine}

pub ask_follows : (c : ℕ) (m : Memory) → Fine c m
    → Follows (interval_at c) (Fine c) (outcome_in (with_requests m) (ask_in m.requests)) (interval_at c m) (model.ask_ticks (interval_at c m))
unfolding ask_in model.ask_ticks interval_at
ask_follows c m f = record { outcome = ap (done (interval_at c m)) f.means; soundly = f }
