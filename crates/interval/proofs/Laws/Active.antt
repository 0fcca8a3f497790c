-- Who is an active task is what the model says, at any clock. Assumes nothing.
use Rattle.std.specs.Prelude.{◌≡◌, ℕ, Bool}
use Rattle.std.proofs.Common.{sym, ◌∙◌}
use Rattle.base.specs.Lists.{any}
use Rattle.model.specs.Interval as model
use Rattle.interval.specs.declared.Requests.{Requests}
use Rattle.interval.specs.Table.{live}
use Rattle.interval.specs.Stands.{interval_at}
use Rattle.interval.specs.Active.{task, active_in}
use Rattle.interval.proofs.Laws.Standing.{task_at}

-- both clauses
pub active_both : (t : Requests) (n : ℕ) (r : Bool) → r ≡ any (task n) (live t)
    → (r ≡ active_in t n) × ((c : ℕ) → r ≡ model.active_task (interval_at c t) n)
unfolding active_in
active_both t n r e = (e, λ c. e ∙ sym (task_at c t n))
