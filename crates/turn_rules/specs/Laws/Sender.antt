-- Who may send a record is what the model says: a row is found exactly for the system and for an active task. Assumes nothing.
use Rattle.std.specs.Prelude.{ℕ, true, false, List, eqb}
use Rattle.std.proofs.Math.Path.{◌≡◌}
use Rattle.std.proofs.Common.{sym, ◌∙◌, arith}
use Rattle.base.specs.Bytes.{blank}
use Rattle.base.specs.Laws.Tests.{by_test}
use Rattle.model.specs.Commands.{issuer, allowed}
use Rattle.model.specs.Interval.{active_task}
use Rattle.request_rows.specs.Table.{Requests}
use Rattle.request_rows.specs.Active.{task_in}
use Rattle.request_rows.specs.Stands.{interval_at}
use Rattle.request_rows.specs.Laws.Active.{nobody_stands}
use Rattle.std.specs.Prelude.{Some, None}
use Rattle.turn_rules.specs.Tables.{Tables, interval_in}
use Rattle.turn_rules.specs.Turn.{sender_in}
use Rattle.turn_rules.specs.Standing.{state_at}

-- an issuer that is no system is looked for among the tasks
pub task_sender : (w : Requests) (k : ℕ) → eqb k (blank 8) ≡ false → sender_in w k ≡ task_in w k
unfolding sender_in
task_sender w k e = rw e

module _ (c : ℕ) (t : Tables) where
  pub task_active : (n i : ℕ) → task_in t.requests n ≡ Some i → active_task (interval_at c (interval_in t)) n ≡ true
  task_active n i e =
      by_test (active_task (interval_at c (interval_in t)) n) (λ h. h)
      (λ h.
      let none : task_in t.requests n ≡ None = (nobody_stands c (interval_in t) n).1 h in
      absurd (let z : ◌≡◌ {A = ℕ} 0 1 = cc in omega arith))

  module _ (r : List ℕ) where
    pub at_allowed : (i : ℕ) → sender_in t.requests (issuer r) ≡ Some i → allowed (state_at c t) r ≡ true
    unfolding allowed
    at_allowed i e =
        by_test (eqb (issuer r) (blank 8)) (λ h. rw h)
        (λ h. rw h (task_active (issuer r) i (sym (task_sender t.requests (issuer r) h) ∙ e)))

    pub nobody_allowed : sender_in t.requests (issuer r) ≡ None → allowed (state_at c t) r ≡ false
    unfolding allowed sender_in
    nobody_allowed e =
        by_test (eqb (issuer r) (blank 8))
        (λ h.
        let there : Some 0 ≡ None = rw h at e in
        absurd (let z : ◌≡◌ {A = ℕ} 0 1 = cc in omega arith))
        (λ h. rw h ((nobody_stands c (interval_in t) (issuer r)).0 (rw h at e)))
