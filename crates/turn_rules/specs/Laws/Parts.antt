-- What a part has proved of a command, in the tables that hold the part; and a task that goes, from both parts that know it. Assumes nothing.
use Rattle.std.specs.Prelude.{ℕ, zero, suc, ◌≡◌, refl, true, List}
use Rattle.std.proofs.Common.{ap, ◌∙◌}
use Rattle.model.specs.Plans.{first_of, Outcome, Plan, obey, outcome_in, Follows}
use Rattle.model.specs.State as model
use Rattle.model.specs.State.{State}
use Rattle.model.specs.Interval as interval
use Rattle.model.specs.Queues as queues
use Rattle.model.specs.Handlers as handlers
use Rattle.request_rows.specs.Table.{Requests}
use Rattle.request_rows.specs.Stands as requests
use Rattle.request_rows.specs.Stands.{Memory, interval_at}
use Rattle.request_rows.specs.Laws.Remove.{Removed}
use Rattle.queue_rows.specs.Table.{Store}
use Rattle.queue_rows.specs.Model.{queues_of}
use Rattle.queue_rows.specs.Sound.{SoundS}
use Rattle.settings.specs.Table.{Tasks, tasks_of, sound_h}
use Rattle.settings.specs.Forget.{forget_in}
use Rattle.settings.specs.Laws.Forget.{forget_done}
use Rattle.turn_rules.specs.Tables.{Tables, interval_in, with_interval, store_in, with_store, with_settings, known, with_known}
use Rattle.turn_rules.specs.Standing.{state_at}
use Rattle.turn_rules.specs.Laws.Fine.{Fine}

-- what the tables' outcome is, where the model's is m: the same at the clock that follows, and the rules hold
pub record Meets (o : Outcome Tables) (m : Outcome State) : Type 0 where
  pub clock : ℕ
  pub outcome : outcome_in (state_at clock) o ≡ m
  pub fine : Fine clock o.state

-- a part's plan is obeyed in the tables that hold it as it is alone
obey_in : {S T : Type 0} (put : T → S) (i : T) (n : ℕ) (o : Outcome T) → outcome_in put (obey i n o) ≡ obey (put i) n (outcome_in put o)
obey_in put i zero o = refl
obey_in put i (suc n) o = refl

module _ (c : ℕ) (t : Tables) (f : Fine c t) where
  abbrev s : State
  s = state_at c t

  -- ---- a part that follows its plan, in the whole

  pub on_interval_lem : (k : ℕ) (o : Outcome Memory) (p : Plan interval.Interval) → Follows (interval_at k) (requests.Fine k) o (interval_at c (interval_in t)) p
      → Meets (outcome_in (with_interval t) o) (obey (state_at c t) (first_of p.checks) (outcome_in (model.with_interval (state_at c t)) p.effect))
  on_interval_lem k o p d = record {
    clock = k;
    outcome = ap (outcome_in (model.with_interval s)) d.outcome ∙ obey_in (model.with_interval s) s.interval (first_of p.checks) p.effect;
    fine = record { interval = d.soundly; queues = f.queues; settings = f.settings };
  }

  pub on_queues_lem : (o : Outcome Store) (p : Plan (List queues.Queue)) → Follows queues_of SoundS o (queues_of (store_in t)) p
      → Meets (outcome_in (with_store t) o) (obey (state_at c t) (first_of p.checks) (outcome_in (model.with_queues (state_at c t)) p.effect))
  on_queues_lem o p d = record {
    clock = c;
    outcome = ap (outcome_in (model.with_queues s)) d.outcome ∙ obey_in (model.with_queues s) s.queues (first_of p.checks) p.effect;
    fine = record { interval = f.interval; queues = d.soundly; settings = f.settings };
  }

  pub on_settings : (o : Outcome Tasks) (p : Plan (List handlers.Task)) → Follows tasks_of (λ (x : Tasks). sound_h x ≡ true) o (tasks_of t.settings) p
      → Meets (outcome_in (with_settings t) o) (obey (state_at c t) (first_of p.checks) (outcome_in (model.with_tasks (state_at c t)) p.effect))
  on_settings o p d = record {
    clock = c;
    outcome = ap (outcome_in (model.with_tasks s)) d.outcome ∙ obey_in (model.with_tasks s) s.tasks (first_of p.checks) p.effect;
    fine = record { interval = f.interval; queues = f.queues; settings = d.soundly };
  }

  -- ---- a task goes, by whichever way its request is removed

  module _ (n : ℕ) (w : Requests) (d : Removed c (interval_in t) n w) where
    pub without_stands : state_at c (with_known t (known w (forget_in t.settings n))) ≡ model.without_task (state_at c t) n
    without_stands =
        let q = d.0 in
        let h = (forget_done t.settings n f.settings).stands in
        cc

    pub without_fine : Fine c (with_known t (known w (forget_in t.settings n)))
    without_fine = record { interval = d.1; queues = f.queues; settings = (forget_done t.settings n f.settings).soundly }
