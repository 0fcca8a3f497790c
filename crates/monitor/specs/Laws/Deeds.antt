-- A command does what the model does: each by what its part has proved, and all seventeen by one walk over the table. Assumes nothing.
use Rattle.std.specs.Prelude.{ℕ, zero, suc, ◌+◌, ◌-◌, ◌^◌, ◌<◌, ◌≡◌, Bool, true, false, ◌&&◌, List, eqb, leb, ltb, length}
use Rattle.std.proofs.Math.Path.{refl, ap}
use Rattle.std.proofs.Common.{ap₂, subst, ◌∙◌, arith, lt-ltb}
use Rattle.base.specs.Lists.{all}
use Rattle.base.specs.Bytes.{is_bytes, blank}
use Rattle.base.specs.Laws.Tests.{and_i, and_r, by_test, no}
use Rattle.base.specs.Laws.Bytes.{num_bound, is_bytes_drop}
use Rattle.model.specs.Limits.{cabinet}
use Rattle.model.specs.Plans.{invalid_request, Check, check, first_of, Outcome, Plan, fault, done, obey, outcome_in, plan_in}
use Rattle.model.specs.Commands.{Row, row_of, command, issuer, operand, rest, asked, fits, wrong_kind, plan_of, obey_plan, obeyed, formed, allowed}
use Rattle.model.specs.State as model
use Rattle.model.specs.State.{State}
use Rattle.model.specs.Interval as model-interval
use Rattle.model.specs.Queues as model-queues
use Rattle.model.specs.Handlers as model-handlers
use Rattle.model.specs.Laws.Rows.{of_every, ◌▹◌}
use Rattle.model.proofs.Laws.SoundStep.{active_issuer}
use Rattle.interval.specs.Stands.{interval_at, Means, sound_r}
use Rattle.interval.specs.Runs as interval
use Rattle.interval.specs.Laws.Clock.{sound_view}
use Rattle.interval.proofs.Laws.Kept.{turn_typed, remove_typed}
use Rattle.interval.proofs.Laws.Remove.{remove_done}
use Rattle.interval.proofs.Laws.Runs as interval-runs
use Rattle.queues.specs.Model.{queues_of}
use Rattle.queues.specs.Runs as queues
use Rattle.queues.proofs.Laws.Runs as queues-runs
use Rattle.handlers.specs.Set as settings
use Rattle.handlers.specs.Table.{tasks_of, sound_h}
use Rattle.handlers.specs.Laws.Forget.{forget_done}
use Rattle.handlers.proofs.Laws.Kept.{handle_typed, ignore_typed, reset_typed, forget_typed}
use Rattle.handlers.proofs.Laws.Set.{handle_done, ignore_done, reset_done}
use Rattle.handlers.specs.Laws.Every as settings-typed
use Rattle.handlers.specs.declared.Tasks.{Tasks}
use Rattle.handlers.specs.declared.answers.Handled.{Handled}
use Rattle.monitor.specs.declared.Tables.{Tables}
use Rattle.monitor.specs.Requests.{ask_of}
use Rattle.monitor.specs.Store.{store_ask}
use Rattle.monitor.specs.Settings.{sets_by, setting_turn}
use Rattle.monitor.specs.Table.{with_requests, with_tasks, store_of, with_store, without_task, state_at}
use Rattle.monitor.specs.Step.{deed, obeyed_in}
use Rattle.monitor.specs.Laws.Fine.{Typed, Fine, Active}
use Rattle.monitor.specs.Laws.Room.{has_room}

-- what the tables' outcome is, where the model's is m: the same at the clock that follows, and the parts are fine
pub record Follows (o : Outcome Tables) (m : Outcome State) : Type 0 where
  pub clock : ℕ
  pub outcome : outcome_in (state_at clock) o ≡ m
  pub means : Means o.state.parts.requests clock
  pub fine : Fine o.state

-- a part's plan is obeyed in the tables that hold it as it is alone
obey_in : {S T : Type 0} (put : T → S) (i : T) (n : ℕ) (o : Outcome T) → outcome_in put (obey i n o) ≡ obey (put i) n (outcome_in put o)
obey_in put i zero o = refl
obey_in put i (suc n) o = refl

-- what is said, with other requests in the state
abbrev heard : State → interval.Said → model-interval.Interval → Outcome State
heard s x i = record { condition = x.condition; number = x.number; bytes = x.bytes; state = model.with_interval s i }

module _ (c : ℕ) (t : Tables) (m : Means t.parts.requests c) (f : Fine t) where
  -- ---- commands 1 to 8

  requests_in : (a : interval.Ask) → interval.in_range a ≡ true
      → Follows (outcome_in (with_requests t) (interval.turn t.parts.requests a))
      (outcome_in (model.with_interval (state_at c t)) (interval.model_turn (interval_at c t.parts.requests) a))
  requests_in a h =
      let q = t.parts.requests in
      let d = interval-runs.turned c q m f.requests a h in
      record {
        clock = d.clock;
        outcome = ap₂ (heard (state_at c t)) d.says d.stands;
        means = d.means;
        fine = record {
          typed = record { requests = turn_typed q f.typed.requests a h; store = f.typed.store; tasks = f.typed.tasks };
          requests = d.soundly;
          queues = f.queues;
          tasks = f.tasks;
        };
      }

  -- ---- commands 10 to 14

  store_in_lem : (a : queues.Ask) → queues.asked a ≡ true
      → Follows (outcome_in (with_store t) (queues.turn (store_of t) a)) (outcome_in (model.with_queues (state_at c t)) (queues.obeyed (queues.queues_in (store_of t)) a))
  store_in_lem a h =
      let d = queues-runs.turns (store_of t) a (record { kept = f.typed.store; soundly = f.queues }) h in
      record {
        clock = c;
        outcome = ap (outcome_in (model.with_queues (state_at c t))) d.outcome;
        means = m;
        fine = record {
          typed = record { requests = f.typed.requests; store = d.good.kept; tasks = f.typed.tasks };
          requests = f.requests;
          queues = d.good.soundly;
          tasks = f.tasks;
        };
      }

  -- ---- commands 15 to 17

  tasks_in : (r : Handled) (p : Plan (List model-handlers.Task)) → settings.Done t.parts.tasks r p → settings-typed.Typed r.tasks
      → Follows (outcome_in (with_tasks t) (sets_by r)) (outcome_in (model.with_tasks (state_at c t)) (obey (tasks_of t.parts.tasks) (first_of p.checks) p.effect))
  tasks_in r p d y = record {
    clock = c;
    outcome = ap (outcome_in (model.with_tasks (state_at c t))) d.outcome;
    means = m;
    fine = record {
      typed = record { requests = f.typed.requests; store = f.typed.store; tasks = y };
      requests = f.requests;
      queues = f.queues;
      tasks = d.soundly;
    };
  }

  -- ---- a task goes

  pub without_fine : (n : ℕ) → Fine (without_task t n)
  without_fine n =
      record {
        typed = record { requests = remove_typed t.parts.requests f.typed.requests n; store = f.typed.store; tasks = forget_typed t.parts.tasks f.typed.tasks n };
        requests = (remove_done c t.parts.requests n m f.requests).soundly;
        queues = f.queues;
        tasks = (forget_done t.parts.tasks n f.tasks).soundly;
      }

  pub without_means : (n : ℕ) → Means (without_task t n).parts.requests c
  without_means n = (remove_done c t.parts.requests n m f.requests).means

  pub without_stands : (n : ℕ) → state_at c (without_task t n) ≡ model.without_task (state_at c t) n
  without_stands n =
      let q = (remove_done c t.parts.requests n m f.requests).stands in
      let h = (forget_done t.parts.tasks n f.tasks).stands in
      cc

  -- ---- every row of the table

  -- a part's plan, put into the whole
  follow : {T : Type 0} (put : T → State) (i : T) (n : ℕ) (e : Outcome T) (o : Outcome Tables) → Follows o (outcome_in put (obey i n e)) → Follows o (obey (put i) n (outcome_in put e))
  follow put i n e o d = record { clock = d.clock; outcome = d.outcome ∙ obey_in put i n e; means = d.means; fine = d.fine }

  module _ (r : List ℕ) (b : is_bytes r ≡ true) (active : Active (state_at c t)) (may : allowed (state_at c t) r ≡ true) where
    abbrev s : State
    s = state_at c t

    -- the command of that number does what its row plans, where its operands fit and its issuer is of the right kind
    Does : ℕ → Row → Type 0
    Does n w =
        (k : ℕ) → fits w.size k ≡ true → wrong_kind w.who (issuer r) ≡ false
        → Follows (deed n t r) (obey s (first_of (w.plans cabinet s r).checks) (w.plans cabinet s r).effect)

    on_requests : (a : interval.Ask) (p : Plan model-interval.Interval) → interval.in_range a ≡ true
        → interval.model_turn s.interval a ≡ obey s.interval (first_of p.checks) p.effect
        → Follows (outcome_in (with_requests t) (interval.turn t.parts.requests a)) (obey s (first_of p.checks) (outcome_in (model.with_interval s) p.effect))
    on_requests a p h e =
        follow (model.with_interval s) s.interval (first_of p.checks) p.effect _
        (subst (λ x. Follows (outcome_in (with_requests t) (interval.turn t.parts.requests a)) (outcome_in (model.with_interval s) x)) e (requests_in a h))

    on_store : (a : queues.Ask) → queues.asked a ≡ true
        → Follows (outcome_in (with_store t) (queues.turn (store_of t) a))
        (obey s (first_of (queues.plan_of s.queues a).checks) (outcome_in (model.with_queues s) (queues.plan_of s.queues a).effect))
    on_store a h = follow (model.with_queues s) s.queues (first_of (queues.plan_of s.queues a).checks) (queues.plan_of s.queues a).effect _ (store_in_lem a h)

    on_tasks_lem : (h : Handled) (p : Plan (List model-handlers.Task)) → settings.Done t.parts.tasks h p → settings-typed.Typed h.tasks
        → Follows (outcome_in (with_tasks t) (sets_by h)) (obey s (first_of p.checks) (outcome_in (model.with_tasks s) p.effect))
    on_tasks_lem h p d y = follow (model.with_tasks s) s.tasks (first_of p.checks) p.effect _ (tasks_in h p d y)

    -- a number of the record, and its width
    wide : (at n : ℕ) → ltb (operand at n r) (256 ^ n) ≡ true
    wide at n = lt-ltb (operand at n r) (256 ^ n) (num_bound (9 + at) n r b)

    sender : issuer r < 2 ^ 64
    sender = num_bound 1 8 r b

    seat : eqb (issuer r) (blank 8) ≡ false → settings.room t.parts.tasks (issuer r) ≡ true
    seat e =
        has_room s.interval (sound_view t.parts.requests c m f.requests).state t.parts.tasks (issuer r) f.tasks active
        (active_issuer s r may e)

    does : (n : ℕ) → Does n (row_of n)
    unfolding Does deed ask_of store_ask setting_turn
    does =
        of_every Does (λ n k h w. no h)
        ((λ k h w. on_requests (interval.Program (operand 0 4 r)) (model-interval.define_program cabinet s.interval (operand 0 4 r)) (wide 0 4) refl)
        ▹ (λ k h w. on_requests (interval.Terminal (operand 0 4 r)) (model-interval.define_terminal cabinet s.interval (operand 0 4 r)) (wide 0 4) refl)
        ▹ (λ k h w. on_requests (interval.Advance (operand 0 4 r)) (model-interval.advance cabinet s.interval (operand 0 4 r)) (wide 0 4) refl)
        ▹ (λ k h w. on_requests interval.AskTicks (model-interval.ask_ticks s.interval) refl refl)
        ▹ (λ k h w. on_requests interval.Dispatch (model-interval.dispatch s.interval) refl refl)
        ▹ (λ k h w. on_requests (interval.Start (asked r)) (model-interval.start cabinet s.interval (asked r))
        (and_i (and_i (and_i (and_i (wide 0 8) (wide 8 4)) (wide 12 4)) (wide 16 4)) (is_bytes_drop 29 r b)) refl)
        ▹ (λ k h w. on_requests (interval.Cancel (operand 0 8 r)) (model-interval.cancel s.interval (operand 0 8 r)) (wide 0 8) refl)
        ▹ (λ k h w. on_requests (interval.Retrieve (issuer r) (operand 0 1 r)) (model-interval.retrieve s.interval (issuer r) (operand 0 1 r))
        (and_i (lt-ltb (issuer r) (2 ^ 64) sender) (lt-ltb (operand 0 1 r) (2 ^ 64) (omega (arith, num_bound 9 1 r b)))) refl)
        ▹ (λ k h w. record {
          clock = c;
          outcome = ap (λ (x : State). done x 0) (without_stands (issuer r));
          means = without_means (issuer r);
          fine = without_fine (issuer r);
        })
        ▹ (λ k h w. on_store (queues.Append (operand 0 8 r) (rest 8 r)) (and_i (wide 0 8) (is_bytes_drop 17 r b)))
        ▹ (λ k h w. on_store (queues.Next (operand 0 8 r) (operand 8 1 r)) (wide 0 8))
        ▹ (λ k h w. on_store (queues.At (operand 0 8 r) (operand 8 2 r) (operand 10 1 r)) (wide 0 8))
        ▹ (λ k h w. on_store (queues.Rewrite (operand 0 8 r) (operand 8 2 r) (rest 10 r)) (and_i (wide 0 8) (is_bytes_drop 19 r b)))
        ▹ (λ k h w. on_store (queues.Delete (operand 0 8 r)) (wide 0 8))
        ▹ (λ k h w. on_tasks_lem (settings.handle_in t.parts.tasks (issuer r) (operand 0 1 r) (operand 1 2 r)) _
        (handle_done t.parts.tasks (issuer r) (operand 0 1 r) f.tasks (seat w) (operand 1 2 r) (num_bound 10 2 r b))
        (handle_typed t.parts.tasks f.typed.tasks (issuer r) sender (operand 0 1 r) (operand 1 2 r) (num_bound 10 2 r b)))
        ▹ (λ k h w. on_tasks_lem (settings.ignore_in t.parts.tasks (issuer r) (operand 0 1 r)) _
        (ignore_done t.parts.tasks (issuer r) (operand 0 1 r) f.tasks (seat w))
        (ignore_typed t.parts.tasks f.typed.tasks (issuer r) sender (operand 0 1 r)))
        ▹ (λ k h w. on_tasks_lem (settings.reset_in t.parts.tasks (issuer r) (operand 0 1 r)) _
        (reset_done t.parts.tasks (issuer r) (operand 0 1 r) f.tasks (seat w))
        (reset_typed t.parts.tasks f.typed.tasks (issuer r) sender (operand 0 1 r)))
        ▹ tt)

    -- with the kind of the issuer looked at first
    pub obeys_model : formed r ≡ true → Follows (obeyed_in t r) (obeyed cabinet s r)
    unfolding obeyed_in obeyed formed Does
    obeys_model e =
        let w = row_of (command r) in
        by_test (wrong_kind w.who (issuer r)) (λ h. rw h (record { clock = c; outcome = refl; means = m; fine = f }))
        (λ h. rw h (does (command r) (length r - 9) (and_r (leb 9 (length r)) (fits w.size (length r - 9)) e) h))
