-- Every sound state of the model is what some sound tables stand for. Assumes nothing.
use Rattle.std.specs.Prelude.{ℕ, ◌^◌, ◌≤◌, ◌≡◌, Bool, true, not, ◌&&◌, List, map, eqb, ltb, length}
use Rattle.std.proofs.Common.{sym, ap, ap₂, subst, ◌∙◌, arith, eqb-true}
use Rattle.std.proofs.lemmas.List.{length-map}
use Rattle.base.specs.Lists.{all, first}
use Rattle.base.specs.Bytes.{blank}
use Rattle.base.specs.Laws.Tests.{and_l, and_r}
use Rattle.base.specs.Laws.Keep.{all_imp, all_first, first_passes}
use Rattle.base.specs.Laws.Counting.{pigeon}
use Rattle.model.specs.Limits.{cabinet}
use Rattle.model.specs.Interval.{Request, Interval, active, active_task, sound_request, sound_interval, no_request}
use Rattle.model.specs.Handlers.{Task}
use Rattle.model.specs.Queues.{Queue}
use Rattle.model.specs.State.{State, sound}
use Rattle.model.proofs.Laws.SoundInterval.{view, view_request}
use Rattle.model.proofs.Laws.SoundStep as model
use Rattle.model.proofs.Laws.SoundTasks.{view_tasks}
use Rattle.interval.specs.Laws.Every as requests
use Rattle.interval.specs.Stands.{Means}
use Rattle.queues.proofs.Laws.Every as queues
use Rattle.handlers.specs.Laws.Every as settings
use Rattle.monitor.specs.declared.Tables.{Tables}
use Rattle.monitor.specs.Table.{tables, state_at, sound_p}
use Rattle.monitor.specs.Laws.Fine.{Typed, Fine, Active, fine_sound}
use Rattle.monitor.specs.Laws.Room.{actives, few_active, within_actives}

abbrev pub tables_for : State → Tables
tables_for s = tables (record { requests = requests.table_of s.interval; queues = queues.table_of s.queues; tasks = settings.table_of s.tasks }) (queues.bytes_for s.queues)

-- the name of an active task has 8 bytes
active_wide : (i : Interval) → sound_interval cabinet i ≡ true → (n : ℕ) → active_task i n ≡ true → ltb n (2 ^ 64) ≡ true
active_wide i h n e =
    let test : Request → Bool = λ (q : Request). active q && eqb q.name n in
    let q = first test no_request i.requests in
    let same : q.name ≡ n = eqb-true q.name n (and_r (active q) (eqb q.name n) (first_passes test no_request i.requests e)) in
    let named = (view_request cabinet i q (all_first test (sound_request cabinet i) no_request i.requests (view h).requests.sound e)).named in
    subst (λ (k : ℕ). ltb k (2 ^ 64) ≡ true) same (and_l (ltb q.name (2 ^ 64)) (not (eqb q.name (blank 8))) named)

abbrev state : Interval → List Queue → List Task → State
state i q t = record { interval = i; queues = q; tasks = t }

module _ (s : State) (h : sound cabinet s ≡ true) where
  v : model.StateSound cabinet s
  v = model.view cabinet s h

  few_tasks : length s.tasks ≤ 16
  few_tasks =
      omega (
        arith,
        length-map s.tasks (λ (m : Task). m.name),
        pigeon (map (λ (m : Task). m.name) s.tasks) (actives s.interval) (view_tasks s.tasks v.tasks).unique (within_actives s.interval s.tasks v.active),
        few_active s.interval v.interval,
      )

  wide_names_lem : all (λ (m : Task). ltb m.name (2 ^ 64)) s.tasks ≡ true
  wide_names_lem =
      all_imp (λ (m : Task). active_task s.interval m.name) (λ (m : Task). ltb m.name (2 ^ 64)) (λ m e. active_wide s.interval v.interval m.name e) s.tasks v.active

  pub every_typed : Typed (tables_for s)
  every_typed = record {
    requests = requests.every_typed s.interval v.interval;
    store = (queues.every s.queues v.queues).good.kept;
    tasks = settings.every_typed s.tasks few_tasks v.tasks wide_names_lem;
  }

  every_fine : Fine (tables_for s)
  every_fine = record {
    typed = every_typed;
    requests = requests.every_sound s.interval v.interval;
    queues = (queues.every s.queues v.queues).good.soundly;
    tasks = settings.every_sound s.tasks few_tasks v.tasks;
  }

  pub every_means : Means (tables_for s).parts.requests s.interval.clock
  every_means = requests.every_means s.interval

  pub every_stands : state_at s.interval.clock (tables_for s) ≡ s
  every_stands =
      let x = state_at s.interval.clock (tables_for s) in
      ap (λ (i : Interval). state i x.queues x.tasks) (requests.every_stands s.interval v.interval)
      ∙ ap₂ (state s.interval) (queues.every s.queues v.queues).stands (settings.every_stands s.tasks)

  pub every_sound : sound_p (tables_for s).parts ≡ true
  every_sound = fine_sound s.interval.clock (tables_for s) every_fine (subst Active (sym every_stands) v.active)
