-- Every sound state of the model within the sizes is what some sound tables of those sizes stand for. Assumes nothing.
use Rattle.std.specs.Prelude.{ℕ, ◌^◌, ◌≤◌, ◌≡◌, refl, Bool, true, not, ◌&&◌, List, map, eqb, ltb, length}
use Rattle.std.proofs.Common.{sym, ap, ap₂, subst, ◌∙◌, arith, eqb-true}
use Rattle.std.proofs.lemmas.List.{length-map}
use Rattle.base.specs.Lists.{all, first}
use Rattle.base.specs.Bytes.{blank}
use Rattle.base.specs.Laws.Tests.{and_l, and_r}
use Rattle.base.specs.Laws.Keep.{all_imp, all_first, first_passes}
use Rattle.base.specs.Laws.Counting.{pigeon}
use Rattle.model.specs.Limits.{Limits}
use Rattle.model.specs.Interval.{Request, Interval, active, active_task, sound_request, sound_interval, no_request}
use Rattle.model.specs.Queues.{Queue}
use Rattle.model.specs.Handlers.{Task}
use Rattle.model.specs.State.{State, sound}
use Rattle.model.proofs.Laws.SoundInterval.{view, view_request}
use Rattle.model.proofs.Laws.SoundStep as model
use Rattle.model.proofs.Laws.SoundTasks.{view_tasks}
use Rattle.request_rows.specs.Stands.{Means}
use Rattle.request_rows.specs.Laws.Made.{memory_for}
use Rattle.request_rows.specs.Laws.Every as requests
use Rattle.queue_rows.specs.Laws.Every as queues
use Rattle.settings.specs.Laws.Every as settings
use Rattle.turn_rules.specs.Tables.{Tables, tables, interval_in}
use Rattle.turn_rules.specs.Standing.{state_at, sound_t, Typed, Sizes, limits, Fit, Sized}
use Rattle.turn_rules.specs.Laws.Fine.{Fine, Active, from_rules}
use Rattle.turn_rules.specs.Laws.Room.{actives, few_active, within_actives}
use Rattle.turn_rules.specs.Laws.Sizes.{sized_roomy}

-- the name of an active task has 8 bytes
active_wide : (L : Limits) (i : Interval) → sound_interval L i ≡ true → (n : ℕ) → active_task i n ≡ true → ltb n (2 ^ 64) ≡ true
active_wide L i h n e =
    let test : Request → Bool = λ (q : Request). active q && eqb q.name n in
    let q = first test no_request i.requests in
    let same : q.name ≡ n = eqb-true q.name n (and_r (active q) (eqb q.name n) (first_passes test no_request i.requests e)) in
    let named = (view_request L i q (all_first test (sound_request L i) no_request i.requests (view {L = L} {i = i} h).requests.sound e)).named in
    subst (λ (k : ℕ). ltb k (2 ^ 64) ≡ true) same (and_l (ltb q.name (2 ^ 64)) (not (eqb q.name (blank 8))) named)

abbrev pub tables_for : Sizes → State → Tables
tables_for z s =
    let m = memory_for z.programs z.terminals z.requests s.interval in
    tables m.programs m.terminals m.requests m.area (queues.table_of z.queues z.slots s.queues) (queues.bytes_for z.slots s.queues)
    (settings.table_of z.programs s.tasks)

abbrev state : Interval → List Queue → List Task → State
state i q l = record { interval = i; queues = q; tasks = l }

module _ (z : Sizes) (f : Fit z) (s : State) (h : sound (limits z) s ≡ true) where
  abbrev t : Tables
  t = tables_for z s

  v : model.StateSound (limits z) s
  v = model.view (limits z) s h

  few_tasks : length s.tasks ≤ z.programs
  few_tasks =
      omega (
        arith,
        length-map s.tasks (λ (m : Task). m.name),
        pigeon (map (λ (m : Task). m.name) s.tasks) (actives s.interval) (view_tasks s.tasks v.tasks).unique (within_actives s.interval s.tasks v.active),
        few_active (limits z) s.interval v.interval,
      )

  wide_names_lem : all (λ (m : Task). ltb m.name (2 ^ 64)) s.tasks ≡ true
  wide_names_lem =
      all_imp (λ (m : Task). active_task s.interval m.name) (λ (m : Task). ltb m.name (2 ^ 64))
      (λ m e. active_wide (limits z) s.interval v.interval m.name e) s.tasks v.active

  memory : requests.Holds z.programs z.terminals z.requests s.interval (memory_for z.programs z.terminals z.requests s.interval)
  memory =
      requests.every z.programs z.terminals z.requests z.queues z.slots (omega (arith, f.programs)) (omega (arith, f.terminals)) (omega (arith, f.requests))
      s.interval v.interval

  store : queues.Every z.queues z.slots s.queues
  store = queues.every z.programs z.terminals z.requests z.queues z.slots s.queues v.queues f.slots (omega (arith, f.queues))

  pub every_typed : Typed (tables_for z s)
  every_typed =
      let y = settings.every_typed z.programs s.tasks v.tasks few_tasks (omega (arith, f.programs)) wide_names_lem in
      record {
        memory = memory.typed;
        fits = store.fits;
        store = store.typed;
        settings = record { counted = y.counted; rows = refl; each = y.each; past = refl; rest = y.rest };
        rows = omega (arith, y.rows, f.programs);
      }

  pub every_sized : Sized z (tables_for z s)
  every_sized =
      let y = settings.every_typed z.programs s.tasks v.tasks few_tasks (omega (arith, f.programs)) wide_names_lem in
      record {
        programs = memory.programs_size;
        terminals = memory.terminals_size;
        register = memory.register_size;
        requests = memory.rows_size;
        requests_past = ap length memory.no_past;
        area = omega (arith, memory.area_size);
        queues = store.rows_are;
        slots = store.slots_are;
        queues_past = ap length store.past_none;
        items = store.bytes_are;
        settings = y.rows;
        settings_past = refl;
      }

  every_fine : Fine s.interval.clock t
  every_fine = record { interval = memory.fine; queues = store.sound; settings = settings.every_sound z.programs s.tasks v.tasks few_tasks }

  pub every_means : Means (interval_in (tables_for z s)) s.interval.clock
  every_means = memory.fine.means

  pub every_stands : state_at s.interval.clock (tables_for z s) ≡ s
  every_stands =
      let x = state_at s.interval.clock t in
      ap (λ (i : Interval). state i x.queues x.tasks) memory.stands
      ∙ ap₂ (state s.interval) store.stands (settings.every_stands z.programs s.tasks v.tasks)

  pub every_sound : sound_t (tables_for z s) ≡ true
  every_sound =
      from_rules s.interval.clock t (record { fine = every_fine; active = subst Active (sym every_stands) v.active; roomy = sized_roomy z t every_sized })
