-- One record keeps sound tables sound, whatever it is. Assumes nothing.
use Rattle.std.specs.Prelude.{ℕ, ◌≡◌, refl, true, false, not, ◌&&◌, List, eqb}
use Rattle.std.proofs.Common.{arith, sym, ◌∙◌}
use Rattle.std.proofs.lemmas.Bool.{not-true}
use Rattle.base.specs.Lists.{all}
use Rattle.base.specs.Bytes.{blank, is_bytes}
use Rattle.base.specs.Laws.Tests.{no, and_l, and_r, both, and_i, or_elim}
use Rattle.base.specs.Laws.Keep.{all_imp}
use Rattle.base.specs.Laws.Bytes.{num_bound, is_bytes_drop}
use Rattle.model.specs.Limits.{Limits}
use Rattle.model.specs.Plans.{Outcome, first_of}
use Rattle.model.specs.Queues.{Queue, sound_queues}
use Rattle.model.specs.Interval.{Interval, active_task, remove, sound_interval}
use Rattle.model.specs.Handlers
use Rattle.model.specs.Handlers.{Setting, Unset, Ignore, Label, Task, forget, decides, sound_tasks}
use Rattle.model.specs.State.{State, empty_at, with_interval, with_queues, with_tasks, without_task, sound}
use Rattle.model.specs.Commands.{Row, Turn, command, issuer, operand, rest, asked, wrong_kind, row_of, plan_of, obeyed, settled, settle, allowed, step}
use Rattle.model.specs.Laws.Rows.{◌▹◌, of_every}
use Rattle.model.specs.Laws.PlanLaws.{clear_head, obey_keeps}
use Rattle.model.proofs.Laws.Conditions.{settle_is, step_heard, turn_is}
use Rattle.model.proofs.Laws.SoundQueues as queues
use Rattle.model.proofs.Laws.SoundTasks as tasks
use Rattle.model.proofs.Laws.SoundInterval.{idle_sound, ask_sound, program_sound, terminal_sound, remove_sound, cancel_sound}
use Rattle.model.proofs.Laws.SoundStart.{start_sound}
use Rattle.model.proofs.Laws.SoundAdvance.{advance_sound}
use Rattle.model.proofs.Laws.SoundDispatch.{dispatch_sound, retrieve_sound}
use Rattle.model.proofs.Laws.StaysActive.{remove_active, program_active, terminal_active, advance_active, start_active, ask_active, dispatch_active, cancel_active, retrieve_active}

-- ---- the rules of the whole, by name

pub record StateSound (L : Limits) (s : State) : Type 0 where
  pub interval : sound_interval L s.interval ≡ true
  pub queues : sound_queues L s.queues ≡ true
  pub tasks : sound_tasks s.tasks ≡ true
  pub active : all (λ (t : Task). active_task s.interval t.name) s.tasks ≡ true

pub view : (L : Limits) (s : State) → sound L s ≡ true → StateSound L s
unfolding sound
view L s h =
    let p4 = both _ _ h in
    let p3 = both _ _ p4.0 in
    let p2 = both _ _ p3.0 in
    record { interval = p2.0; queues = p2.1; tasks = p3.1; active = p4.1 }

pub unview : (L : Limits) (s : State) → StateSound L s → sound L s ≡ true
unfolding sound
unview L s v = and_i (and_i (and_i v.interval v.queues) v.tasks) v.active

pub empty_sound : (L : Limits) (c : ℕ) → sound L (empty_at c) ≡ true
unfolding sound
empty_sound L c = and_i (and_i (and_i (idle_sound L c) (queues.empty_sound L)) tasks.no_tasks_sound) refl

-- ---- one part changed

module _ (L : Limits) (s : State) (v : StateSound L s) where
  interval_in_lem : (i : Interval) → sound_interval L i ≡ true → ((n : ℕ) → active_task s.interval n ≡ true → active_task i n ≡ true) → sound L (with_interval s i) ≡ true
  interval_in_lem i h keeps =
      unview L (with_interval s i) (record {
        interval = h;
        queues = v.queues;
        tasks = v.tasks;
        active = all_imp (λ (t : Task). active_task s.interval t.name) (λ (t : Task). active_task i t.name) (λ t e. keeps t.name e) s.tasks v.active;
      })

  queues_in_lem : (l : List Queue) → sound_queues L l ≡ true → sound L (with_queues s l) ≡ true
  queues_in_lem l h = unview L (with_queues s l) (record { interval = v.interval; queues = h; tasks = v.tasks; active = v.active })

  tasks_in : (l : List Task) → sound_tasks l ≡ true → all (λ (t : Task). active_task s.interval t.name) l ≡ true → sound L (with_tasks s l) ≡ true
  tasks_in l h a = unview L (with_tasks s l) (record { interval = v.interval; queues = v.queues; tasks = h; active = a })

  -- the task goes, and its settings with it
  still_active : (n : ℕ) (t : Task) → (active_task s.interval t.name && not (eqb t.name n)) ≡ true → active_task (remove s.interval n) t.name ≡ true
  still_active n t e =
      remove_active s.interval n t.name
      (not-true (eqb t.name n) (and_r (active_task s.interval t.name) (not (eqb t.name n)) e))
      (and_l (active_task s.interval t.name) (not (eqb t.name n)) e)

  pub without_sound : (n : ℕ) → sound L (without_task s n) ≡ true
  without_sound n =
      unview L (without_task s n) (record {
        interval = remove_sound L s.interval v.interval n;
        queues = v.queues;
        tasks = tasks.forget_sound s.tasks n v.tasks;
        active =
            all_imp (λ (t : Task). active_task s.interval t.name && not (eqb t.name n)) (λ (t : Task). active_task (remove s.interval n) t.name) (still_active n)
            (forget s.tasks n) (tasks.forget_named s.tasks n (active_task s.interval) v.active);
      })

-- ---- every row of the table

-- the row's effect keeps the tables sound, for an issuer of the right kind who may send it
Keeps : ℕ → Row → Type 0
Keeps n w =
    (L : Limits) (s : State) (r : List ℕ) → StateSound L s → is_bytes r ≡ true → allowed s r ≡ true → wrong_kind w.who (issuer r) ≡ false
    → first_of (w.plans L s r).checks ≡ 0 → sound L (w.plans L s r).effect.state ≡ true

-- an issuer that may send and is no system is an active task
pub active_issuer : (s : State) (r : List ℕ) → allowed s r ≡ true → eqb (issuer r) (blank 8) ≡ false → active_task s.interval (issuer r) ≡ true
unfolding allowed
active_issuer s r a e = or_elim (eqb (issuer r) (blank 8)) (active_task s.interval (issuer r)) a (λ t. no (sym e ∙ t)) (λ t. t)

-- a setting for the issuer
set_in_lem : (L : Limits) (s : State) (r : List ℕ) → StateSound L s → allowed s r ≡ true → eqb (issuer r) (blank 8) ≡ false → (c : ℕ) (x : Setting)
    → sound_tasks (Handlers.set_to s.tasks (issuer r) c x) ≡ true → sound L (with_tasks s (Handlers.set_to s.tasks (issuer r) c x)) ≡ true
set_in_lem L s r v a e c x h =
    tasks_in L s v (Handlers.set_to s.tasks (issuer r) c x) h
    (tasks.set_named s.tasks (issuer r) c x (active_task s.interval) v.active (active_issuer s r a e))

row_sound : (n : ℕ) → Keeps n (row_of n)
unfolding Keeps Handlers.handle Handlers.ignore Handlers.reset
row_sound =
    of_every Keeps (λ n L s r v b a w e. unview L s v)
    ((λ L s r v b a w e. interval_in_lem L s v _ (program_sound L s.interval v.interval (operand 0 4 r) (num_bound 9 4 r b) e) (λ m h. program_active L s.interval (operand 0 4 r) m h e))
    ▹ (λ L s r v b a w e. interval_in_lem L s v _ (terminal_sound L s.interval v.interval (operand 0 4 r) (num_bound 9 4 r b) e) (λ m h. terminal_active L s.interval (operand 0 4 r) m h e))
    ▹ (λ L s r v b a w e. interval_in_lem L s v _ (advance_sound L s.interval v.interval (operand 0 4 r) e) (λ m h. advance_active L s.interval (operand 0 4 r) m h e))
    ▹ (λ L s r v b a w e. interval_in_lem L s v _ (ask_sound L s.interval v.interval e) (λ m h. ask_active s.interval m h e))
    ▹ (λ L s r v b a w e. interval_in_lem L s v _ (dispatch_sound L s.interval v.interval e) (λ m h. dispatch_active s.interval m h e))
    ▹ (λ L s r v b a w e. interval_in_lem L s v _ (start_sound L s.interval v.interval (asked r) (num_bound 9 8 r b) (is_bytes_drop 29 r b) e) (λ m h. start_active L s.interval (asked r) m h e))
    ▹ (λ L s r v b a w e. interval_in_lem L s v _ (cancel_sound L s.interval v.interval (operand 0 8 r) e) (λ m h. cancel_active s.interval (operand 0 8 r) m h e))
    ▹ (λ L s r v b a w e. interval_in_lem L s v _ (retrieve_sound L s.interval v.interval (issuer r) (operand 0 1 r) e) (λ m h. retrieve_active L s.interval v.interval (issuer r) (operand 0 1 r) m h e))
    ▹ (λ L s r v b a w e. without_sound L s v (issuer r))
    ▹ (λ L s r v b a w e. queues_in_lem L s v _ (queues.append_sound L L.slots s.queues (operand 0 8 r) (rest 8 r) (omega arith) (num_bound 9 8 r b) (is_bytes_drop 17 r b) v.queues e))
    ▹ (λ L s r v b a w e. queues_in_lem L s v _ (queues.read_next_sound L s.queues (operand 0 8 r) (operand 8 1 r) v.queues e))
    ▹ (λ L s r v b a w e. queues_in_lem L s v _ (queues.read_at_sound L s.queues (operand 0 8 r) (operand 8 2 r) (operand 10 1 r) v.queues e))
    ▹ (λ L s r v b a w e. queues_in_lem L s v _ (queues.rewrite_sound L s.queues (operand 0 8 r) (operand 8 2 r) (rest 10 r) (is_bytes_drop 19 r b) v.queues e))
    ▹ (λ L s r v b a w e. queues_in_lem L s v _ (queues.delete_sound L s.queues (operand 0 8 r) v.queues e))
    ▹ (λ L s r v b a w e. set_in_lem L s r v a w (operand 0 1 r) (Label (operand 1 2 r)) (tasks.handle_sound s.tasks (issuer r) (operand 0 1 r) (operand 1 2 r) (num_bound 10 2 r b) v.tasks e))
    ▹ (λ L s r v b a w e. set_in_lem L s r v a w (operand 0 1 r) Ignore (tasks.ignore_sound s.tasks (issuer r) (operand 0 1 r) v.tasks e))
    ▹ (λ L s r v b a w e. set_in_lem L s r v a w (operand 0 1 r) Unset (tasks.reset_sound s.tasks (issuer r) (operand 0 1 r) v.tasks e))
    ▹ tt)

-- ---- one record

module _ (L : Limits) (s : State) (r : List ℕ) (v : StateSound L s) (b : is_bytes r ≡ true) where
  pub obeyed_sound : allowed s r ≡ true → sound L (obeyed L s r).state ≡ true
  unfolding obeyed Keeps
  obeyed_sound a =
      obey_keeps (λ (x : State). sound L x ≡ true) s (plan_of (row_of (command r)) L s r) (unview L s v)
      (λ e. let c = clear_head (wrong_kind (row_of (command r)).who (issuer r)) 9 ((row_of (command r)).plans L s r).checks e in
      row_sound (command r) L s r v b a c.0 c.1)

  settled_sound : (o : Outcome State) (n : ℕ) (x : Setting) → sound L o.state ≡ true → sound L (settled o n x).state ≡ true
  settled_sound o n Unset h = without_sound L o.state (view L o.state h) n
  settled_sound o n Ignore h = h
  settled_sound o n (Label l) h = h

  settle_sound : (o : Outcome State) → sound L o.state ≡ true → sound L (settle s (issuer r) o).state ≡ true
  settle_sound o h =
      settle_is (λ (x : Turn). sound L x.state ≡ true) s (issuer r) o (settled_sound o (issuer r) Ignore h)
      (settled_sound o (issuer r) (decides s.tasks (issuer r) o.condition) h)

  turn_sound : sound L (step L s r).state ≡ true
  turn_sound =
      turn_is L s r (λ (x : Turn). sound L x.state ≡ true) (λ e a. rw (step_heard L s r e a) (settle_sound (obeyed L s r) (obeyed_sound a)))
      (unview L s v) (unview L s v)

pub step_sound : (L : Limits) (s : State) (r : List ℕ) → sound L s ≡ true → is_bytes r ≡ true → sound L (step L s r).state ≡ true
step_sound L s r h b = turn_sound L s r (view L s h) b
