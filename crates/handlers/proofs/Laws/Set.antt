-- Handle, ignore and reset are what the model does: a setting is made in the task's row, or in a new one behind the others.
-- Assumes nothing.
use Rattle.std.specs.Prelude.{ℕ, ◌^◌, ◌≤◌, ◌<◌, ◌≡◌, refl, Bool, ◌||◌, ltb, get_or, set}
use Rattle.std.proofs.Math.Path.{sym, ap}
use Rattle.std.proofs.Common.{◌∙◌, arith, length-append}
use Rattle.std.proofs.Math.Bool.{true, false}
use mathlib.Core.List.{List, [], ◌∷◌, ◌++◌, map, map-append}
use Rattle.std.proofs.Math.Dec.{eqb}
use Rattle.std.proofs.Math.ListN.{length, length-take}
use Rattle.std.proofs.Math.Seq.{take-set-lt}
use borrow.Author.Tests.{lt-ltb, le-ltb, ltb-true, ltb-false, eqb-true, eqb-false, le-leb}
use Rattle.base.specs.Choice.{pick}
use Rattle.base.specs.Lists.{any}
use Rattle.base.specs.Laws.Tests.{by_test, and_i, or_false_r, eqb_same}
use Rattle.base.specs.Laws.Keep.{first_at_le, first_at_lt, first_at_none, first_passes, first_none, get_d_first_at}
use Rattle.base.specs.Laws.Maps.{map_swap, map_none, map_set}
use Rattle.base.specs.Laws.Index.{set_by_name}
use Rattle.model.specs.Plans.{invalid_request, check, plan, done}
use Rattle.model.specs.Handlers as model
use Rattle.model.proofs.Laws.SoundTasks.{set_sound}
use Rattle.handlers.specs.declared.Setting.{Setting}
use Rattle.handlers.specs.declared.Setting.TheVariants.{Unset, Ignore, Label}
use Rattle.handlers.specs.declared.Cell.{Cell}
use Rattle.handlers.specs.declared.Task.{Task}
use Rattle.handlers.specs.declared.Tasks.{Tasks}
use Rattle.handlers.specs.Table.{setting_of, task_of, live, tasks_of, sound_h}
use Rattle.handlers.specs.Rows.{named, unset_row, with_setting, place_in, task_in}
use Rattle.handlers.specs.Names.{name_of}
use Rattle.handlers.specs.Set.{room, put_in, set_in, set_to, handle_in, ignore_in, reset_in, Done}
use Rattle.handlers.specs.Laws.Standing.{count_fits, model_sound, sound_of, known_stands, names_once, live_stands}

-- ---- a row, and a list of rows, with a setting made

module _ (c : ℕ) (x : Setting) where
  row_stands : (v : Task) → task_of (with_setting c x v) ≡ model.set_at c (setting_of x) (task_of v)
  row_stands v = rw (map_set (λ (e : Cell). setting_of e.setting) v.cells c (record { setting = x }))

  abbrev change : ℕ → Task → Task
  change n v = pick (eqb v.name n) (with_setting c x v) v

  abbrev changed : ℕ → model.Task → model.Task
  changed n m = pick (eqb m.name n) (model.set_at c (setting_of x) m) m

  change_stands : (n : ℕ) (l : List Task) → map (changed n) (map task_of l) ≡ map task_of (map (change n) l)
  change_stands n l =
      map_swap task_of (change n) (changed n) (λ v. by_test (named n v) (λ e. rw e (sym (row_stands v))) (λ e. rw e)) l

-- ---- a row is put in its place, or behind the others

module _ (t : Tasks) (i : ℕ) (v : Task) where
  put_held : i < length (live t) → tasks_of (put_in t i v) ≡ map task_of (set (live t) i v)
  unfolding tasks_of
  put_held h =
      let k : i < t.count = omega (arith, length-take t.count t.rows) in
      rw (lt-ltb i (length (live t)) h) (ap (map task_of) (take-set-lt t.count t.rows i v k))

  put_new : length (live t) ≤ i → i < 16 → tasks_of (put_in t i v) ≡ map task_of (live t ++ (v ∷ []))
  put_new h k = rw (le-ltb i (length (live t)) h, lt-ltb i 16 k) (live_stands t (live t ++ (v ∷ [])))

  put_fits : t.count ≤ 16 → i ≤ length (live t) → (put_in t i v).count ≤ 16
  put_fits s h =
      by_test (ltb i (length (live t))) (λ e. rw e s)
      (λ e. rw e (by_test (ltb i 16)
      (λ f.
      let b : i < 16 = ltb-true i 16 f in
      let g : length (live t) ≤ i = ltb-false i (length (live t)) e in
      rw f (omega (arith, length-append (live t) (v ∷ []))))
      (λ f. rw f s)))

-- ---- a setting is made

module _ (t : Tasks) (n c : ℕ) (x : Setting) (s : sound_h t ≡ true) where
  -- in the task's row
  held_live : any (named n) (live t) ≡ true → set (live t) (place_in t n) (with_setting c x (task_in t n)) ≡ map (change c x n) (live t)
  held_live h =
      let e : get_or (live t) (place_in t n) (unset_row n) ≡ task_in t n = get_d_first_at (named n) (unset_row n) (live t) in
      let f : (task_in t n).name ≡ n = eqb-true (task_in t n).name n (first_passes (named n) (unset_row n) (live t) h) in
      ap (λ (v : Task). set (live t) (place_in t n) (with_setting c x v)) (sym e)
      ∙ set_by_name name_of (with_setting c x) (live t) (place_in t n) (unset_row n) (names_once t s) (first_at_lt (named n) (live t) h)
      ∙ ap (λ (m : ℕ). map (change c x m) (live t)) (ap name_of e ∙ f)

  set_held : any (named n) (live t) ≡ true → tasks_of (set_in t n c x) ≡ model.set_to (tasks_of t) n c (setting_of x)
  unfolding set_in tasks_of
  set_held h =
      let known : any (λ (m : model.Task). eqb m.name n) (tasks_of t) ≡ true = known_stands t n ∙ h in
      rw known
      (put_held t (place_in t n) (with_setting c x (task_in t n)) (first_at_lt (named n) (live t) h)
      ∙ ap (map task_of) (held_live h) ∙ sym (change_stands c x n (live t)))

  -- in a new one
  set_new : any (named n) (live t) ≡ false → length (live t) < 16 → tasks_of (set_in t n c x) ≡ model.set_to (tasks_of t) n c (setting_of x)
  unfolding set_in tasks_of
  set_new h r =
      let unknown : any (λ (m : model.Task). eqb m.name n) (tasks_of t) ≡ false = known_stands t n ∙ h in
      let p : place_in t n ≡ length (live t) = first_at_none (named n) (live t) h in
      let e : task_in t n ≡ unset_row n = first_none (named n) (unset_row n) (live t) h in
      let v : Task = with_setting c x (unset_row n) in
      rw (unknown, e)
      (put_new t (place_in t n) v (omega arith) (omega arith)
      ∙ map-append task_of (live t) (v ∷ [])
      ∙ rw (map-append (changed c x n) (map task_of (live t)) (model.unset_task n ∷ []), eqb_same n, row_stands c x (unset_row n))
      (ap (λ (l : List model.Task). l ++ (model.set_at c (setting_of x) (model.unset_task n) ∷ []))
      (sym (map_none (λ (m : model.Task). eqb m.name n) (model.set_at c (setting_of x)) (map task_of (live t)) unknown))))

  pub set_stands : room t n ≡ true → tasks_of (set_in t n c x) ≡ model.set_to (tasks_of t) n c (setting_of x)
  set_stands r =
      by_test (any (named n) (live t)) set_held (λ h. set_new h (ltb-true (length (live t)) 16 (rw h at r)))

  set_fits : (set_in t n c x).count ≤ 16
  unfolding set_in
  set_fits = put_fits t (place_in t n) (with_setting c x (task_in t n)) (count_fits t s) (first_at_le (named n) (live t))

  -- all three commands
  set_done : room t n ≡ true → (refused : Bool) → (refused ≡ false → model.sound_setting (setting_of x) ≡ true)
      → Done t (set_to refused t n c x) (plan (check refused invalid_request ∷ []) (done (model.set_to (tasks_of t) n c (setting_of x)) 0))
  set_done r true k = record { outcome = refl; soundly = s }
  set_done r false k = record {
    outcome = ap (λ (l : List model.Task). done l 0) (set_stands r);
    soundly =
        sound_of (set_in t n c x) set_fits
        (ap model.sound_tasks (set_stands r) ∙ set_sound (tasks_of t) n c (setting_of x) (k refl) (model_sound t s));
  }

-- ---- the commands

module _ (t : Tasks) (n c : ℕ) (s : sound_h t ≡ true) (r : room t n ≡ true) where
  pub handle_done : (label : ℕ) → label < 2 ^ 16 → Done t (handle_in t n c label) (model.handle (tasks_of t) n c label)
  unfolding handle_in model.handle
  handle_done label w =
      set_done t n c (Label label) s r (ltb 10 c || eqb label 0)
      (λ e.
      let some = eqb-false label 0 (or_false_r (ltb 10 c) (eqb label 0) e) in
      and_i (le-leb 1 label (omega arith)) (lt-ltb label (2 ^ 16) w))

  pub ignore_done : Done t (ignore_in t n c) (model.ignore (tasks_of t) n c)
  unfolding ignore_in model.ignore
  ignore_done = set_done t n c Ignore s r (ltb 10 c) (λ e. refl)

  pub reset_done : Done t (reset_in t n c) (model.reset (tasks_of t) n c)
  unfolding reset_in model.reset
  reset_done = set_done t n c Unset s r (ltb 10 c) (λ e. refl)
