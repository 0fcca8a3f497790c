-- Handle, ignore and reset are what the model does: a setting is made in the task's row, or in a new one behind the others.
-- Assumes nothing.
use Rattle.std.specs.Prelude.{ℕ, ◌^◌, ◌≤◌, ◌<◌, ◌≡◌, refl, Bool, ◌||◌, leb, ltb, get_or, set}
use Rattle.std.proofs.Math.Path.{sym, ap}
use Rattle.std.proofs.Common.{◌∙◌, arith, length-append, length-set}
use Rattle.std.proofs.Math.Bool.{true, false}
use mathlib.Core.List.{List, [], ◌∷◌, ◌++◌, map, map-append}
use Rattle.std.proofs.Math.Dec.{eqb}
use Rattle.std.proofs.Math.ListN.{length, length-take}
use Rattle.std.proofs.Math.Seq.{take-set-lt}
use borrow.Author.Tests.{lt-ltb, le-ltb, ltb-true, leb-true, le-leb, eqb-true, eqb-false, ne_eqb}
use Rattle.base.specs.Choice.{pick}
use Rattle.base.specs.Lists.{any}
use Rattle.base.specs.Laws.Tests.{by_test, and_l, and_r, and_i, or_false_r, eqb_same, pick_elim}
use Rattle.base.specs.Laws.Keep.{first_at_lt, first_at_none, first_passes, first_none, get_d_first_at}
use Rattle.base.specs.Laws.Maps.{map_swap, map_none, map_set}
use Rattle.base.specs.Laws.Index.{set_by_name}
use Rattle.base.specs.Laws.Over.{length_over}
use Rattle.model.specs.Plans.{invalid_request, check, plan, done, Follows}
use Rattle.model.specs.Handlers as model
use Rattle.model.proofs.Laws.SoundTasks.{set_sound}
use Rattle.settings.specs.declared.Setting.{Setting}
use Rattle.settings.specs.declared.Setting.TheVariants.{Unset, Ignore, Label}
use Rattle.settings.specs.Rows.{Line, read_setting, setting_word, name_of, named, unset_line, with_setting}
use Rattle.settings.specs.Table.{Tasks, rows_in, live, place_in, line_in, setting_of, meant, task_of, tasks_of, Sound}
use Rattle.settings.specs.Set.{room, put_in, set_in, set_to, handle_in, ignore_in, reset_in}
use Rattle.settings.specs.Laws.Standing.{count_fits, model_sound, sound_of, known_stands, names_once, live_stands}

-- ---- a setting that is stored is read again

pub word_read : (x : Setting) → model.sound_setting (setting_of x) ≡ true → meant (setting_word x) ≡ setting_of x
unfolding read_setting
word_read Unset h = refl
word_read Ignore h = refl
word_read (Label n) h =
    let some : 1 ≤ n = leb-true 1 n (and_l (leb 1 n) (ltb n (2 ^ 16)) h) in
    rw (ne_eqb n 0 (λ e. omega arith), and_r (leb 1 n) (ltb n (2 ^ 16)) h)

-- ---- a row, and a list of rows, with a setting made

abbrev change : ℕ → Setting → ℕ → Line → Line
change c x n v = pick (eqb v.name n) (with_setting c x v) v

abbrev changed : ℕ → Setting → ℕ → model.Task → model.Task
changed c x n m = pick (eqb m.name n) (model.set_at c (setting_of x) m) m

module _ (c : ℕ) (x : Setting) (k : model.sound_setting (setting_of x) ≡ true) where
  row_stands : (v : Line) → task_of (with_setting c x v) ≡ model.set_at c (setting_of x) (task_of v)
  row_stands v = rw (map_set meant v.cells c (setting_word x), word_read x k)

  change_stands : (n : ℕ) (l : List Line) → map (changed c x n) (map task_of l) ≡ map task_of (map (change c x n) l)
  change_stands n l =
      map_swap task_of (change c x n) (changed c x n) (λ v. by_test (named n v) (λ e. rw e (sym (row_stands v))) (λ e. rw e)) l

-- ---- a row is put in its place, or behind the others

module _ (t : Tasks) (i : ℕ) (v : Line) where
  put_held : i < length (live t) → tasks_of (put_in t i v) ≡ map task_of (set (live t) i v)
  unfolding tasks_of
  put_held h =
      let k : i < t.count = omega (arith, length-take t.count t.rows) in
      rw (lt-ltb i (length (live t)) h) (ap (map task_of) (take-set-lt t.count t.rows i v k))

  put_new : length (live t) ≤ i → length (live t) < rows_in t → tasks_of (put_in t i v) ≡ map task_of (live t ++ (v ∷ []))
  put_new h k = rw (le-ltb i (length (live t)) h, lt-ltb (length (live t)) (rows_in t) k) (live_stands t (live t ++ (v ∷ [])))

  -- one more fits where there is room
  pub more_fits : ltb (length (live t)) (rows_in t) ≡ true → length (live t ++ (v ∷ [])) ≤ rows_in t
  more_fits e = omega (arith, length-append (live t) (v ∷ []), ltb-true (length (live t)) (rows_in t) e)

  pub put_rows : rows_in (put_in t i v) ≡ rows_in t
  put_rows =
      pick_elim (λ (r : Tasks). rows_in r ≡ rows_in t) (ltb i (length (live t))) _ _ (λ _. length-set t.rows i v)
      (λ _. pick_elim (λ (r : Tasks). rows_in r ≡ rows_in t) (ltb (length (live t)) (rows_in t)) _ _
      (λ e. length_over (live t ++ (v ∷ [])) t.rows (more_fits e)) (λ _. refl))

  put_count : t.count ≤ rows_in t → (put_in t i v).count ≤ rows_in t
  put_count s =
      pick_elim (λ (r : Tasks). r.count ≤ rows_in t) (ltb i (length (live t))) _ _ (λ _. s)
      (λ _. pick_elim (λ (r : Tasks). r.count ≤ rows_in t) (ltb (length (live t)) (rows_in t)) _ _ more_fits (λ _. s))

-- ---- a setting is made

module _ (t : Tasks) (n c : ℕ) (x : Setting) (s : Sound t) where
  -- in the task's row
  held_live : any (named n) (live t) ≡ true → set (live t) (place_in t n) (with_setting c x (line_in t n)) ≡ map (change c x n) (live t)
  held_live h =
      let e : get_or (live t) (place_in t n) (unset_line n) ≡ line_in t n = get_d_first_at (named n) (unset_line n) (live t) in
      let f : (line_in t n).name ≡ n = eqb-true (line_in t n).name n (first_passes (named n) (unset_line n) (live t) h) in
      ap (λ (v : Line). set (live t) (place_in t n) (with_setting c x v)) (sym e)
      ∙ set_by_name name_of (with_setting c x) (live t) (place_in t n) (unset_line n) (names_once t s) (first_at_lt (named n) (live t) h)
      ∙ ap (λ (m : ℕ). map (change c x m) (live t)) (ap name_of e ∙ f)

  set_fits : (set_in t n c x).count ≤ rows_in (set_in t n c x)
  unfolding set_in
  set_fits =
      let v = with_setting c x (line_in t n) in
      rw (put_rows t (place_in t n) v) (put_count t (place_in t n) v (count_fits t s))

  module _ (k : model.sound_setting (setting_of x) ≡ true) where
    set_held : any (named n) (live t) ≡ true → tasks_of (set_in t n c x) ≡ model.set_to (tasks_of t) n c (setting_of x)
    unfolding set_in tasks_of
    set_held h =
        let known : any (λ (m : model.Task). eqb m.name n) (tasks_of t) ≡ true = known_stands t n ∙ h in
        rw known
        (put_held t (place_in t n) (with_setting c x (line_in t n)) (first_at_lt (named n) (live t) h)
        ∙ ap (map task_of) (held_live h) ∙ sym (change_stands c x k n (live t)))

    -- in a new one
    set_new : any (named n) (live t) ≡ false → length (live t) < rows_in t → tasks_of (set_in t n c x) ≡ model.set_to (tasks_of t) n c (setting_of x)
    unfolding set_in tasks_of read_setting
    set_new h r =
        let unknown : any (λ (m : model.Task). eqb m.name n) (tasks_of t) ≡ false = known_stands t n ∙ h in
        let p : place_in t n ≡ length (live t) = first_at_none (named n) (live t) h in
        let e : line_in t n ≡ unset_line n = first_none (named n) (unset_line n) (live t) h in
        let v : Line = with_setting c x (unset_line n) in
        rw (unknown, e)
        (put_new t (place_in t n) v (omega arith) r
        ∙ map-append task_of (live t) (v ∷ [])
        ∙ rw (map-append (changed c x n) (map task_of (live t)) (model.unset_task n ∷ []), eqb_same n, row_stands c x k (unset_line n))
        (ap (λ (l : List model.Task). l ++ (model.set_at c (setting_of x) (model.unset_task n) ∷ []))
        (sym (map_none (λ (m : model.Task). eqb m.name n) (model.set_at c (setting_of x)) (map task_of (live t)) unknown))))

    pub set_stands : room t n ≡ true → tasks_of (set_in t n c x) ≡ model.set_to (tasks_of t) n c (setting_of x)
    set_stands r =
        by_test (any (named n) (live t)) set_held (λ h. set_new h (ltb-true (length (live t)) (rows_in t) (rw h at r)))

  -- all three commands
  set_follows : room t n ≡ true → (refused : Bool) → (refused ≡ false → model.sound_setting (setting_of x) ≡ true)
      → Follows tasks_of Sound (set_to refused t n c x) (tasks_of t) (plan (check refused invalid_request ∷ []) (done (model.set_to (tasks_of t) n c (setting_of x)) 0))
  set_follows r true k = record { outcome = refl; soundly = s }
  set_follows r false k = record {
    outcome = ap (λ (l : List model.Task). done l 0) (set_stands (k refl) r);
    soundly =
        sound_of (set_in t n c x) set_fits
        (ap model.sound_tasks (set_stands (k refl) r) ∙ set_sound (tasks_of t) n c (setting_of x) (k refl) (model_sound t s));
  }

-- ---- the commands

module _ (t : Tasks) (n c : ℕ) (s : Sound t) (r : room t n ≡ true) where
  pub handle_follows : (label : ℕ) → label < 2 ^ 16 → Follows tasks_of Sound (handle_in t n c label) (tasks_of t) (model.handle (tasks_of t) n c label)
  unfolding handle_in model.handle
  handle_follows label w =
      set_follows t n c (Label label) s r (ltb 10 c || eqb label 0)
      (λ e.
      let some = eqb-false label 0 (or_false_r (ltb 10 c) (eqb label 0) e) in
      and_i (le-leb 1 label (omega arith)) (lt-ltb label (2 ^ 16) w))

  pub ignore_follows : Follows tasks_of Sound (ignore_in t n c) (tasks_of t) (model.ignore (tasks_of t) n c)
  unfolding ignore_in model.ignore
  ignore_follows = set_follows t n c Ignore s r (ltb 10 c) (λ e. refl)

  pub reset_follows : Follows tasks_of Sound (reset_in t n c) (tasks_of t) (model.reset (tasks_of t) n c)
  unfolding reset_in model.reset
  reset_follows = set_follows t n c Unset s r (ltb 10 c) (λ e. refl)
