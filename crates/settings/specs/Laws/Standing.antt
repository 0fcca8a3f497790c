-- What the rows stand for in the model: the tasks' names, how many there are, what soundness is of, and where there is room for a row.
-- Assumes nothing.
use Rattle.std.specs.Prelude.{ℕ, ◌≤◌, ◌<◌, ◌≡◌, refl, Bool, false, not, ◌&&◌, leb, ltb, length, get_or}
use Rattle.std.proofs.Common.{sym, ap, ◌∙◌, arith, length-take, get_or-take}
use Rattle.std.proofs.Math.Bool.{true}
use mathlib.Core.List.{List, [], ◌∷◌, map, map-map}
use Rattle.std.proofs.Math.Dec.{eqb}
use Rattle.std.proofs.Math.ListN.{length-map, get_or-map}
use borrow.Author.Tests.{leb-true, le-leb, lt-ltb, eqb-false}
use Rattle.base.specs.Lists.{any, all, has, once, within}
use Rattle.base.specs.Laws.Tests.{by_test, and_l, and_r, and_i, or_l, or_r}
use Rattle.base.specs.Laws.Keep.{all_take}
use Rattle.base.specs.Laws.Maps.{any_map, all_map_imp}
use Rattle.base.specs.Laws.Counting.{has_map, pigeon}
use Rattle.base.specs.Laws.Over.{take_over}
use Rattle.model.specs.Handlers as model
use Rattle.model.proofs.Laws.SoundTasks.{view_tasks, no_tasks_sound}
use Rattle.settings.specs.Rows.{Line, read_setting, name_of, named, no_line}
use Rattle.settings.specs.Table.{Tasks, rows_in, live, with_live, meant, task_of, tasks_of, sound_h}
use Rattle.settings.specs.Names.{names_in, name_at}
use Rattle.settings.specs.Fresh.{fresh_of, Fresh}
use Rattle.settings.specs.Set.{room}
use Rattle.settings.specs.Laws.Lines.{eleven}

-- ---- a word is a sound setting, whatever it is

pub word_sound : (w : ℕ) → model.sound_setting (meant w) ≡ true
unfolding read_setting
word_sound w =
    by_test (eqb w 0) (λ e. rw e)
    (λ e.
    let some = eqb-false w 0 e in
    by_test (ltb w 65_536) (λ h. rw (e, h) (and_i (le-leb 1 w (omega arith)) h)) (λ h. rw (e, h)))

words_sound : (l : List ℕ) → all model.sound_setting (map meant l) ≡ true
words_sound [] = refl
words_sound (w ∷ l) = and_i (word_sound w) (words_sound l)

-- so is a row of eleven
row_sound : (v : Line) → eleven v ≡ true → model.sound_task (task_of v) ≡ true
row_sound v h = and_i (ap (λ (n : ℕ). eqb n 11) (length-map v.cells meant) ∙ h) (words_sound v.cells)

and_true : (b : Bool) → (b && true) ≡ b
and_true true = refl
and_true false = refl

module _ (t : Tasks) where
  -- ---- what soundness is of
  pub count_fits : sound_h t ≡ true → t.count ≤ rows_in t
  unfolding sound_h
  count_fits s = leb-true t.count (rows_in t) (and_l (leb t.count (rows_in t)) (model.sound_tasks (tasks_of t)) s)

  pub model_sound : sound_h t ≡ true → model.sound_tasks (tasks_of t) ≡ true
  unfolding sound_h
  model_sound s = and_r (leb t.count (rows_in t)) (model.sound_tasks (tasks_of t)) s

  pub sound_of : t.count ≤ rows_in t → model.sound_tasks (tasks_of t) ≡ true → sound_h t ≡ true
  unfolding sound_h
  sound_of h s = and_i (le-leb t.count (rows_in t) h) s

  -- ---- names, and how many
  pub names_stand : map (λ (m : model.Task). m.name) (tasks_of t) ≡ names_in t
  unfolding tasks_of
  names_stand = map-map (λ (m : model.Task). m.name) task_of (live t)

  pub known_stands : (n : ℕ) → any (λ (m : model.Task). eqb m.name n) (tasks_of t) ≡ any (named n) (live t)
  unfolding tasks_of
  known_stands n = any_map task_of (named n) (λ (m : model.Task). eqb m.name n) (λ v. refl) (live t)

  pub names_once : sound_h t ≡ true → once (names_in t) ≡ true
  names_once s = sym (ap once names_stand) ∙ (view_tasks (tasks_of t) (model_sound s)).unique

  pub length_stands : length (tasks_of t) ≡ length (live t)
  unfolding tasks_of
  length_stands = length-map (live t) task_of

  pub few : length (tasks_of t) ≤ rows_in t
  few = omega (arith, length_stands, length-take t.count t.rows)

  -- the name in a row that counts
  pub name_stands : (i : ℕ) → i < length (tasks_of t) → name_at t i ≡ get_or (map (λ (m : model.Task). m.name) (tasks_of t)) i 0
  name_stands i h =
      let b : i < t.count = omega (arith, length_stands, length-take t.count t.rows) in
      ap name_of (sym (get_or-take t.count t.rows i no_line b)) ∙ sym (get_or-map name_of (live t) i no_line)
      ∙ ap (λ (l : List ℕ). get_or l i 0) (sym names_stand)

  -- rows of eleven are sound where no name stands twice
  tasks_sound : all eleven t.rows ≡ true → all model.sound_task (tasks_of t) ≡ true
  unfolding tasks_of
  tasks_sound h = all_map_imp task_of eleven model.sound_task row_sound (live t) (all_take eleven t.count t.rows h)

  pub sound_once : all eleven t.rows ≡ true → model.sound_tasks (tasks_of t) ≡ once (names_in t)
  unfolding model.sound_tasks
  sound_once h =
      let each : all model.sound_task (tasks_of t) ≡ true = tasks_sound h in
      rw (each, names_stand) (and_true (once (names_in t)))

  -- ---- other live rows
  pub live_stands : (l : List Line) → tasks_of (with_live t l) ≡ map task_of l
  unfolding tasks_of
  live_stands l = rw (take_over l t.rows)

  -- ---- none
  pub fresh_stands : Fresh (fresh_of t)
  unfolding fresh_of tasks_of sound_h
  fresh_stands = record { none = refl; soundly = and_i (le-leb 0 (rows_in (fresh_of t)) (omega arith)) no_tasks_sound }

  -- ---- room

  -- where each task that has a row is one of so many and so is this one: "only an active task has settings"
  pub room_within : (n : ℕ) (actives : List ℕ) → sound_h t ≡ true → within (map (λ (m : model.Task). m.name) (tasks_of t)) actives ≡ true
      → has n actives ≡ true → length actives ≤ rows_in t → room t n ≡ true
  room_within n actives s w h k =
      let names : List ℕ = map (λ (m : model.Task). m.name) (tasks_of t) in
      by_test (any (named n) (live t)) (λ e. or_l (any (named n) (live t)) (ltb (length (live t)) (rows_in t)) e)
      (λ e.
      let new : has n names ≡ false = has_map (λ (m : model.Task). m.name) n (tasks_of t) ∙ known_stands n ∙ e in
      let o : once (n ∷ names) ≡ true = and_i (ap not new) (view_tasks (tasks_of t) (model_sound s)).unique in
      let p : length (n ∷ names) ≤ length actives = pigeon (n ∷ names) actives o (and_i h w) in
      let q : length names ≡ length (tasks_of t) = length-map (tasks_of t) (λ (m : model.Task). m.name) in
      or_r (any (named n) (live t)) (ltb (length (live t)) (rows_in t)) (lt-ltb (length (live t)) (rows_in t) (omega (arith, length_stands))))
