-- What the struct stands for in the model: the tasks' names, how many there are, what soundness is of, and where there is room for a row.
-- Assumes nothing.
use Rattle.std.specs.Prelude.{ℕ, ◌≤◌, ◌≡◌, refl, true, false, not, leb, ltb, length}
use Rattle.std.proofs.Math.Path.{sym, ap}
use Rattle.std.proofs.Common.{◌∙◌, arith, length-take}
use mathlib.Core.List.{List, ◌∷◌, map, map-map}
use Rattle.std.proofs.Math.Dec.{eqb}
use Rattle.std.proofs.Math.ListN.{length-map}
use borrow.Author.Tests.{leb-true, le-leb, lt-ltb}
use Rattle.base.specs.Lists.{any, has, once, within}
use Rattle.base.specs.Laws.Tests.{by_test, and_l, and_r, and_i, or_l, or_r}
use Rattle.base.specs.Laws.Maps.{any_map}
use Rattle.base.specs.Laws.Counting.{has_map, pigeon}
use Rattle.base.specs.Laws.Over.{take_over}
use Rattle.model.specs.Handlers as model
use Rattle.model.proofs.Laws.SoundTasks.{view_tasks}
use Rattle.handlers.specs.declared.Task.{Task}
use Rattle.handlers.specs.declared.Tasks.{Tasks}
use Rattle.handlers.specs.Table.{task_of, live, with_live, tasks_of, sound_h}
use Rattle.handlers.specs.Rows.{named}
use Rattle.handlers.specs.Names.{name_of, names_in}
use Rattle.handlers.specs.Set.{room}

module _ (t : Tasks) where
  -- ---- what soundness is of
  pub count_fits : sound_h t ≡ true → t.count ≤ 16
  unfolding sound_h
  count_fits s = leb-true t.count 16 (and_l (leb t.count 16) (model.sound_tasks (tasks_of t)) s)

  pub model_sound : sound_h t ≡ true → model.sound_tasks (tasks_of t) ≡ true
  unfolding sound_h
  model_sound s = and_r (leb t.count 16) (model.sound_tasks (tasks_of t)) s

  pub sound_of : t.count ≤ 16 → model.sound_tasks (tasks_of t) ≡ true → sound_h t ≡ true
  unfolding sound_h
  sound_of h s = and_i (le-leb t.count 16 h) s

  -- ---- names, and how many
  pub names_stand : map (λ (m : model.Task). m.name) (tasks_of t) ≡ map name_of (live t)
  unfolding tasks_of
  names_stand = map-map (λ (m : model.Task). m.name) task_of (live t)

  pub known_stands : (n : ℕ) → any (λ (m : model.Task). eqb m.name n) (tasks_of t) ≡ any (named n) (live t)
  unfolding tasks_of
  known_stands n = any_map task_of (named n) (λ (m : model.Task). eqb m.name n) (λ v. refl) (live t)

  pub names_once : sound_h t ≡ true → once (map name_of (live t)) ≡ true
  names_once s = sym (ap once names_stand) ∙ (view_tasks (tasks_of t) (model_sound s)).unique

  pub length_stands : length (tasks_of t) ≡ length (live t)
  unfolding tasks_of
  length_stands = length-map (live t) task_of

  pub few : sound_h t ≡ true → length (tasks_of t) ≤ 16
  few s = omega (arith, length_stands, length-take t.count t.rows, count_fits s)

  -- the names that are handed out
  pub names_listed : names_in t ≡ map (λ (m : model.Task). m.name) (tasks_of t)
  names_listed = sym names_stand

  -- ---- other live rows
  pub live_stands : (l : List Task) → tasks_of (with_live t l) ≡ map task_of l
  unfolding tasks_of
  live_stands l = rw (take_over l t.rows)

  -- ---- room

  -- where each task that has a row is one of at most 16 and so is this one: "only an active task has settings"
  pub room_within : (n : ℕ) (actives : List ℕ) → sound_h t ≡ true → within (map (λ (m : model.Task). m.name) (tasks_of t)) actives ≡ true
      → has n actives ≡ true → length actives ≤ 16 → room t n ≡ true
  room_within n actives s w h k =
      let names : List ℕ = map (λ (m : model.Task). m.name) (tasks_of t) in
      by_test (any (named n) (live t)) (λ e. or_l (any (named n) (live t)) (ltb (length (live t)) 16) e)
      (λ e.
      let new : has n names ≡ false = has_map (λ (m : model.Task). m.name) n (tasks_of t) ∙ known_stands n ∙ e in
      let o : once (n ∷ names) ≡ true = and_i (ap not new) (view_tasks (tasks_of t) (model_sound s)).unique in
      let p : length (n ∷ names) ≤ length actives = pigeon (n ∷ names) actives o (and_i h w) in
      let q : length names ≡ length (tasks_of t) = length-map (tasks_of t) (λ (m : model.Task). m.name) in
      or_r (any (named n) (live t)) (ltb (length (live t)) 16) (lt-ltb (length (live t)) 16 (omega (arith, length_stands))))
