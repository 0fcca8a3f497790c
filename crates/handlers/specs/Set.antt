-- 15 handle, 16 ignore, 17 reset.
use Rattle.std.specs.Prelude.{ℕ, ◌≡◌, Bool, true, ◌||◌, List, [], ◌∷◌, ◌++◌, Result, Ok, Err, ltb, eqb, length}
use Rattle.base.specs.Choice.{pick}
use Rattle.base.specs.Lists.{any}
use Rattle.model.specs.Plans.{normal, invalid_request, Outcome, Plan, first_of, obey}
use Rattle.model.specs.Handlers as model
use Rattle.handlers.specs.declared.Setting.{Setting}
use Rattle.handlers.specs.declared.Setting.TheVariants.{Unset, Ignore, Label}
use Rattle.handlers.specs.declared.Task.{Task}
use Rattle.handlers.specs.declared.Tasks.{Tasks}
use Rattle.handlers.specs.declared.answers.Invalid.{Invalid}
use Rattle.handlers.specs.declared.answers.Handled.{Handled}
use Rattle.handlers.specs.Table.{live, with_live, tasks_of, sound_h}
use Rattle.handlers.specs.Rows.{named, place_in, task_in, with_row, with_setting}

-- is there a row of that name, or place for one
abbrev pub room : Tasks → ℕ → Bool
room t n = any (named n) (live t) || ltb (length (live t)) 16

-- a row in its place, or behind the others; where there is no place left nothing changes
abbrev pub put_in : Tasks → ℕ → Task → Tasks
put_in t i v = pick (ltb i (length (live t))) (with_row t i v) (pick (ltb i 16) (with_live t (live t ++ (v ∷ []))) t)

unfoldable pub set_in : Tasks → ℕ → ℕ → Setting → Tasks
set_in t n c x = put_in t (place_in t n) (with_setting c x (task_in t n))

-- all three commands: where a test refuses it nothing changes
abbrev pub set_to : Bool → Tasks → ℕ → ℕ → Setting → Handled
set_to refused t n c x = pick refused (record { tasks = t; outcome = Err (record {}) }) (record { tasks = set_in t n c x; outcome = Ok tt })

-- "10 condition above 10 or label 0"
unfoldable pub handle_in : Tasks → ℕ → ℕ → ℕ → Handled
handle_in t n c label = set_to (ltb 10 c || eqb label 0) t n c (Label label)

-- "10 condition above 10"
unfoldable pub ignore_in : Tasks → ℕ → ℕ → Handled
ignore_in t n c = set_to (ltb 10 c) t n c Ignore

unfoldable pub reset_in : Tasks → ℕ → ℕ → Handled
reset_in t n c = set_to (ltb 10 c) t n c Unset

-- document 01's number of an outcome
abbrev pub condition_of : Result (Unit {0}) Invalid → ℕ
condition_of (Ok u) = normal
condition_of (Err e) = invalid_request

-- what a command has done, in the words of the model: it comes to what the plan says, and its settings are sound
pub record Done (t : Tasks) (r : Handled) (p : Plan (List model.Task)) : Type 0 where
  pub outcome : ◌≡◌ {A = Outcome (List model.Task)} (record { condition = condition_of r.outcome; number = 0; bytes = []; state = tasks_of r.tasks }) (obey (tasks_of t) (first_of p.checks) p.effect)
  pub soundly : sound_h r.tasks ≡ true
