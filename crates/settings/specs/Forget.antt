-- A task's settings go.
use Rattle.std.specs.Prelude.{ℕ, ◌≡◌, true}
use Rattle.base.specs.Choice.{pick}
use Rattle.base.specs.Lists.{any, cut_at}
use Rattle.model.specs.Handlers as model
use Rattle.settings.specs.Rows.{named}
use Rattle.settings.specs.Table.{Tasks, live, with_live, place_in, tasks_of, sound_h}

-- the first row of that name, if there is one
unfoldable pub forget_in : Tasks → ℕ → Tasks
forget_in t n = pick (any (named n) (live t)) (with_live t (cut_at (place_in t n) (live t))) t

-- in the words of the model
pub record Forgotten (t : Tasks) (n : ℕ) (r : Tasks) : Type 0 where
  pub stands : tasks_of r ≡ model.forget (tasks_of t) n
  pub soundly : sound_h r ≡ true
