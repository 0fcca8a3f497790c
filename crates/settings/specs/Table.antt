-- The settings of the tasks in words: how many tasks have settings, then rows. What stands past the count is kept and means nothing; a count that says
-- more than there are rows is all of them. And the tasks of the model that they stand for, and which words are sound.
use Rattle.std.specs.Prelude.{ℕ, ◌≡◌, Bool, true, ◌&&◌, List, map, leb, length, take, drop, get_or, set}
use Rattle.base.specs.Lists.{over, first, first_at}
use Rattle.model.specs.Handlers as model
use Rattle.settings.specs.declared.Setting.{Setting}
use Rattle.settings.specs.declared.Setting.TheVariants.{Unset, Ignore, Label}
use Rattle.settings.specs.Rows.{Line, lines_of, rest_of, read_setting, named, unset_line}

pub record Tasks : Type 0 where
  pub count : ℕ
  pub rows : List Line
  -- words past the last whole row
  pub past : List ℕ

abbrev pub tasks : ℕ → List Line → List ℕ → Tasks
tasks n l p = record { count = n; rows = l; past = p }

abbrev pub view_of : List ℕ → Tasks
view_of w = tasks (get_or w 0 0) (lines_of (drop 1 w)) (rest_of (drop 1 w))

-- how many tasks there are places for
abbrev pub rows_in : Tasks → ℕ
rows_in t = length t.rows

-- the tasks that have settings, in the order of their first; a task that has no row has all unset
abbrev pub live : Tasks → List Line
live t = take t.count t.rows

abbrev pub with_live : Tasks → List Line → Tasks
with_live t l = tasks (length l) (over l t.rows) t.past

-- another row at i
abbrev pub with_row : Tasks → ℕ → Line → Tasks
with_row t i v = tasks t.count (set t.rows i v) t.past

-- the place of the task's row, behind all where it has none
abbrev pub place_in : Tasks → ℕ → ℕ
place_in t n = first_at (named n) (live t)

-- its row, all unset where it has none
abbrev pub line_in : Tasks → ℕ → Line
line_in t n = first (named n) (unset_line n) (live t)

-- ---- in the words of the model

abbrev pub setting_of : Setting → model.Setting
setting_of Unset = model.Unset
setting_of Ignore = model.Ignore
setting_of (Label n) = model.Label n

abbrev pub meant : ℕ → model.Setting
meant w = setting_of (read_setting w)

abbrev pub task_of : Line → model.Task
task_of v = record { name = v.name; settings = map meant v.cells }

unfoldable pub tasks_of : Tasks → List model.Task
tasks_of t = map task_of (live t)

-- "the bounds hold", "handler labels are not 0", and a task once
unfoldable pub sound_h : Tasks → Bool
sound_h t = leb t.count (rows_in t) && model.sound_tasks (tasks_of t)

abbrev pub Sound : Tasks → Type 0
Sound t = sound_h t ≡ true
