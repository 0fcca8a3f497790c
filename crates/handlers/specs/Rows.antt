-- Rows: their names, a task with nothing set, a setting read and made, and the rows without one of them.
use Rattle.std.specs.Prelude.{ℕ, Bool, [], eqb, get_or, set, replicate}
use Rattle.base.specs.Lists.{first, first_at}
use Rattle.model.specs.Handlers as model
use Rattle.handlers.specs.declared.Setting.{Setting}
use Rattle.handlers.specs.declared.Setting.TheVariants.{Unset}
use Rattle.handlers.specs.declared.Cell.{Cell}
use Rattle.handlers.specs.declared.Task.{Task}
use Rattle.handlers.specs.declared.Tasks.{Tasks}
use Rattle.handlers.specs.Table.{live, task_of}

abbrev pub named : ℕ → Task → Bool
named n t = eqb t.name n

abbrev pub unset : Cell
unset = record { setting = Unset }

-- "All are unset at dispatch."
abbrev pub unset_row : ℕ → Task
unset_row n = record { name = n; cells = replicate 11 unset }

-- what the logic takes for an element past a list's end
abbrev pub out_row : Task
out_row = record { name = 0; cells = [] }

abbrev pub setting_at : ℕ → Task → Setting
setting_at c t = (get_or t.cells c unset).setting

abbrev pub with_setting : ℕ → Setting → Task → Task
with_setting c x t = record { name = t.name; cells = set t.cells c (record { setting = x }) }

abbrev pub sound_row : Task → Bool
sound_row t = model.sound_task (task_of t)

-- the place of the task's row, behind all where it has none
abbrev pub place_in : Tasks → ℕ → ℕ
place_in t n = first_at (named n) (live t)

-- its row, all unset where it has none
abbrev pub task_in : Tasks → ℕ → Task
task_in t n = first (named n) (unset_row n) (live t)

-- another row at i
abbrev pub with_row : Tasks → ℕ → Task → Tasks
with_row t i v = record { count = t.count; rows = set t.rows i v }
