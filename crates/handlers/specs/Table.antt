-- The tasks of the model that the struct stands for, and which structs are sound.
use Rattle.std.specs.Prelude.{Bool, ◌&&◌, List, map, leb, length, take}
use Rattle.base.specs.Lists.{over}
use Rattle.model.specs.Handlers as model
use Rattle.handlers.specs.declared.Setting.{Setting}
use Rattle.handlers.specs.declared.Setting.TheVariants.{Unset, Ignore, Label}
use Rattle.handlers.specs.declared.Cell.{Cell}
use Rattle.handlers.specs.declared.Task.{Task}
use Rattle.handlers.specs.declared.Tasks.{Tasks}

abbrev pub setting_of : Setting → model.Setting
setting_of Unset = model.Unset
setting_of Ignore = model.Ignore
setting_of (Label n) = model.Label n

abbrev pub task_of : Task → model.Task
task_of t = record { name = t.name; settings = map (λ (c : Cell). setting_of c.setting) t.cells }

abbrev pub live : Tasks → List Task
live t = take t.count t.rows

abbrev pub with_live : Tasks → List Task → Tasks
with_live t l = record { count = length l; rows = over l t.rows }

unfoldable pub tasks_of : Tasks → List model.Task
tasks_of t = map task_of (live t)

-- "handler labels are not 0", and a task once; that a label has two bytes and a task eleven settings is so by their types
unfoldable pub sound_h : Tasks → Bool
sound_h t = leb t.count 16 && model.sound_tasks (tasks_of t)
