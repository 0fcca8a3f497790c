-- No task has settings: all words are 0.
use Rattle.std.specs.Prelude.{◌≡◌, true, [], length, replicate}
use Rattle.settings.specs.Rows.{no_line}
use Rattle.settings.specs.Table.{Tasks, tasks, rows_in, tasks_of, sound_h}

unfoldable pub fresh_of : Tasks → Tasks
fresh_of t = tasks 0 (replicate (rows_in t) no_line) (replicate (length t.past) 0)

-- in the words of the model
pub record Fresh (t : Tasks) : Type 0 where
  pub none : tasks_of t ≡ []
  pub soundly : sound_h t ≡ true
