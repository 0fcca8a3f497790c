-- No task has a row.
use Rattle.std.specs.Prelude.{◌≡◌, true, [], replicate}
use Rattle.handlers.specs.declared.Tasks.{Tasks}
use Rattle.handlers.specs.Table.{tasks_of, sound_h}
use Rattle.handlers.specs.Rows.{unset_row}

unfoldable pub no_tasks : Tasks
no_tasks = record { count = 0; rows = replicate 16 (unset_row 0) }

-- in the words of the model
pub record Fresh (t : Tasks) : Type 0 where
  pub none : tasks_of t ≡ []
  pub soundly : sound_h t ≡ true
