-- The names of the tasks that have a row.
use Rattle.std.specs.Prelude.{ℕ, List, map}
use Rattle.handlers.specs.declared.Task.{Task}
use Rattle.handlers.specs.declared.Tasks.{Tasks}
use Rattle.handlers.specs.Table.{live}

abbrev pub name_of : Task → ℕ
name_of t = t.name

-- in the order of the rows
abbrev pub names_in : Tasks → List ℕ
names_in t = map name_of (live t)
