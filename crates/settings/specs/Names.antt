-- The names of the tasks that have settings.
use Rattle.std.specs.Prelude.{ℕ, List, map, get_or}
use Rattle.settings.specs.Rows.{name_of, no_line}
use Rattle.settings.specs.Table.{Tasks, live}

abbrev pub names_in : Tasks → List ℕ
names_in t = map name_of (live t)

-- the name in row i, and 0 past the rows
abbrev pub name_at : Tasks → ℕ → ℕ
name_at t i = name_of (get_or t.rows i no_line)
