-- A row is sound where its settings are: that there are eleven is so by its type; and a struct is sound where its names stand once and its rows
-- are sound. Assumes nothing.
use mathlib.Core.Path.{sym, ◌≡◌, refl, ◌∙◌}
use mathlib.Core.Bool.{Bool, true, ◌&&◌}
use mathlib.Core.List.{map}
use lib.Dec.{eqb, leb}
use lib.ListN.{length, length-map}
use borrow.Author.Tests.{eq-eqb}
use Rattle.std.proofs.Math.Bool.{and_assoc}
use Rattle.base.specs.Lists.{all, once}
use Rattle.base.specs.Laws.Maps.{all_map}
use Rattle.model.specs.Handlers as model
use Rattle.handlers.specs.declared.Cell.{Cell}
use Rattle.handlers.specs.declared.Task.{Task}
use Rattle.handlers.specs.declared.Tasks.{Tasks}
use Rattle.handlers.specs.Table.{setting_of, task_of, live, tasks_of, sound_h}
use Rattle.handlers.specs.Rows.{sound_row}
use Rattle.handlers.specs.Names.{name_of}
use Rattle.handlers.specs.Laws.Standing.{names_stand}

abbrev pub labelled_cell : Cell → Bool
labelled_cell e = model.sound_setting (setting_of e.setting)

pub row_sound_all : (v : Task) → length v.cells ≡ 11 → sound_row v ≡ all labelled_cell v.cells
row_sound_all v h =
    let n : eqb (length (task_of v).settings) 11 ≡ true = eq-eqb (length (task_of v).settings) 11 (length-map v.cells _ ∙ h) in
    rw n (all_map (λ (e : Cell). setting_of e.setting) labelled_cell model.sound_setting (λ e. refl) v.cells)

pub rows_sound_all : (t : Tasks) → all model.sound_task (tasks_of t) ≡ all sound_row (live t)
unfolding tasks_of
rows_sound_all t = all_map task_of sound_row model.sound_task (λ v. refl) (live t)

-- ---- the struct

-- its parts
pub sound_parts : (t : Tasks) → sound_h t ≡ (leb t.count 16 && once (map name_of (live t)) && all sound_row (live t))
unfolding sound_h model.sound_tasks
sound_parts t = rw (names_stand t, rows_sound_all t) (sym (and_assoc (leb t.count 16) (once (map name_of (live t))) (all sound_row (live t))))
