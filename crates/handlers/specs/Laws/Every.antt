-- Every sound list of at most 16 tasks is what some sound struct stands for, and its arrays have the lengths, and its numbers the widths, of
-- the struct's type. Assumes nothing.
use Rattle.std.specs.Prelude.{ℕ, ◌^◌, ◌≤◌, ◌≡◌, refl, Bool, true, ◌&&◌, eqb, leb, ltb, length, take, drop, replicate}
use Rattle.std.proofs.Common.{sym, ◌∙◌, arith}
use Rattle.std.proofs.Math.Path.{ap}
use mathlib.Core.List.{List, [], ◌∷◌, map, map-map}
use Rattle.std.proofs.lemmas.List.{length-map}
use Rattle.base.specs.Lists.{all, over}
use Rattle.base.specs.Laws.Tests.{and_l, and_r, and_i}
use Rattle.base.specs.Laws.Keep.{all_append, all_drop, all_replicate}
use Rattle.base.specs.Laws.Maps.{map_id, all_map_imp}
use Rattle.base.specs.Laws.Over.{take_over, length_over}
use Rattle.model.specs.Handlers as model
use Rattle.model.proofs.Laws.SoundTasks.{view_tasks}
use Rattle.handlers.specs.declared.Setting.{Setting}
use Rattle.handlers.specs.declared.Setting.TheVariants.{Unset, Ignore, Label}
use Rattle.handlers.specs.declared.Cell.{Cell}
use Rattle.handlers.specs.declared.Task.{Task}
use Rattle.handlers.specs.declared.Tasks.{Tasks}
use Rattle.handlers.specs.Table.{setting_of, task_of, tasks_of, sound_h}
use Rattle.handlers.specs.Rows.{unset_row}
use Rattle.handlers.specs.Laws.Standing.{sound_of}

-- ---- the struct of a list of tasks

abbrev pub cell_of : model.Setting → Cell
cell_of model.Unset = record { setting = Unset }
cell_of model.Ignore = record { setting = Ignore }
cell_of (model.Label n) = record { setting = Label n }

abbrev pub row_of : model.Task → Task
row_of m = record { name = m.name; cells = map cell_of m.settings }

abbrev pub table_of : List model.Task → Tasks
table_of l = record { count = length l; rows = over (map row_of l) (replicate 16 (unset_row 0)) }

cell_stands : (x : model.Setting) → setting_of (cell_of x).setting ≡ x
cell_stands model.Unset = refl
cell_stands model.Ignore = refl
cell_stands (model.Label n) = refl

row_stands : (m : model.Task) → task_of (row_of m) ≡ m
row_stands m =
    rw (
      map-map (λ (e : Cell). setting_of e.setting) cell_of m.settings,
      map_id (λ (x : model.Setting). setting_of (cell_of x).setting) cell_stands m.settings,
    )

module _ (l : List model.Task) where
  pub every_stands : tasks_of (table_of l) ≡ l
  unfolding tasks_of
  every_stands =
      ap (λ (k : ℕ). map task_of (take k (table_of l).rows)) (sym (length-map l row_of))
      ∙ ap (map task_of) (take_over (map row_of l) (replicate 16 (unset_row 0)))
      ∙ map-map task_of row_of l ∙ map_id (λ (m : model.Task). task_of (row_of m)) row_stands l

  pub every_sound : length l ≤ 16 → model.sound_tasks l ≡ true → sound_h (table_of l) ≡ true
  every_sound h s = sound_of (table_of l) h (ap model.sound_tasks every_stands ∙ s)

-- ---- what the type says

abbrev pub wide_setting : Setting → Bool
wide_setting Unset = true
wide_setting Ignore = true
wide_setting (Label n) = ltb n (2 ^ 16)

abbrev pub typed_row : Task → Bool
typed_row v = ltb v.name (2 ^ 64) && (eqb (length v.cells) 11 && all (λ (e : Cell). wide_setting e.setting) v.cells)

pub record Typed (t : Tasks) : Type 0 where
  pub rows : length t.rows ≡ 16
  pub each : all typed_row t.rows ≡ true

wide_stands : (x : model.Setting) → model.sound_setting x ≡ true → wide_setting (cell_of x).setting ≡ true
wide_stands model.Unset h = refl
wide_stands model.Ignore h = refl
wide_stands (model.Label n) h = and_r (leb 1 n) (ltb n (2 ^ 16)) h

row_typed : (m : model.Task) → (ltb m.name (2 ^ 64) && model.sound_task m) ≡ true → typed_row (row_of m) ≡ true
row_typed m h =
    let s = and_r (ltb m.name (2 ^ 64)) (model.sound_task m) h in
    let long = and_l (eqb (length m.settings) 11) (all model.sound_setting m.settings) s in
    let each = and_r (eqb (length m.settings) 11) (all model.sound_setting m.settings) s in
    let eleven : eqb (length (map cell_of m.settings)) 11 ≡ true = rw (length-map m.settings cell_of) long in
    and_i (and_l (ltb m.name (2 ^ 64)) (model.sound_task m) h)
    (and_i eleven
    (all_map_imp cell_of model.sound_setting (λ (e : Cell). wide_setting e.setting) wide_stands m.settings each))

all_both : {A : Type 0} (p q : A → Bool) (l : List A) → all p l ≡ true → all q l ≡ true → all (λ x. p x && q x) l ≡ true
all_both p q [] h k = refl
all_both p q (x ∷ l) h k =
    and_i (and_i (and_l (p x) (all p l) h) (and_l (q x) (all q l) k)) (all_both p q l (and_r (p x) (all p l) h) (and_r (q x) (all q l) k))

pub every_typed : (l : List model.Task) → length l ≤ 16 → model.sound_tasks l ≡ true → all (λ (m : model.Task). ltb m.name (2 ^ 64)) l ≡ true
    → Typed (table_of l)
every_typed l h s w =
    let fill : List Task = replicate 16 (unset_row 0) in
    let front : all typed_row (map row_of l) ≡ true =
    all_map_imp row_of (λ (m : model.Task). ltb m.name (2 ^ 64) && model.sound_task m) typed_row row_typed l
    (all_both (λ (m : model.Task). ltb m.name (2 ^ 64)) model.sound_task l w (view_tasks l s).each) in
    record {
      rows = length_over (map row_of l) fill (omega (arith, length-map l row_of));
      each =
          all_append typed_row (map row_of l) (drop (length (map row_of l)) fill)
          ∙ and_i front (all_drop typed_row (length (map row_of l)) fill (all_replicate typed_row 16 (unset_row 0) refl));
    }
