-- Every sound list of at most R tasks is what some sound words with R rows stand for. Assumes nothing.
use Rattle.std.specs.Prelude.{ℕ, ◌^◌, ◌≤◌, ◌<◌, ◌≡◌, refl, Bool, true, ◌&&◌, eqb, leb, ltb, length, take, replicate}
use Rattle.std.proofs.Common.{sym, ◌∙◌, arith, lt-ltb, ltb-true}
use Rattle.std.proofs.Math.Path.{ap}
use mathlib.Core.List.{List, [], ◌∷◌, map, map-map}
use Rattle.std.proofs.lemmas.List.{length-map, length-replicate}
use Rattle.base.specs.Lists.{all, over}
use Rattle.base.specs.Laws.Tests.{and_l, and_r, and_i}
use Rattle.base.specs.Laws.Keep.{all_replicate}
use Rattle.base.specs.Laws.Maps.{map_id, map_all_same, all_map_imp}
use Rattle.base.specs.Laws.Over.{take_over, length_over, all_over}
use Rattle.model.specs.Handlers as model
use Rattle.model.proofs.Laws.SoundTasks.{view_tasks}
use Rattle.settings.specs.declared.Setting.{Setting}
use Rattle.settings.specs.declared.Setting.TheVariants.{Unset, Ignore, Label}
use Rattle.settings.specs.Rows.{Line, line, setting_word, no_line}
use Rattle.settings.specs.Table.{Tasks, tasks, setting_of, meant, task_of, tasks_of, sound_h}
use Rattle.settings.specs.Laws.Standing.{sound_of}
use Rattle.settings.specs.Laws.Set.{word_read}
use Rattle.settings.specs.Laws.Typed.{wide_word, typed_row, Typed}

-- ---- the words of a list of tasks

abbrev setting_for : model.Setting → Setting
setting_for model.Unset = Unset
setting_for model.Ignore = Ignore
setting_for (model.Label n) = Label n

setting_for_lem : (x : model.Setting) → setting_of (setting_for x) ≡ x
setting_for_lem model.Unset = refl
setting_for_lem model.Ignore = refl
setting_for_lem (model.Label n) = refl

abbrev word_for : model.Setting → ℕ
word_for x = setting_word (setting_for x)

abbrev row_for : model.Task → Line
row_for m = line m.name (map word_for m.settings)

abbrev pub table_of : ℕ → List model.Task → Tasks
table_of R l = tasks (length l) (over (map row_for l) (replicate R no_line)) []

-- ---- what they stand for

word_stands : (x : model.Setting) → model.sound_setting x ≡ true → meant (word_for x) ≡ x
word_stands x h = word_read (setting_for x) (ap model.sound_setting (setting_for_lem x) ∙ h) ∙ setting_for_lem x

row_stands : (m : model.Task) → model.sound_task m ≡ true → task_of (row_for m) ≡ m
row_stands m h =
    let each = and_r (eqb (length m.settings) 11) (all model.sound_setting m.settings) h in
    let e : map meant (map word_for m.settings) ≡ m.settings =
    map-map meant word_for m.settings
    ∙ map_all_same model.sound_setting (λ (x : model.Setting). meant (word_for x)) (λ (x : model.Setting). x) word_stands m.settings each
    ∙ map_id (λ (x : model.Setting). x) (λ x. refl) m.settings in
    rw e

-- ---- and that they are words

word_wide : (x : model.Setting) → model.sound_setting x ≡ true → wide_word (word_for x) ≡ true
word_wide model.Unset h = refl
word_wide model.Ignore h = refl
word_wide (model.Label n) h = lt-ltb n (2 ^ 64) (omega (arith, ltb-true n (2 ^ 16) (and_r (leb 1 n) (ltb n (2 ^ 16)) h)))

row_typed : (m : model.Task) → (wide_word m.name && model.sound_task m) ≡ true → typed_row (row_for m) ≡ true
row_typed m h =
    let s = and_r (wide_word m.name) (model.sound_task m) h in
    let long = and_l (eqb (length m.settings) 11) (all model.sound_setting m.settings) s in
    let each = and_r (eqb (length m.settings) 11) (all model.sound_setting m.settings) s in
    let eleven : eqb (length (map word_for m.settings)) 11 ≡ true = rw (length-map m.settings word_for) long in
    and_i (and_l (wide_word m.name) (model.sound_task m) h)
    (and_i eleven (all_map_imp word_for model.sound_setting wide_word word_wide m.settings each))

all_both : {A : Type 0} (p q : A → Bool) (l : List A) → all p l ≡ true → all q l ≡ true → all (λ x. p x && q x) l ≡ true
all_both p q [] h k = refl
all_both p q (x ∷ l) h k =
    and_i (and_i (and_l (p x) (all p l) h) (and_l (q x) (all q l) k)) (all_both p q l (and_r (p x) (all p l) h) (and_r (q x) (all q l) k))

-- ---- every sound list

module _ (R : ℕ) (l : List model.Task) (s : model.sound_tasks l ≡ true) where
  pub every_stands : tasks_of (table_of R l) ≡ l
  unfolding tasks_of
  every_stands =
      ap (λ (k : ℕ). map task_of (take k (table_of R l).rows)) (sym (length-map l row_for))
      ∙ ap (map task_of) (take_over (map row_for l) (replicate R no_line))
      ∙ map-map task_of row_for l
      ∙ map_all_same model.sound_task (λ (m : model.Task). task_of (row_for m)) (λ (m : model.Task). m) row_stands l (view_tasks l s).each
      ∙ map_id (λ (m : model.Task). m) (λ m. refl) l

  module _ (h : length l ≤ R) where
    rows_long : length (table_of R l).rows ≡ R
    rows_long =
        let n = length-replicate R no_line in
        length_over (map row_for l) (replicate R no_line) (omega (arith, length-map l row_for)) ∙ n

    pub every_sound : sound_h (table_of R l) ≡ true
    every_sound = sound_of (table_of R l) (rw rows_long h) (ap model.sound_tasks every_stands ∙ s)

    pub every_typed : R < 2 ^ 64 → all (λ (m : model.Task). wide_word m.name) l ≡ true → Typed R 0 (table_of R l)
    every_typed few w =
        let front : all typed_row (map row_for l) ≡ true =
        all_map_imp row_for (λ (m : model.Task). wide_word m.name && model.sound_task m) typed_row row_typed l
        (all_both (λ (m : model.Task). wide_word m.name) model.sound_task l w (view_tasks l s).each) in
        record {
          counted = omega arith;
          rows = rows_long;
          each = all_over typed_row (map row_for l) (replicate R no_line) front (all_replicate typed_row R no_line refl);
          past = refl;
          rest = refl;
        }
