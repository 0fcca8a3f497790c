-- What decides is what the model says, of any words; and a label that decides is one of 1..65535.
-- Assumes nothing.
use Rattle.std.specs.Prelude.{ℕ, ◌^◌, ◌≤◌, ◌<◌, ◌≡◌, refl, true}
use Rattle.std.proofs.Math.Path.{sym, ap, ap₂}
use Rattle.std.proofs.Common.{◌∙◌}
use mathlib.Core.List.{List}
use Rattle.std.proofs.Math.Dec.{eqb}
use Rattle.std.proofs.Math.ListN.{get_or, get_or-map}
use Rattle.base.specs.Laws.Maps.{first_map}
use Rattle.model.specs.Handlers as model
use Rattle.model.proofs.Laws.SoundTasks.{decided_label}
use Rattle.settings.specs.declared.Setting.{Setting}
use Rattle.settings.specs.declared.Setting.TheVariants.{Unset, Ignore, Label}
use Rattle.settings.specs.Rows.{read_setting, named, unset_line, setting_at}
use Rattle.settings.specs.Table.{Tasks, live, line_in, setting_of, meant, task_of, tasks_of, sound_h}
use Rattle.settings.specs.Decide.{or_else, decide_in}
use Rattle.settings.specs.Laws.Standing.{model_sound}

or_else_stands : (x y : Setting) → setting_of (or_else x y) ≡ model.or_else (setting_of x) (setting_of y)
or_else_stands Unset y = refl
or_else_stands Ignore y = refl
or_else_stands (Label n) y = refl

module _ (t : Tasks) (n : ℕ) where
  pub settings_stand : model.settings_of (tasks_of t) n ≡ (task_of (line_in t n)).settings
  unfolding tasks_of read_setting
  settings_stand =
      ap (λ (m : model.Task). m.settings)
      (first_map task_of (named n) (λ (m : model.Task). eqb m.name n) (λ v. refl) (unset_line n) (live t))

  setting_stands : (c : ℕ) → setting_of (setting_at c (line_in t n)) ≡ get_or (model.settings_of (tasks_of t) n) c model.Unset
  unfolding read_setting
  setting_stands c =
      sym (ap (λ (l : List model.Setting). get_or l c model.Unset) settings_stand ∙ get_or-map meant (line_in t n).cells c 0)

  pub decide_stands : (c : ℕ) → setting_of (decide_in t n c) ≡ model.decides (tasks_of t) n c
  unfolding decide_in
  decide_stands c =
      or_else_stands (setting_at c (line_in t n)) (setting_at 0 (line_in t n)) ∙ ap₂ model.or_else (setting_stands c) (setting_stands 0)

  pub label_decides : (c k : ℕ) → sound_h t ≡ true → decide_in t n c ≡ Label k → (1 ≤ k) × (k < 2 ^ 16)
  label_decides c k s e = decided_label (tasks_of t) n c k (model_sound t s) (sym (decide_stands c) ∙ ap setting_of e)
