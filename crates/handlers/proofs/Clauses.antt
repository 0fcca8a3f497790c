-- From the exact clause of a public function both of its clauses. Assumes nothing.
use Prim.Native.Nat.{ℕ, ◌^◌, ◌<◌}
use mathlib.Core.Path.{◌≡◌, ap, ◌∙◌}
use mathlib.Core.Bool.{true}
use Rattle.model.specs.Handlers as model
use Rattle.handlers.specs.declared.Setting.{Setting}
use Rattle.handlers.specs.declared.Tasks.{Tasks}
use Rattle.handlers.specs.declared.answers.Handled.{Handled}
use Rattle.handlers.specs.Table.{setting_of, tasks_of, sound_h}
use Rattle.handlers.specs.Set.{handle_in, ignore_in, reset_in, room, Done}
use Rattle.handlers.specs.Decide.{decide_in}
use Rattle.handlers.specs.Forget.{forget_in, Forgotten}
use Rattle.handlers.proofs.Laws.Set.{handle_done, ignore_done, reset_done}
use Rattle.handlers.specs.Laws.Decide.{decide_stands}
use Rattle.handlers.specs.Laws.Forget.{forget_done}

module _ (t : Tasks) (n c : ℕ) (r : Handled) where
  pub handle_both : (label : ℕ) → label < 2 ^ 16 → r ≡ handle_in t n c label
      → (r ≡ handle_in t n c label) × (sound_h t ≡ true → room t n ≡ true → Done t r (model.handle (tasks_of t) n c label))
  handle_both label w e = (e, λ s k. rw e (handle_done t n c s k label w))

  pub ignore_both : r ≡ ignore_in t n c → (r ≡ ignore_in t n c) × (sound_h t ≡ true → room t n ≡ true → Done t r (model.ignore (tasks_of t) n c))
  ignore_both e = (e, λ s k. rw e (ignore_done t n c s k))

  pub reset_both : r ≡ reset_in t n c → (r ≡ reset_in t n c) × (sound_h t ≡ true → room t n ≡ true → Done t r (model.reset (tasks_of t) n c))
  reset_both e = (e, λ s k. rw e (reset_done t n c s k))

pub decide_both : (t : Tasks) (n c : ℕ) (r : Setting) → r ≡ decide_in t n c
    → (r ≡ decide_in t n c) × (setting_of r ≡ model.decides (tasks_of t) n c)
decide_both t n c r e = (e, ap setting_of e ∙ decide_stands t n c)

pub forget_both : (t : Tasks) (n : ℕ) (r : Tasks) → r ≡ forget_in t n → (r ≡ forget_in t n) × (sound_h t ≡ true → Forgotten t n r)
forget_both t n r e = (e, λ s. rw e (forget_done t n s))
