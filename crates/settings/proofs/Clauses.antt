-- From the exact clause of a public function all of its clauses. Assumes nothing.
use Prim.Native.Nat.{ℕ, ◌^◌, ◌<◌}
use mathlib.Core.Path.{◌≡◌, refl, sym, ap}
use mathlib.Core.Bool.{Bool, true, false, ◌||◌}
use mathlib.Core.List.{List, []}
use lib.Dec.{eqb, ltb}
use borrow.Author.Tests.{eq-eqb, ne_eqb}
use Rattle.base.specs.Laws.Tests.{or_r}
use Rattle.words.specs.declared.said.Condition.TheVariants.{InvalidRequest}
use Rattle.words.specs.declared.said.Said.{Said}
use Rattle.words.specs.Said.{plainly, gave, handed, told}
use Rattle.words.specs.Laws.Said.{told_all}
use Rattle.model.specs.Plans.{Outcome}
use Rattle.model.specs.Handlers as model
use Rattle.settings.specs.declared.Setting.{Setting}
use Rattle.settings.specs.declared.Setting.TheVariants.{Unset, Ignore, Label}
use Rattle.settings.specs.Table.{Tasks, tasks_of, sound_h}
use Rattle.settings.specs.Forget.{forget_in, Forgotten}
use Rattle.settings.specs.Set.{set_to, handle_in, ignore_in, reset_in, Obeys}
use Rattle.settings.specs.Laws.Forget.{forget_done}
use Rattle.settings.specs.Laws.Set.{handle_follows, ignore_follows, reset_follows}

pub forget_clause : (t : Tasks) (n : ℕ) (r : Tasks) → r ≡ forget_in t n → sound_h t ≡ true → Forgotten t n r
forget_clause t n r e s = rw e (forget_done t n s)

-- ---- handle, ignore, reset

-- what is said and left is an outcome, which has no bytes
abbrev Says : Said → Tasks → Outcome Tasks → Type 0
Says r v o = (b : List ℕ) → gave r v b ≡ handed o b

-- another name of the same outcome
pub says_as : (r : Said) (v : Tasks) {o p : Outcome Tasks} → o ≡ p → Says r v o → Says r v p
says_as r v e h = rw e at h

module _ (t : Tasks) (n c : ℕ) where
  pub handle_zero : (label : ℕ) → label ≡ 0 → told (plainly InvalidRequest 0) [] t ≡ handle_in t n c label
  unfolding handle_in
  handle_zero label h = rw (or_r (ltb 10 c) (eqb label 0) (eq-eqb label 0 h))

  pub handle_some : (label : ℕ) → (label ≡ 0 → ⊥) → set_to (ltb 10 c) t n c (Label label) ≡ handle_in t n c label
  unfolding handle_in
  handle_some label h = ap (λ (b : Bool). set_to b t n c (Label label)) (sym (or_no (ltb 10 c) (ne_eqb label 0 h)))
    where
      or_no : (a : Bool) {b : Bool} → b ≡ false → (a || b) ≡ a
      or_no true e = refl
      or_no false e = e

  -- there are no bytes, so what is said is the whole outcome
  said_all : (refused : Bool) (x : Setting) (r : Said) (v : Tasks) → Says r v (set_to refused t n c x) → told r [] v ≡ set_to refused t n c x
  said_all true x r v h = told_all r v (set_to true t n c x) h
  said_all false x r v h = told_all r v (set_to false t n c x) h

  module _ (r : Said) (v : Tasks) where
    pub handle_obeys : (label : ℕ) → label < 2 ^ 16 → Says r v (handle_in t n c label) → Obeys t n (told r [] v) (model.handle (tasks_of t) n c label)
    unfolding handle_in
    handle_obeys label w h = λ s k. rw (said_all (ltb 10 c || eqb label 0) (Label label) r v h) (handle_follows t n c s k label w)

    pub ignore_obeys : Says r v (ignore_in t n c) → Obeys t n (told r [] v) (model.ignore (tasks_of t) n c)
    unfolding ignore_in
    ignore_obeys h = λ s k. rw (said_all (ltb 10 c) Ignore r v h) (ignore_follows t n c s k)

    pub reset_obeys : Says r v (reset_in t n c) → Obeys t n (told r [] v) (model.reset (tasks_of t) n c)
    unfolding reset_in
    reset_obeys h = λ s k. rw (said_all (ltb 10 c) Unset r v h) (reset_follows t n c s k)
