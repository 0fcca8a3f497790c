-- The handler commands keep the tasks' settings sound, a task that is forgotten leaves them sound, and a label that decides
-- is one of 1..65535; and what is so of every name stays so of the names that are set or forgotten.
-- Assumes nothing.
use Rattle.std.specs.Prelude.{ℕ, suc, ◌^◌, ◌≤◌, ◌<◌, ◌≡◌, Bool, true, not, ◌&&◌, List, [], map, length, get_or, leb, ltb, eqb}
use Rattle.std.proofs.Math.Path.{refl}
use Rattle.std.proofs.Common.{ap, ◌∙◌, length-set, arith}
use borrow.Author.Tests.{leb-true, ltb-true, eqb-false, le-leb, lt-ltb}
use Rattle.base.specs.Choice.{pick}
use Rattle.base.specs.Lists.{all, once}
use Rattle.base.specs.Laws.Tests.{and_l, and_r, both, and_i, or_false_r, pick_elim}
use Rattle.base.specs.Laws.Keep.{all_keep, all_keep_imp, all_imp, all_set, all_get_d_or, first_or}
use Rattle.base.specs.Laws.Maps.{all_map_imp}
use Rattle.base.specs.Laws.Counting.{once_keep, map_at_names}
use Rattle.base.specs.Laws.Listed.{all_added, once_added}
use Rattle.model.specs.Plans.{first_of, invalid_request}
use Rattle.model.specs.Handlers.{Setting, Unset, Ignore, Label, Task, unset_task, settings_of, or_else, decides, listed, set_at, set_to, handle, ignore, reset, forget, sound_setting, sound_task, sound_tasks}
use Rattle.model.specs.Laws.PlanLaws.{clears}

abbrev name_of : Task → ℕ
name_of t = t.name

-- ---- the view

pub record TasksSound (l : List Task) : Type 0 where
  pub unique : once (map (λ (t : Task). t.name) l) ≡ true
  pub each : all sound_task l ≡ true

module _ (l : List Task) where
  pub view_tasks : sound_tasks l ≡ true → TasksSound l
  unfolding sound_tasks
  view_tasks h = let p = both _ _ h in record { unique = p.0; each = p.1 }

  pub unview_tasks : TasksSound l → sound_tasks l ≡ true
  unfolding sound_tasks
  unview_tasks s = and_i s.unique s.each

pub no_tasks_sound : sound_tasks [] ≡ true
no_tasks_sound = unview_tasks [] (record { unique = refl; each = refl })

-- ---- a setting is made

module _ (l : List Task) (n c : ℕ) (x : Setting) where
  -- what the change of a task keeps, and a task that is added has, all have
  set_all : (p : Task → Bool) → ((t : Task) → p t ≡ true → p (set_at c x t) ≡ true) → all p l ≡ true → p (unset_task n) ≡ true
      → all p (set_to l n c x) ≡ true
  set_all p i h e =
      all_map_imp (λ (t : Task). pick (eqb t.name n) (set_at c x t) t) p p
      (λ t k. pick_elim (λ (r : Task). p r ≡ true) (eqb t.name n) (set_at c x t) t (λ _. i t k) (λ _. k))
      (listed l n) (all_added name_of (unset_task n) l p h e)

  set_at_sound : sound_setting x ≡ true → (t : Task) → sound_task t ≡ true → sound_task (set_at c x t) ≡ true
  set_at_sound e t h =
      let long : Bool = eqb (length t.settings) (suc invalid_request) in
      let a = and_l long (all sound_setting t.settings) h in
      let b = and_r long (all sound_setting t.settings) h in
      rw length-set (and_i a (all_set sound_setting t.settings c x b e))

  pub set_sound : sound_setting x ≡ true → sound_tasks l ≡ true → sound_tasks (set_to l n c x) ≡ true
  set_sound e h =
      let s = view_tasks l h in
      unview_tasks (set_to l n c x)
      (record {
        unique = ap once (map_at_names name_of (set_at c x) n (λ t. refl) (listed l n)) ∙ once_added name_of (unset_task n) l s.unique;
        each = set_all sound_task (set_at_sound e) s.each refl;
      })

  pub set_named : (P : ℕ → Bool) → all (λ (t : Task). P t.name) l ≡ true → P n ≡ true
      → all (λ (t : Task). P t.name) (set_to l n c x) ≡ true
  set_named P h e = set_all (λ (t : Task). P t.name) (λ t k. k) h e

-- ---- 15 handle, 16 ignore, 17 reset

module _ (l : List Task) (n c : ℕ) where
  pub handle_sound : (label : ℕ) → label < 2 ^ 16 → sound_tasks l ≡ true → first_of (handle l n c label).checks ≡ 0
      → sound_tasks (handle l n c label).effect.state ≡ true
  unfolding handle
  handle_sound label w h e =
      let some = eqb-false label 0 (or_false_r (ltb invalid_request c) (eqb label 0) (clears (handle l n c label).checks refl e).0) in
      set_sound l n c (Label label) (and_i (le-leb 1 label (omega arith)) (lt-ltb label (2 ^ 16) w)) h

  pub ignore_sound : sound_tasks l ≡ true → first_of (ignore l n c).checks ≡ 0 → sound_tasks (ignore l n c).effect.state ≡ true
  unfolding ignore
  ignore_sound h e = set_sound l n c Ignore refl h

  pub reset_sound : sound_tasks l ≡ true → first_of (reset l n c).checks ≡ 0 → sound_tasks (reset l n c).effect.state ≡ true
  unfolding reset
  reset_sound h e = set_sound l n c Unset refl h

-- ---- a task is forgotten

module _ (l : List Task) (n : ℕ) where
  abbrev other : Task → Bool
  other t = not (eqb t.name n)

  pub forget_sound : sound_tasks l ≡ true → sound_tasks (forget l n) ≡ true
  forget_sound h =
      let s = view_tasks l h in
      unview_tasks (forget l n) (record { unique = once_keep name_of other l s.unique; each = all_keep sound_task other l s.each })

  pub forget_named : (P : ℕ → Bool) → all (λ (t : Task). P t.name) l ≡ true
      → all (λ (t : Task). P t.name && not (eqb t.name n)) (forget l n) ≡ true
  forget_named P h = all_keep_imp (λ (t : Task). P t.name) other (λ (t : Task). P t.name && other t) (λ t a b. and_i a b) l h

-- ---- the setting that decides

or_else_sound : (x y : Setting) → sound_setting x ≡ true → sound_setting y ≡ true → sound_setting (or_else x y) ≡ true
or_else_sound Unset y h k = k
or_else_sound Ignore y h k = h
or_else_sound (Label n) y h k = h

module _ (l : List Task) (n : ℕ) where
  -- also of a task that is not listed
  settings_sound : sound_tasks l ≡ true → all sound_setting (settings_of l n) ≡ true
  settings_sound h =
      first_or (λ (t : Task). eqb t.name n) (λ (t : Task). all sound_setting t.settings) (unset_task n) l refl
      (all_imp sound_task (λ (t : Task). all sound_setting t.settings)
      (λ t. and_r (eqb (length t.settings) (suc invalid_request)) (all sound_setting t.settings)) l (view_tasks l h).each)

  setting_sound : (c : ℕ) → sound_tasks l ≡ true → sound_setting (get_or (settings_of l n) c Unset) ≡ true
  setting_sound c h = all_get_d_or sound_setting (settings_of l n) c Unset refl (settings_sound h)

  pub decides_sound : (c : ℕ) → sound_tasks l ≡ true → sound_setting (decides l n c) ≡ true
  decides_sound c h =
      or_else_sound (get_or (settings_of l n) c Unset) (get_or (settings_of l n) 0 Unset) (setting_sound c h) (setting_sound 0 h)

  pub decided_label : (c k : ℕ) → sound_tasks l ≡ true → decides l n c ≡ Label k → (1 ≤ k) × (k < 2 ^ 16)
  decided_label c k h e =
      let s : (leb 1 k && ltb k (2 ^ 16)) ≡ true = rw e at (decides_sound c h) in
      (leb-true 1 k (and_l (leb 1 k) (ltb k (2 ^ 16)) s), ltb-true k (2 ^ 16) (and_r (leb 1 k) (ltb k (2 ^ 16)) s))
