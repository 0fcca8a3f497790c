-- Fresh settings are none, and sound; what the type says is so of them, and each exact definition keeps it. Assumes nothing.
use Rattle.std.specs.Prelude.{ℕ, suc, ◌^◌, ◌<◌, ◌≤◌, ◌≡◌, Bool, true, ◌&&◌, ◌||◌, List, [], ◌∷◌, ◌++◌, ltb, length, take, drop, set}
use Rattle.std.proofs.Math.Path.{refl}
use Rattle.std.proofs.Common.{ap, ◌∙◌, arith, length-set, lt-ltb, ltb-true, ltb-false}
use Rattle.std.proofs.Math.Dec.{eqb}
use Rattle.std.proofs.Math.ListN.{length-append, length-take, length-drop}
use Rattle.base.specs.Lists.{all, any, cut_at}
use Rattle.base.specs.Laws.Tests.{and_l, and_r, and_i, pick_elim}
use Rattle.base.specs.Laws.Keep.{all_append, all_drop, all_take, all_set, first_or}
use Rattle.base.specs.Laws.Over.{length_over}
use Rattle.model.proofs.Laws.SoundTasks.{no_tasks_sound}
use Rattle.handlers.specs.declared.Setting.{Setting}
use Rattle.handlers.specs.declared.Setting.TheVariants.{Unset, Ignore, Label}
use Rattle.handlers.specs.declared.Cell.{Cell}
use Rattle.handlers.specs.declared.Task.{Task}
use Rattle.handlers.specs.declared.Tasks.{Tasks}
use Rattle.handlers.specs.declared.answers.Handled.{Handled}
use Rattle.handlers.specs.Table.{live, with_live, tasks_of, sound_h}
use Rattle.handlers.specs.Rows.{named, unset_row, with_setting, place_in, task_in}
use Rattle.handlers.specs.Fresh.{no_tasks, Fresh}
use Rattle.handlers.specs.Set.{put_in, set_in, set_to, handle_in, ignore_in, reset_in}
use Rattle.handlers.specs.Forget.{forget_in}
use Rattle.handlers.specs.Laws.Every.{wide_setting, typed_row, Typed}

pub none_fresh : Fresh no_tasks
unfolding no_tasks tasks_of sound_h
none_fresh = record { none = refl; soundly = no_tasks_sound }

pub fresh_typed : Typed no_tasks
unfolding no_tasks
fresh_typed = record { rows = refl; each = refl }

-- ---- rows

abbrev wide_cell : Cell → Bool
wide_cell e = wide_setting e.setting

unset_typed : (n : ℕ) → n < 2 ^ 64 → typed_row (unset_row n) ≡ true
unset_typed n h = and_i (lt-ltb n (2 ^ 64) h) refl

setting_typed : (c : ℕ) (x : Setting) (v : Task) → wide_setting x ≡ true → typed_row v ≡ true → typed_row (with_setting c x v) ≡ true
setting_typed c x v w h =
    let rest = and_r (ltb v.name (2 ^ 64)) (eqb (length v.cells) 11 && all wide_cell v.cells) h in
    let long : eqb (length (set v.cells c (record { setting = x }))) 11 ≡ true =
    ap (λ (k : ℕ). eqb k 11) (length-set v.cells c (record { setting = x })) ∙ and_l (eqb (length v.cells) 11) (all wide_cell v.cells) rest in
    and_i (and_l (ltb v.name (2 ^ 64)) (eqb (length v.cells) 11 && all wide_cell v.cells) h)
    (and_i long (all_set wide_cell v.cells c (record { setting = x }) (and_r (eqb (length v.cells) 11) (all wide_cell v.cells) rest) w))

-- ---- the struct

module _ (t : Tasks) (y : Typed t) where
  live_typed : all typed_row (live t) ≡ true
  live_typed = all_take typed_row t.count t.rows y.each

  -- other live rows
  live_put : (l : List Task) → length l ≤ 16 → all typed_row l ≡ true → Typed (with_live t l)
  live_put l n h = record {
    rows = length_over l t.rows (omega (arith, y.rows)) ∙ y.rows;
    each = all_append typed_row l (drop (length l) t.rows) ∙ and_i h (all_drop typed_row (length l) t.rows y.each);
  }

  put_typed : (i : ℕ) (v : Task) → typed_row v ≡ true → Typed (put_in t i v)
  put_typed i v h =
      pick_elim Typed (ltb i (length (live t))) _ _
      (λ _. record { rows = length-set t.rows i v ∙ y.rows; each = all_set typed_row t.rows i v y.each h })
      (λ f. pick_elim Typed (ltb i 16) _ _
      (λ e.
      let a = ltb-false i (length (live t)) f in
      let b = ltb-true i 16 e in
      live_put (live t ++ (v ∷ [])) (omega (arith, length-append (live t) (v ∷ [])))
      (all_append typed_row (live t) (v ∷ []) ∙ and_i live_typed (and_i h refl)))
      (λ _. y))

  module _ (n : ℕ) (w : n < 2 ^ 64) where
    set_typed : (c : ℕ) (x : Setting) → wide_setting x ≡ true → Typed (set_in t n c x)
    unfolding set_in
    set_typed c x h =
        put_typed (place_in t n) (with_setting c x (task_in t n))
        (setting_typed c x (task_in t n) h (first_or (named n) typed_row (unset_row n) (live t) (unset_typed n w) live_typed))

    -- all three commands
    to_typed : (refused : Bool) (c : ℕ) (x : Setting) → wide_setting x ≡ true → Typed (set_to refused t n c x).tasks
    to_typed refused c x h = pick_elim (λ (r : Handled). Typed r.tasks) refused _ _ (λ _. y) (λ _. set_typed c x h)

    pub handle_typed : (c label : ℕ) → label < 2 ^ 16 → Typed (handle_in t n c label).tasks
    unfolding handle_in
    handle_typed c label h = to_typed (ltb 10 c || eqb label 0) c (Label label) (lt-ltb label (2 ^ 16) h)

    pub ignore_typed : (c : ℕ) → Typed (ignore_in t n c).tasks
    unfolding ignore_in
    ignore_typed c = to_typed (ltb 10 c) c Ignore refl

    pub reset_typed : (c : ℕ) → Typed (reset_in t n c).tasks
    unfolding reset_in
    reset_typed c = to_typed (ltb 10 c) c Unset refl

  pub forget_typed : (n : ℕ) → Typed (forget_in t n)
  unfolding forget_in
  forget_typed n =
      let i = place_in t n in
      pick_elim Typed (any (named n) (live t)) _ _
      (λ _. live_put (cut_at i (live t))
      (omega (arith, length-append (take i (live t)) (drop (suc i) (live t)), length-take i (live t), length-drop (suc i) (live t), length-take t.count t.rows, y.rows))
      (all_append typed_row (take i (live t)) (drop (suc i) (live t)) ∙ and_i (all_take typed_row i (live t) live_typed) (all_drop typed_row (suc i) (live t) live_typed)))
      (λ _. y)
