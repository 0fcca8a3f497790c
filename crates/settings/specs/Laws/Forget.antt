-- Cutting out the first row of a name is what the model does by the name, where names stand once. Assumes nothing.
use Rattle.std.specs.Prelude.{ℕ, ◌≤◌, ◌≡◌, refl, Bool, true, false, map, eqb, length, get_or}
use Rattle.std.proofs.Math.Path.{sym, ap}
use Rattle.std.proofs.Common.{◌∙◌, arith, length-take, eqb-true}
use Rattle.std.proofs.Math.Bool.{not}
use Rattle.base.specs.Lists.{keep, any, first, cut_at}
use Rattle.base.specs.Laws.Tests.{by_test}
use Rattle.base.specs.Laws.Keep.{all_none, keep_all, first_at_lt, first_passes, get_d_first_at}
use Rattle.base.specs.Laws.Maps.{keep_map}
use Rattle.base.specs.Laws.Index.{cut_by_name}
use Rattle.base.specs.Laws.Cut.{length_cut}
use Rattle.base.specs.Laws.Over.{length_over}
use Rattle.model.specs.Handlers as model
use Rattle.model.proofs.Laws.SoundTasks.{forget_sound}
use Rattle.settings.specs.Rows.{Line, name_of, named, no_line}
use Rattle.settings.specs.Table.{Tasks, rows_in, live, place_in, task_of, tasks_of, sound_h}
use Rattle.settings.specs.Forget.{forget_in, Forgotten}
use Rattle.settings.specs.Laws.Standing.{count_fits, model_sound, sound_of, names_once, live_stands}

module _ (t : Tasks) (n : ℕ) where
  -- a row less fits where the rows did
  pub cut_fits : any (named n) (live t) ≡ true → length (cut_at (place_in t n) (live t)) ≤ rows_in t
  cut_fits h = omega (arith, length_cut (place_in t n) (live t) (first_at_lt (named n) (live t) h), length-take t.count t.rows)

  pub forget_rows : rows_in (forget_in t n) ≡ rows_in t
  unfolding forget_in
  forget_rows =
      by_test (any (named n) (live t)) (λ h. rw h (length_over (cut_at (place_in t n) (live t)) t.rows (cut_fits h))) (λ h. rw h)

module _ (t : Tasks) (n : ℕ) (s : sound_h t ≡ true) where
  abbrev other : Line → Bool
  other v = not (named n v)

  -- without the first of a name, which is the only one
  cut_named : any (named n) (live t) ≡ true → cut_at (place_in t n) (live t) ≡ keep other (live t)
  cut_named h =
      let e : (get_or (live t) (place_in t n) no_line).name ≡ n =
      ap name_of (get_d_first_at (named n) no_line (live t))
      ∙ eqb-true (first (named n) no_line (live t)).name n (first_passes (named n) no_line (live t) h) in
      cut_by_name name_of (live t) (place_in t n) no_line (names_once t s) (first_at_lt (named n) (live t) h)
      ∙ ap (λ (m : ℕ). keep (λ (v : Line). not (eqb v.name m)) (live t)) e

  forget_live : model.forget (tasks_of t) n ≡ map task_of (keep other (live t))
  unfolding tasks_of
  forget_live = keep_map task_of other (λ (m : model.Task). not (eqb m.name n)) (λ v. refl) (live t)

  none_live : any (named n) (live t) ≡ false → tasks_of t ≡ map task_of (keep other (live t))
  unfolding tasks_of
  none_live h = ap (map task_of) (sym (keep_all other (live t) (all_none (named n) (live t) ∙ ap not h)))

  pub forget_stands : tasks_of (forget_in t n) ≡ model.forget (tasks_of t) n
  unfolding forget_in
  forget_stands =
      by_test (any (named n) (live t))
      (λ h. rw h (live_stands t (cut_at (place_in t n) (live t)) ∙ ap (map task_of) (cut_named h) ∙ sym forget_live))
      (λ h. rw h (none_live h ∙ sym forget_live))

  forget_count : (forget_in t n).count ≤ rows_in t
  unfolding forget_in
  forget_count = by_test (any (named n) (live t)) (λ h. rw h (cut_fits t n h)) (λ h. rw h (count_fits t s))

  pub forget_done : Forgotten t n (forget_in t n)
  forget_done =
      let e = forget_stands in
      record {
        stands = e;
        soundly =
            sound_of (forget_in t n) (rw (forget_rows t n) forget_count)
            (ap model.sound_tasks e ∙ forget_sound (tasks_of t) n (model_sound t s));
      }
