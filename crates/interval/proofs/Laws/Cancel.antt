-- Cancelling is what the model does. Assumes nothing.
use Rattle.std.specs.Prelude.{◌≡◌, ℕ, ◌<◌, Bool, true, false, not, ◌||◌, [], ◌==◌, slice_index_or, Some, None, Ok, Err}
use Rattle.std.specs.List.{position}
use Rattle.std.proofs.Math.Path.{sym}
use Rattle.std.proofs.Common.{ap, ◌∙◌, arith, length-take, get_or-take, eq-eqb, ne_eqb}
use Rattle.base.specs.Lists.{any, first, first_at, cut_at}
use Rattle.base.specs.Bytes.{blank}
use Rattle.base.specs.Laws.Tests.{by_test, no}
use Rattle.base.specs.Laws.Keep.{first_at_lt, get_d_first_at}
use Rattle.base.specs.Laws.Counting.{all_named}
use Rattle.model.specs.Limits.{cabinet}
use Rattle.model.specs.Plans.{Outcome, first_of, obey}
use Rattle.model.specs.Interval as model
use Rattle.model.proofs.Laws.SoundInterval.{cancel_sound}
use Rattle.interval.specs.declared.Requests.{Requests}
use Rattle.interval.specs.Table.{live, with_live}
use Rattle.interval.specs.Stands.{interval_at, Means, sound_r, Done}
use Rattle.interval.specs.Rows.{active, named, out_row}
use Rattle.interval.specs.Cancel.{cancel_in, cancel_gives, cancelled}
use Rattle.interval.specs.declared.answers.CancelError.TheVariants as answers
use Rattle.interval.specs.Answers.{Cancelled}
use Rattle.interval.specs.Laws.Ties.{Small, small, finish}
use Rattle.interval.proofs.Laws.Standing.{name_of, known_at, task_at, names_once, cut_small}
use Rattle.interval.proofs.Laws.Remove.{cut_stands}
use Rattle.interval.proofs.Places.{placed, nowhere}

abbrev CancelDone : ℕ → Requests → ℕ → Cancelled → Type 0
CancelDone c t n r = Done c c t r.requests (model.cancel (interval_at c t) n) (cancel_gives r.outcome) 0 []

module _ (c : ℕ) (t : Requests) (n : ℕ) (m : Means t c) (s : sound_r t ≡ true) where
  -- the first of a name, read in its row
  row_of_lem : any (named n) (live t) ≡ true → slice_index_or t.rows (first_at (named n) (live t)) out_row ≡ first (named n) out_row (live t)
  row_of_lem h =
      let k : first_at (named n) (live t) < t.count = omega (arith, first_at_lt (named n) (live t) h, length-take t.count t.rows) in
      sym (get_or-take t.count t.rows (first_at (named n) (live t)) out_row k) ∙ get_d_first_at (named n) out_row (live t)

  abbrev absent : Bool
  absent = not (any (named n) (live t)) || active (slice_index_or t.rows (first_at (named n) (live t)) out_row)

  absent_at : (not (model.known_request (interval_at c t).requests n) || model.active_task (interval_at c t) n) ≡ absent
  absent_at =
      rw (known_at c t n, task_at c t n)
      (by_test (any (named n) (live t))
      (λ h. rw (h, row_of_lem h) (all_named name_of n out_row active (live t) (names_once c t m s) h)) (λ h. rw h))

  there : absent ≡ false → any (named n) (live t) ≡ true
  there e = by_test (any (named n) (live t)) (λ h. h) (λ h. no (sym (rw h at e)))

  cancel_outcome : ◌≡◌ {A = Outcome model.Interval}
      (record { condition = cancel_gives (cancel_in t n).outcome; number = 0; bytes = []; state = interval_at c (cancel_in t n).requests })
      (obey (interval_at c t) (first_of (model.cancel (interval_at c t) n).checks) (model.cancel (interval_at c t) n).effect)
  unfolding cancel_in model.cancel
  cancel_outcome =
      rw absent_at
      (by_test (n == blank 8) (λ e. rw e)
      (λ e. rw e
      (by_test absent (λ f. rw f)
      (λ f. rw f (ap (λ (i : model.Interval). record { condition = 0; number = 0; bytes = []; state = i }) (cut_stands c t n m s (there f)))))))

  cancel_small : Small (cancel_in t n).requests
  unfolding cancel_in
  cancel_small =
      by_test (n == blank 8) (λ e. rw e (small t s))
      (λ e. rw e
      (by_test absent (λ f. rw f (small t s))
      (λ f. rw f (cut_small t (small t s) (first_at (named n) (live t)) (first_at_lt (named n) (live t) (there f))))))

  cancel_means : Means (cancel_in t n).requests c
  unfolding cancel_in
  cancel_means = by_test (n == blank 8) (λ e. rw e m) (λ e. rw e (by_test absent (λ f. rw f m) (λ f. rw f m)))

  pub cancel_done : CancelDone c t n (cancel_in t n)
  cancel_done =
      finish c c t (cancel_in t n).requests (model.cancel (interval_at c t) n) (cancel_gives (cancel_in t n).outcome) 0 [] m s cancel_outcome
      (λ h e. cancel_sound cabinet (interval_at c t) h n e) cancel_means cancel_small

-- ---- both clauses

pub cancel_both : (t : Requests) (n : ℕ) (r : Cancelled) → r ≡ cancel_in t n
    → (r ≡ cancel_in t n) × ((c : ℕ) → Means t c → sound_r t ≡ true → CancelDone c t n r)
cancel_both t n r e = (e, λ c m s. rw e (cancel_done c t n m s))

-- ---- the code's ends

module _ (t : Requests) (n : ℕ) where
  pub cancel_blank : n ≡ blank 8 → cancelled t (Err answers.Invalid) ≡ cancel_in t n
  unfolding cancel_in
  cancel_blank e = rw (eq-eqb n (blank 8) e)

  module _ (ne : n ≡ blank 8 → ⊥) where
    pub cancel_missing : None ≡ position (named n) (live t) → cancelled t (Err answers.NotFound) ≡ cancel_in t n
    unfolding cancel_in
    cancel_missing e = rw (ne_eqb n (blank 8) ne, nowhere (named n) (live t) e)

    module _ (i : ℕ) (e : Some i ≡ position (named n) (live t)) where
      pub cancel_active : active (slice_index_or t.rows i out_row) ≡ true → cancelled t (Err answers.NotFound) ≡ cancel_in t n
      unfolding cancel_in
      cancel_active a = let p = placed (named n) (live t) i e in rw (ne_eqb n (blank 8) ne, p.0, sym p.1, a)

      pub cancel_hit : active (slice_index_or t.rows i out_row) ≡ false → (u : Requests) → u ≡ with_live t (cut_at i (live t))
          → cancelled u (Ok tt) ≡ cancel_in t n
      unfolding cancel_in
      cancel_hit a u eu = let p = placed (named n) (live t) i e in rw (ne_eqb n (blank 8) ne, p.0, sym p.1, a, eu)
