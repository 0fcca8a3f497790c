-- A record comes to the same by lanes as by `step_on`. Assumes nothing.
use Rattle.std.specs.Prelude.{◌≡◌, Bool, true, false, ◌||◌, List, ℕ, ◌-◌, Ok, Err, eqb, leb, length}
use Rattle.std.proofs.Math.Path.{refl, ap}
use Rattle.std.proofs.Common.{◌∙◌}
use Rattle.base.specs.Choice.{pick}
use Rattle.base.specs.Bytes.{blank}
use Rattle.base.specs.Laws.Tests.{by_test, and_r, no}
use Rattle.model.specs.Laws.Rows.{of_every, ◌▹◌}
use Rattle.model.specs.Plans.{normal, Outcome, fault, done}
use Rattle.model.specs.Commands.{command, issuer, fits, wrong_kind, row_of, formed}
use Rattle.handlers.specs.Decide.{decide_in}
use Rattle.handlers.specs.declared.Setting.{Setting}
use Rattle.handlers.specs.declared.Setting.TheVariants.{Unset, Ignore, Label}
use Rattle.monitor.specs.declared.Tables.{Tables}
use Rattle.records.specs.Rows.{part_of}
use Rattle.records.specs.declared.Part.{Part}
use Rattle.records.specs.declared.Part.TheVariants.{Interval, Finish, Queues, Settings}
use Rattle.monitor.specs.declared.lanes.Refusal.TheVariants.{Malformed, Stranger, Wrong}
use Rattle.monitor.specs.Table.{without_task}
use Rattle.monitor.specs.Lanes.{Lane, lane_of, laned, heard_in, finishes_in, setting_for, verdict_of, judged, lane_step}
use Rattle.monitor.specs.Step.{decided_in, settle_in, refused_in, allowed_in, deed, obeyed_in, step_on}

-- ---- the handlers

-- where they may decide, and the task does not finish
settled : (l : Lane) (n : ℕ) (o : Outcome Tables) → heard_in l ≡ true → finishes_in l ≡ false → settle_in n o ≡ judged n o (verdict_of l (setting_for l n o))
unfolding settle_in
settled l n o h f = by (eqb o.condition normal) (eqb n (blank 8)) (decide_in o.state.parts.tasks n o.condition)
  where
    by : (a b : Bool) (x : Setting) → pick (a || b) (decided_in o n Ignore) (decided_in o n x)
        ≡ judged n o (verdict_of l (pick (pick a false (pick b false (heard_in l))) x Ignore))
    by true b x = rw f
    by false true x = rw f
    by false false Unset = rw h
    by false false Ignore = rw (h, f)
    by false false (Label k) = rw (h, f)

-- where they may not
refused : (l : Lane) (c n : ℕ) (t : Tables) → heard_in l ≡ false → finishes_in l ≡ false → refused_in t c ≡ judged n (fault t c) (verdict_of l (setting_for l n (fault t c)))
refused l c n t h f = by (eqb c normal) (eqb n (blank 8)) (decide_in t.parts.tasks n c)
  where
    by : (a b : Bool) (x : Setting) → refused_in t c ≡ judged n (fault t c) (verdict_of l (pick (pick a false (pick b false (heard_in l))) x Ignore))
    by true b x = rw f
    by false true x = rw f
    by false false x = rw (h, f)

-- ---- the part of a command

abbrev by_number : ℕ → Part
by_number n = pick (leb n 8) Interval (pick (eqb n 9) Finish (pick (leb n 14) Queues Settings))

-- of a command whose operands can fit, so that it is one of the 17
same_part : (k n : ℕ) → fits (row_of n).size k ≡ true → by_number n ≡ part_of n
same_part k =
    of_every (λ n w. fits w.size k ≡ true → by_number n ≡ part_of n) (λ n h. no h)
    ((λ h. refl) ▹ (λ h. refl) ▹ (λ h. refl) ▹ (λ h. refl) ▹ (λ h. refl) ▹ (λ h. refl) ▹ (λ h. refl) ▹ (λ h. refl) ▹ (λ h. refl)
    ▹ (λ h. refl) ▹ (λ h. refl) ▹ (λ h. refl) ▹ (λ h. refl) ▹ (λ h. refl) ▹ (λ h. refl) ▹ (λ h. refl) ▹ (λ h. refl) ▹ tt)

fitted : (r : List ℕ) → formed r ≡ true → fits (row_of (command r)).size (length r - 9) ≡ true
unfolding formed
fitted r e = and_r (leb 9 (length r)) _ e

-- ---- one record

module _ (t : Tables) (r : List ℕ) where
  malformed : refused_in t 33 ≡ lane_step (Err Malformed) (issuer r) t r
  unfolding lane_step
  malformed = refused (Err Malformed) 33 (issuer r) t refl refl

  stranger : refused_in t 34 ≡ lane_step (Err Stranger) (issuer r) t r
  unfolding lane_step
  stranger = refused (Err Stranger) 34 (issuer r) t refl refl

  wrong : settle_in (issuer r) (fault t 10) ≡ lane_step (Err Wrong) (issuer r) t r
  unfolding lane_step
  wrong = settled (Err Wrong) (issuer r) (fault t 10) refl refl

  finished : settle_in (issuer r) (done (without_task t (issuer r)) 0) ≡ lane_step (Ok Finish) (issuer r) t r
  unfolding settle_in lane_step
  finished = refl

  -- by the number of the command
  numbered : settle_in (issuer r) (deed (command r) t r) ≡ lane_step (Ok (by_number (command r))) (issuer r) t r
  unfolding deed lane_step
  numbered =
      by_test (leb (command r) 8) (λ e. rw e (settled (Ok Interval) (issuer r) (laned (Ok Interval) t r) refl refl))
      (λ e.
      by_test (eqb (command r) 9) (λ f. rw (e, f) finished)
      (λ f.
      by_test (leb (command r) 14) (λ g. rw (e, f, g) (settled (Ok Queues) (issuer r) (laned (Ok Queues) t r) refl refl))
      (λ g. rw (e, f, g) (settled (Ok Settings) (issuer r) (laned (Ok Settings) t r) refl refl))))

  heard : formed r ≡ true → settle_in (issuer r) (deed (command r) t r) ≡ lane_step (Ok (part_of (command r))) (issuer r) t r
  heard e = numbered ∙ ap (λ (p : Part). lane_step (Ok p) (issuer r) t r) (same_part (length r - 9) (command r) (fitted r e))

  pub by_lanes : step_on t r ≡ lane_step (lane_of (allowed_in t.parts r) (issuer r) r) (issuer r) t r
  unfolding step_on lane_of obeyed_in
  by_lanes =
      by_test (formed r)
      (λ e.
      by_test (allowed_in t.parts r)
      (λ f.
      by_test (wrong_kind (row_of (command r)).who (issuer r)) (λ g. rw (e, f, g) wrong)
      (λ g. rw (e, f, g) (heard e)))
      (λ f. rw (e, f) stranger))
      (λ e. rw e malformed)
