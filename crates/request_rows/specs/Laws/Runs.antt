-- The operations one after the other, any number of them, come to what they come to in the model, whose clock never wraps: from sound memory, at any
-- clock that its register can mean (`ran`), and so from fresh memory of any sizes at any register value (`runs_fresh`). Assumes nothing.
use Rattle.std.specs.Prelude.{ℕ, ◌%◌, ◌^◌, ◌≡◌, refl, true, List, [], ◌∷◌, length, Option, Some, None}
use Rattle.std.proofs.Common.{ap, ap₂, ◌∙◌, arith, ltb-true}
use Rattle.base.specs.Lists.{all}
use Rattle.base.specs.Laws.Tests.{by_test, and_l, and_r, both}
use Rattle.model.specs.Limits.{Limits}
use Rattle.model.specs.Plans.{Outcome, Plan, done, outcome_in, Follows}
use Rattle.model.specs.Interval as model
use Rattle.request_rows.specs.Active.{task_in}
use Rattle.request_rows.specs.Runs.{Ask, Program, Terminal, Advance, AskTicks, Dispatch, Start, Cancel, Retrieve, Remove, in_range, retrieved, turn, obeyed, model_turn, Heard, heard, outcomes, left, model_outcomes, model_left}
use Rattle.request_rows.specs.Stands.{Memory, limits_of, interval_at, Fine}
use Rattle.request_rows.specs.Typed.{Typed, TypedAsked, SameSizes, Keeps}
use Rattle.request_rows.specs.Laws.Active.{nobody_stands}
use Rattle.request_rows.specs.Laws.Advance.{advance_follows}
use Rattle.request_rows.specs.Laws.Ask.{ask_follows}
use Rattle.request_rows.specs.Laws.Cancel.{cancel_follows}
use Rattle.request_rows.specs.Laws.Define.{program_follows, terminal_follows}
use Rattle.request_rows.specs.Laws.Dispatch.{dispatch_follows}
use Rattle.request_rows.specs.Laws.Fresh.{fresh_memory, fresh_fine, fresh_stands}
use Rattle.request_rows.specs.Laws.Kept.{program_kept, terminal_kept, advance_kept, ask_kept, dispatch_kept, start_kept, cancel_kept, retrieve_kept, remove_kept, fresh_kept}
use Rattle.request_rows.specs.Laws.Remove.{remove_follows}
use Rattle.request_rows.specs.Laws.Retrieve.{retrieve_follows}
use Rattle.request_rows.specs.Laws.Start.{start_follows}

-- ---- one

pub same_limits : {m m' : Memory} → SameSizes m m' → limits_of m' ≡ limits_of m
same_limits s = rw (s.programs, s.terminals, s.rows, s.area)

-- what an operation has done, at a clock and at the clock that follows; r is what the model comes to
pub record Turned (c : ℕ) (m : Memory) (o : Outcome Memory) (r : Outcome model.Interval) : Type 0 where
  pub clock : ℕ
  pub outcome : outcome_in (interval_at clock) o ≡ r
  pub fine : Fine clock o.state
  pub keeps : Keeps m o.state

asked_typed : (a : model.Asked) → in_range (Start a) ≡ true → TypedAsked a
asked_typed a h =
    let p4 = both _ _ h in
    let p3 = both _ _ p4.0 in
    let p2 = both _ _ p3.0 in
    let p1 = both _ _ p2.0 in
    record { name = ltb-true _ _ p1.0; program = ltb-true _ _ p1.1; terminal = ltb-true _ _ p2.1; bytes = p4.1 }

module _ (c : ℕ) (m : Memory) (y : Typed m) (f : Fine c m) where
  -- of what obeys a plan
  by_plan : {c' : ℕ} {o : Outcome Memory} {p : Plan model.Interval} → Follows (interval_at c') (Fine c') o (interval_at c m) p → Keeps m o.state
      → Turned c m o (obeyed (interval_at c m) p)
  by_plan {c'} d k = record { clock = c'; outcome = d.outcome; fine = d.soundly; keeps = k }

  itself : Keeps m m
  itself = record { typed = y; sizes = record { programs = refl; terminals = refl; register = refl; rows = refl; past = refl; area = refl } }

  -- there is nobody in the memory exactly where the model has no such task
  retrieve_turned : (n room : ℕ) (x : Option ℕ) → task_in m.requests n ≡ x → Turned c m (retrieved m room x) (model_turn (limits_of m) (interval_at c m) (Retrieve n room))
  retrieve_turned n room (Some k) e =
      by_test (model.active_task (interval_at c m) n) (λ on. rw on (by_plan (retrieve_follows c m f n k room e) (retrieve_kept m y k room)))
      (λ off. absurd (let z : ◌≡◌ {A = ℕ} 0 1 = cc ((nobody_stands c m n).1 off) in omega arith))
  retrieve_turned n room None e =
      rw ((nobody_stands c m n).0 e) (record { clock = c; outcome = refl; fine = f; keeps = itself })

  pub turned : (a : Ask) → in_range a ≡ true → Turned c m (turn m a) (model_turn (limits_of m) (interval_at c m) a)
  turned (Program n) h = let w = ltb-true n (2 ^ 32) h in by_plan (program_follows c m f n w) (program_kept m y n w)
  turned (Terminal n) h = let w = ltb-true n (2 ^ 32) h in by_plan (terminal_follows c m f n w) (terminal_kept m y n w)
  turned (Advance n) h = by_plan (advance_follows c m f n) (advance_kept m y n)
  turned AskTicks h = by_plan (ask_follows c m f) (ask_kept m y)
  turned Dispatch h = by_plan (dispatch_follows c m f) (dispatch_kept m y)
  turned (Start a) h = let w = asked_typed a h in by_plan (start_follows c m f a w.name w.terminal w.bytes) (start_kept m y a w)
  turned (Cancel n) h = by_plan (cancel_follows c m f n) (cancel_kept m y n)
  turned (Retrieve n room) h = retrieve_turned n room (task_in m.requests n) refl
  turned (Remove n) h =
      let d = remove_follows c m f n in
      record { clock = c; outcome = ap (λ (i : model.Interval). done i 0) d.0; fine = d.1; keeps = remove_kept m y n }

-- ---- any number

-- what a list of them has done, where the model starts from i
pub record Ran (L : Limits) (i : model.Interval) (m : Memory) (l : List Ask) : Type 0 where
  pub clock : ℕ
  pub hears : outcomes m l ≡ model_outcomes L i l
  pub stands : interval_at clock (left m l) ≡ model_left L i l
  pub fine : Fine clock (left m l)
  pub typed : Typed (left m l)
  pub limits : limits_of (left m l) ≡ L

pub ran : (l : List Ask) (c : ℕ) (m : Memory) → Typed m → Fine c m → all in_range l ≡ true → Ran (limits_of m) (interval_at c m) m l
unfolding outcomes left model_outcomes model_left
ran [] c m y f h = record { clock = c; hears = refl; stands = refl; fine = f; typed = y; limits = refl }
ran (a ∷ l) c m y f h =
    let d = turned c m y f a (and_l (in_range a) (all in_range l) h) in
    let r = ran l d.clock (turn m a).state d.keeps.typed d.fine (and_r (in_range a) (all in_range l) h) in
    let same = same_limits d.keeps.sizes in
    record {
      clock = r.clock;
      hears = ap (λ (t : List Heard). heard (turn m a) ∷ t) r.hears
          ∙ ap₂ (λ (L : Limits) (o : Outcome model.Interval). heard o ∷ model_outcomes L o.state l) same d.outcome;
      stands = r.stands ∙ ap₂ (λ (L : Limits) (o : Outcome model.Interval). model_left L o.state l) same d.outcome;
      fine = r.fine;
      typed = r.typed;
      limits = r.limits ∙ same;
    }

-- Demand 3 for this part: from fresh memory, of the sizes of any m with a word for the register, at every clock that the register can mean, what is heard is what is heard of the model,
-- and the memory at the end stands for the model's state at the end and is sound.
module _ (m : Memory) (y : Typed m) (lent : length m.requests.register ≡ 1) (v c : ℕ) (means : c % 2 ^ 32 ≡ v) (l : List Ask) (h : all in_range l ≡ true) where
  pub ran_fresh : Ran (limits_of m) (model.idle_at c) (fresh_memory m m.area v) l
  ran_fresh =
      let k = fresh_kept m y v (omega arith) in
      rw (← fresh_stands m m.area v c, ← same_limits k.sizes) (ran l c (fresh_memory m m.area v) k.typed (fresh_fine m m.area v c lent means) h)

  pub runs_fresh : outcomes (fresh_memory m m.area v) l ≡ model_outcomes (limits_of m) (model.idle_at c) l
  runs_fresh = ran_fresh.hears
