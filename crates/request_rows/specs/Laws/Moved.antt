-- From two register values the same operations are heard alike, but for the ticks that are asked for, which differ by as much as the registers do
-- (`moved`); where none are asked for, the register does not show (`alike`). Of fresh memory of any sizes. Assumes nothing.
use Rattle.std.specs.Prelude.{ℕ, zero, suc, ◌+◌, ◌-◌, ◌%◌, ◌^◌, ◌<◌, ◌≡◌, true, false, not, length}
use Rattle.std.proofs.Math.Path.{refl, ap}
use Rattle.std.proofs.Common.{sym, ◌∙◌}
use mathlib.Core.List.{List, [], ◌∷◌}
use native.Mathlib.Omega.{arith}
use Rattle.std.proofs.lemmas.Bool.{not-true}
use Rattle.base.specs.Lists.{all}
use Rattle.base.specs.Laws.Tests.{and_l, and_r, pick_map}
use Rattle.model.specs.Limits.{Limits}
use Rattle.model.specs.Plans.{Outcome, Plan, fault, done, first_of, obey, outcome_in, plan_in}
use Rattle.model.specs.Interval as model
use Rattle.model.proofs.Laws.Shift.{shift_interval, task_shift, remove_shift, program_shift, terminal_shift, advance_shift, dispatch_shift, start_shift, cancel_shift, retrieve_shift}
use Rattle.request_rows.specs.Runs.{Ask, Program, Terminal, Advance, AskTicks, Dispatch, Start, Cancel, Retrieve, Remove, in_range, unknown_issuer, obeyed, model_turn, Heard, heard, outcomes, model_outcomes, asks_ticks, retick, reticked}
use Rattle.request_rows.specs.Stands.{Memory, limits_of}
use Rattle.request_rows.specs.Typed.{Typed}
use Rattle.request_rows.specs.Laws.Fresh.{fresh_memory}
use Rattle.request_rows.specs.Laws.Runs.{runs_fresh}

-- ---- the model, its clock moved on by k

module _ (L : Limits) (k : ℕ) where
  pub record Shifts (i : model.Interval) (a : Ask) : Type 0 where
    pub hears : heard (model_turn L (shift_interval k i) a) ≡ retick k a (heard (model_turn L i a))
    pub state : (model_turn L (shift_interval k i) a).state ≡ shift_interval k (model_turn L i a).state

  obey_shift : (i : model.Interval) (n : ℕ) (o : Outcome model.Interval)
      → obey (shift_interval k i) n (outcome_in (shift_interval k) o) ≡ outcome_in (shift_interval k) (obey i n o)
  obey_shift i zero o = refl
  obey_shift i (suc n) o = refl

  -- of what obeys a plan that moves with the clock
  plan_shift : (i : model.Interval) (p q : Plan model.Interval) → q ≡ plan_in (shift_interval k) p
      → obeyed (shift_interval k i) q ≡ outcome_in (shift_interval k) (obeyed i p)
  plan_shift i p q e = rw e (obey_shift i (first_of p.checks) p.effect)

  same : (i : model.Interval) (a : Ask) → asks_ticks a ≡ false → model_turn L (shift_interval k i) a ≡ outcome_in (shift_interval k) (model_turn L i a) → Shifts i a
  same i a h e = record { hears = rw h (ap heard e); state = ap (λ (o : Outcome model.Interval). o.state) e }

  ticks : (i : model.Interval) → Shifts i AskTicks
  unfolding model.ask_ticks
  ticks i =
      let e : (i.clock + k) % 2 ^ 32 ≡ (i.clock % 2 ^ 32 + k) % 2 ^ 32 = omega arith in
      record { hears = ap (λ (n : ℕ). record { condition = 0; number = n; bytes = [] }) e; state = refl }

  turn_shift : (i : model.Interval) (a : Ask) → Shifts i a
  turn_shift i (Program n) = same i (Program n) refl (plan_shift i _ _ (program_shift k i L n))
  turn_shift i (Terminal n) = same i (Terminal n) refl (plan_shift i _ _ (terminal_shift k i L n))
  turn_shift i (Advance n) = same i (Advance n) refl (plan_shift i _ _ (advance_shift k i L n))
  turn_shift i AskTicks = ticks i
  turn_shift i Dispatch = same i Dispatch refl (plan_shift i _ _ (dispatch_shift k i L))
  turn_shift i (Start a) = same i (Start a) refl (plan_shift i _ _ (start_shift k i L a))
  turn_shift i (Cancel n) = same i (Cancel n) refl (plan_shift i _ _ (cancel_shift k i L n))
  turn_shift i (Retrieve n room) =
      same i (Retrieve n room) refl
      (rw (task_shift k i n, plan_shift i (model.retrieve i n room) _ (retrieve_shift k i L n room))
      (sym (pick_map (outcome_in (shift_interval k)) (model.active_task i n) (obeyed i (model.retrieve i n room)) (fault i unknown_issuer))))
  turn_shift i (Remove n) = same i (Remove n) refl (ap (λ (j : model.Interval). done j 0) (remove_shift k i n))

  outcomes_shift : (l : List Ask) (i : model.Interval) → model_outcomes L (shift_interval k i) l ≡ reticked k l (model_outcomes L i l)
  unfolding model_outcomes
  outcomes_shift [] i = refl
  outcomes_shift (a ∷ l) i =
      let d = turn_shift i a in
      rw (d.hears, d.state, outcomes_shift l (model_turn L i a).state)

-- ---- the memory

no_ticks : (d : ℕ) (l : List Ask) (x : List Heard) → all (λ (a : Ask). not (asks_ticks a)) l ≡ true → reticked d l x ≡ x
no_ticks d [] x h = refl
no_ticks d (a ∷ l) [] h = refl
no_ticks d (a ∷ l) (x ∷ r) h =
    let n = not-true (asks_ticks a) (and_l (not (asks_ticks a)) (all (λ (b : Ask). not (asks_ticks b)) l) h) in
    rw (n, no_ticks d l r (and_r (not (asks_ticks a)) (all (λ (b : Ask). not (asks_ticks b)) l) h))

module _ (m : Memory) (y : Typed m) (lent : length m.requests.register ≡ 1) (v w : ℕ) (hv : v < 2 ^ 32) (hw : w < 2 ^ 32) (l : List Ask) (h : all in_range l ≡ true) where
  pub moved : outcomes (fresh_memory m m.area w) l ≡ reticked (w + 2 ^ 32 - v) l (outcomes (fresh_memory m m.area v) l)
  moved =
      let on : w + 2 ^ 32 ≡ v + (w + 2 ^ 32 - v) = omega arith in
      runs_fresh m y lent w (w + 2 ^ 32) (omega arith) l h
      ∙ ap (λ (c : ℕ). model_outcomes (limits_of m) (model.idle_at c) l) on
      ∙ outcomes_shift (limits_of m) (w + 2 ^ 32 - v) l (model.idle_at v)
      ∙ ap (reticked (w + 2 ^ 32 - v) l) (sym (runs_fresh m y lent v v (omega arith) l h))

  pub alike : all (λ (a : Ask). not (asks_ticks a)) l ≡ true → outcomes (fresh_memory m m.area w) l ≡ outcomes (fresh_memory m m.area v) l
  alike n = moved ∙ no_ticks (w + 2 ^ 32 - v) l (outcomes (fresh_memory m m.area v) l) n
