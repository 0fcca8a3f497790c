-- From two register values the same operations are answered alike, but for the ticks that are asked for, which differ by as much as the
-- registers do. Assumes nothing.
use Rattle.std.specs.Prelude.{◌≡◌, ℕ, zero, suc, ◌+◌, ◌-◌, ◌%◌, ◌^◌, ◌<◌, true, false, not, List, [], ◌∷◌}
use Rattle.std.proofs.Math.Path.{refl, ap}
use Rattle.std.proofs.Common.{sym, ◌∙◌}
use native.Mathlib.Omega.{arith}
use Rattle.std.proofs.lemmas.Bool.{not-true}
use Rattle.base.specs.Lists.{all}
use Rattle.base.specs.Laws.Tests.{and_l, and_r}
use Rattle.model.specs.Limits.{cabinet}
use Rattle.model.specs.Plans.{Outcome, Plan, first_of, obey, outcome_in, plan_in}
use Rattle.model.specs.Interval as model
use Rattle.model.proofs.Laws.Shift.{shift_interval, remove_shift, program_shift, terminal_shift, advance_shift, dispatch_shift, start_shift, cancel_shift, retrieve_shift}
use Rattle.interval.specs.Fresh.{fresh_at}
use Rattle.interval.specs.Runs.{Ask, Program, Terminal, Advance, AskTicks, Dispatch, Start, Cancel, Retrieve, Remove, in_range, model_turn, Said, said, outcomes, model_outcomes, asks_ticks, retick, reticked}
use Rattle.interval.proofs.Laws.Runs.{runs_fresh}

-- ---- the model, its clock moved on by k

module _ (k : ℕ) where
  pub record Shifts (i : model.Interval) (a : Ask) : Type 0 where
    pub says : said (model_turn (shift_interval k i) a) ≡ retick k a (said (model_turn i a))
    pub state : (model_turn (shift_interval k i) a).state ≡ shift_interval k (model_turn i a).state

  obey_shift : (i : model.Interval) (n : ℕ) (o : Outcome model.Interval)
      → obey (shift_interval k i) n (outcome_in (shift_interval k) o) ≡ outcome_in (shift_interval k) (obey i n o)
  obey_shift i zero o = refl
  obey_shift i (suc n) o = refl

  -- of what obeys a plan that moves with the clock
  obeyed_shift : (i : model.Interval) (p q : Plan model.Interval) → q ≡ plan_in (shift_interval k) p
      → obey (shift_interval k i) (first_of q.checks) q.effect ≡ outcome_in (shift_interval k) (obey i (first_of p.checks) p.effect)
  obeyed_shift i p q e =
      ap (λ (x : Plan model.Interval). obey (shift_interval k i) (first_of x.checks) x.effect) e ∙ obey_shift i (first_of p.checks) p.effect

  same : (i : model.Interval) (a : Ask) → asks_ticks a ≡ false → model_turn (shift_interval k i) a ≡ outcome_in (shift_interval k) (model_turn i a) → Shifts i a
  same i a h e = record { says = rw h (ap said e); state = ap (λ (o : Outcome model.Interval). o.state) e }

  ticks : (i : model.Interval) → Shifts i AskTicks
  unfolding model.ask_ticks
  ticks i =
      let e : (i.clock + k) % 2 ^ 32 ≡ (i.clock % 2 ^ 32 + k) % 2 ^ 32 = omega arith in
      record { says = ap (λ (n : ℕ). record { condition = 0; number = n; bytes = [] }) e; state = refl }

  turn_shift : (i : model.Interval) (a : Ask) → Shifts i a
  turn_shift i (Program n) = same i (Program n) refl (obeyed_shift i (model.define_program cabinet i n) _ (program_shift k i cabinet n))
  turn_shift i (Terminal n) = same i (Terminal n) refl (obeyed_shift i (model.define_terminal cabinet i n) _ (terminal_shift k i cabinet n))
  turn_shift i (Advance n) = same i (Advance n) refl (obeyed_shift i (model.advance cabinet i n) _ (advance_shift k i cabinet n))
  turn_shift i AskTicks = ticks i
  turn_shift i Dispatch = same i Dispatch refl (obeyed_shift i (model.dispatch i) _ (dispatch_shift k i cabinet))
  turn_shift i (Start a) = same i (Start a) refl (obeyed_shift i (model.start cabinet i a) _ (start_shift k i cabinet a))
  turn_shift i (Cancel n) = same i (Cancel n) refl (obeyed_shift i (model.cancel i n) _ (cancel_shift k i cabinet n))
  turn_shift i (Retrieve n room) = same i (Retrieve n room) refl (obeyed_shift i (model.retrieve i n room) _ (retrieve_shift k i cabinet n room))
  turn_shift i (Remove n) = same i (Remove n) refl (ap (λ (j : model.Interval). record { condition = 0; number = 0; bytes = []; state = j }) (remove_shift k i n))

  outcomes_shift : (l : List Ask) (i : model.Interval) → model_outcomes (shift_interval k i) l ≡ reticked k l (model_outcomes i l)
  unfolding model_outcomes
  outcomes_shift [] i = refl
  outcomes_shift (a ∷ l) i =
      let d = turn_shift i a in
      let x = d.says in
      let y : model_outcomes (model_turn (shift_interval k i) a).state l ≡ reticked k l (model_outcomes (model_turn i a).state l) =
      ap (λ (j : model.Interval). model_outcomes j l) d.state ∙ outcomes_shift l (model_turn i a).state in
      cc

-- ---- the tables

pub moved : (v w : ℕ) → v < 2 ^ 32 → w < 2 ^ 32 → (l : List Ask) → all in_range l ≡ true
    → outcomes (fresh_at w) l ≡ reticked (w + 2 ^ 32 - v) l (outcomes (fresh_at v) l)
moved v w hv hw l h =
    let on : w + 2 ^ 32 ≡ v + (w + 2 ^ 32 - v) = omega arith in
    runs_fresh w (w + 2 ^ 32) (omega arith) l h
    ∙ ap (λ (c : ℕ). model_outcomes (model.idle_at c) l) on
    ∙ outcomes_shift (w + 2 ^ 32 - v) l (model.idle_at v)
    ∙ ap (reticked (w + 2 ^ 32 - v) l) (sym (runs_fresh v v (omega arith) l h))

no_ticks : (d : ℕ) (l : List Ask) (x : List Said) → all (λ (a : Ask). not (asks_ticks a)) l ≡ true → reticked d l x ≡ x
no_ticks d [] x h = refl
no_ticks d (a ∷ l) [] h = refl
no_ticks d (a ∷ l) (x ∷ r) h =
    let n = not-true (asks_ticks a) (and_l (not (asks_ticks a)) (all (λ (b : Ask). not (asks_ticks b)) l) h) in
    rw (n, no_ticks d l r (and_r (not (asks_ticks a)) (all (λ (b : Ask). not (asks_ticks b)) l) h))

-- where no ticks are asked for, the register does not show
pub alike : (v w : ℕ) → v < 2 ^ 32 → w < 2 ^ 32 → (l : List Ask) → all in_range l ≡ true → all (λ (a : Ask). not (asks_ticks a)) l ≡ true
    → outcomes (fresh_at w) l ≡ outcomes (fresh_at v) l
alike v w hv hw l h n = moved v w hv hw l h ∙ no_ticks (w + 2 ^ 32 - v) l (outcomes (fresh_at v) l) n
