-- The corollary of demand 3 on two register values, for any monitor and for any list entry: only the tick answers tell one from the other,
-- and they differ by as much as the registers do. Assumes nothing.
use Rattle.std.specs.Prelude.{ℕ, ◌+◌, ◌-◌, ◌%◌, ◌^◌, ◌<◌, ◌≡◌}
use Rattle.std.proofs.Common.{mod-eq_of_lt, arith, sym, ◌∙◌}
use Rattle.std.proofs.Math.Nat.{add-mod_right}
use Rattle.std.proofs.Math.Path.{refl, ap}
use mathlib.Core.List.{List, [], ◌∷◌}
use Rattle.model.specs.Limits.{Limits}
use Rattle.model.specs.State.{State, empty_at}
use Rattle.model.specs.Commands.{step}
use Rattle.model.specs.Lists.{answers_from}
use Rattle.model.specs.Demands.{Monitor, Demand3, Moved, retick, reticked}
use Rattle.model.proofs.Laws.Shift.{shift, state_shift, answer_shift}

module _ (L : Limits) where
  -- the model's answers, its tables moved on by k
  pub answers_shift : (k : ℕ) (rs : List (List ℕ)) (s : State) → answers_from L (shift k s) rs ≡ reticked k rs (answers_from L s rs)
  unfolding answers_from
  answers_shift k [] s = refl
  answers_shift k (r ∷ rs) s =
      let x : (step L (shift k s) r).answer ≡ retick k r (step L s r).answer = answer_shift k L s r in
      let y : answers_from L (step L (shift k s) r).state rs ≡ reticked k rs (answers_from L (step L s r).state rs) =
      ap (λ (z : State). answers_from L z rs) (state_shift k L s r) ∙ answers_shift k rs (step L s r).state in
      cc

  -- from the empty state at v, moved on to the next clock that register value w can mean
  pub from_two : (v w : ℕ) → v < 2 ^ 32 → (rs : List (List ℕ)) → answers_from L (empty_at (w + 2 ^ 32)) rs ≡ reticked (w + 2 ^ 32 - v) rs (answers_from L (empty_at v) rs)
  from_two v w h rs =
      let e : w + 2 ^ 32 ≡ v + (w + 2 ^ 32 - v) = omega arith in
      ap (λ (n : ℕ). answers_from L (empty_at n) rs) e ∙ answers_shift (w + 2 ^ 32 - v) rs (empty_at v)

  -- the clock that has gone round once more shows the same register
  pub round : (w : ℕ) → w < 2 ^ 32 → (w + 2 ^ 32) % 2 ^ 32 ≡ w
  round w h = add-mod_right w (2 ^ 32) ∙ mod-eq_of_lt h

  pub moved : (M : Monitor) → Demand3 L M → Moved M
  moved M D = record {
    moved = λ v w hv hw rs b.
        D.runs w (w + 2 ^ 32) hw (round w hw) rs b ∙ from_two v w hv rs ∙ ap (reticked (w + 2 ^ 32 - v) rs) (sym (D.runs v v hv (mod-eq_of_lt hv) rs b));
  }
