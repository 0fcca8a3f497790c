-- Demand 3 follows from demand 2, for any monitor, by induction on the records. Assumes nothing.
use Rattle.std.specs.Prelude.{ℕ, ◌≡◌, true}
use Rattle.std.proofs.Math.Path.{refl}
use mathlib.Core.List.{List, [], ◌∷◌}
use Rattle.base.specs.Bytes.{is_bytes}
use Rattle.base.specs.Laws.Tests.{and_l, and_r}
use Rattle.model.specs.Limits.{Limits}
use Rattle.model.specs.State.{State, empty_at}
use Rattle.model.specs.Commands.{step}
use Rattle.model.specs.Lists.{answers_from}
use Rattle.model.specs.Demands.{Monitor, Stepping, Demand2, Demand3, answers, are_bytes}

module _ (L : Limits) (M : Monitor) (D : Demand2 L M) where
  -- from any sound tables, and so from fresh ones
  pub from_sound : (rs : List (List ℕ)) (t : M.Tables) (s : State) → are_bytes rs ≡ true → M.Sound t → M.Stands t s → answers M t rs ≡ answers_from L s rs
  unfolding answers answers_from
  from_sound [] t s b so st = refl
  from_sound (r ∷ rs) t s b so st =
      let k : Stepping L M t s r = D.steps t s r (and_l (is_bytes r) (are_bytes rs) b) so st in
      let h : answers M (M.step t r).tables rs ≡ answers_from L (step L s r).state rs = from_sound rs _ _ (and_r (is_bytes r) (are_bytes rs) b) k.soundly k.state in
      cc k.answer

  pub demand3 : Demand3 L M
  demand3 = record { runs = λ v c h e rs b. from_sound rs (M.fresh v) (empty_at c) b (D.begins v h) (D.empty v c h e) }
