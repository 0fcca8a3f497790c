-- "P9 general ignore with nothing set for 3: action 0. P10 all unset: action 2, and the task's next command gets 34.": of the monitor itself,
-- from fresh tables at any register value, by demand 3 and what the model computes. Assumes nothing.
use Rattle.std.specs.Prelude.{ℕ, ◌^◌, ◌<◌, ◌≡◌, true, List, [], ◌∷◌, ◌++◌}
use Rattle.std.proofs.Math.Path.{refl}
use Rattle.std.proofs.Common.{◌∙◌, mod-eq_of_lt}
use Rattle.model.specs.Limits.{cabinet}
use Rattle.model.specs.State.{empty_at}
use Rattle.model.specs.Queues.{append, read_at}
use Rattle.model.specs.Interval.{define_program, dispatch, start, ask_ticks}
use Rattle.model.specs.Handlers.{ignore}
use Rattle.model.specs.Commands.{Answer, plain, formed, allowed, obeyed, step}
use Rattle.model.specs.Lists.{answers_from}
use Rattle.model.specs.Demands.{answers, are_bytes}
use Rattle.model.specs.Examples.{by, long, ok, ans, tasked, tasked_answers, astray}
use Rattle.monitor.specs.Monitor.{fresh_held, cabinet_monitor}
use Rattle.monitor.proofs.Laws.Demands.{demand3}

module _ (v : ℕ) (h : v < 2 ^ 32) where
  -- what the model answers the monitor answers
  as_model : (rs : List (List ℕ)) (l : List Answer) → are_bytes rs ≡ true → answers_from cabinet (empty_at v) rs ≡ l → answers cabinet_monitor (fresh_held v) rs ≡ l
  as_model rs l b e = demand3.runs v v h (mod-eq_of_lt h) rs b ∙ e

  pub p9 : answers cabinet_monitor (fresh_held v) (tasked ++ (by (long 5) 16 (0 ∷ []) ∷ astray ∷ [])) ≡ tasked_answers ++ (ok 0 ∷ plain 3 ∷ [])
  unfolding answers_from step formed allowed obeyed define_program dispatch start append read_at ignore
  p9 = as_model _ _ refl refl

  pub p10 : answers cabinet_monitor (fresh_held v) (tasked ++ (astray ∷ by (long 5) 4 [] ∷ [])) ≡ tasked_answers ++ (ans 3 2 0 0 [] ∷ plain 34 ∷ [])
  unfolding answers_from step formed allowed obeyed define_program dispatch start append read_at ask_ticks
  p10 = as_model _ _ refl refl
