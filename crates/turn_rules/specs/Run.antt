-- Records one after the other, with no test of soundness between them.
use Rattle.std.specs.Prelude.{ℕ, List, [], ◌∷◌}
use Rattle.model.specs.Commands.{Answer}
use Rattle.turn_rules.specs.Tables.{Tables}
use Rattle.turn_rules.specs.Turn.{turn_of}

unfoldable pub answers_in : Tables → List (List ℕ) → List Answer
answers_in t [] = []
answers_in t (r ∷ rs) = (turn_of t r).answer ∷ answers_in (turn_of t r).tables rs

unfoldable pub tables_after : Tables → List (List ℕ) → Tables
tables_after t [] = t
tables_after t (r ∷ rs) = tables_after (turn_of t r).tables rs
