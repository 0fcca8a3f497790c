-- A value that `&&` gives: the second test's where the first passes, and else the first's. Assumes nothing.
use Rattle.std.specs.Prelude.{◌≡◌, Bool, true, false, ◌&&◌}
use Rattle.std.proofs.Common.{◌∙◌}

pub both_then : {a r b : Bool} (v : Bool) → a ≡ r → a ≡ true → v ≡ b → v ≡ (r && b)
both_then v e t f = rw (← e, t) f

pub both_else : {a r : Bool} (b v : Bool) → a ≡ r → a ≡ false → v ≡ a → v ≡ (r && b)
both_else b v e t f = rw (← e, t) (f ∙ t)
