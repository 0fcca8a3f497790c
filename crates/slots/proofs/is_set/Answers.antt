-- `slots::is_set` meets its contract. Assumes nothing.
use Rattle.std.proofs.Common.{ℕ, eqb, ap}
use Rattle.slots.proofs.Machine.{tested}
use Rattle.slots.proofs.is_set.Goals as goal

pub returns : goal.returns
returns c = ap (λ (x : ℕ). eqb x 1) (tested c.args.w c.args.k)
