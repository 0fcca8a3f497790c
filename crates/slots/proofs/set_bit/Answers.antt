-- `slots::set_bit` meets its contract. Assumes nothing.
use Rattle.std.proofs.Common.{rules}
use Rattle.slots.proofs.Machine.{set_is, cleared_is}
use Rattle.slots.proofs.set_bit.Goals as goal

pub returns-then-on : goal.returns-then-on
returns-then-on c = rw c.if-on.true (set_is c.args.w c.args.k (search rules) c.requires)

pub returns-else-on : goal.returns-else-on
returns-else-on c = rw c.if-on.false (cleared_is c.args.w c.args.k (search rules) c.requires)
