-- `slots::count` meets its contract: the two words' digits are counted apart. Assumes nothing.
use Rattle.std.proofs.Common.{sym, ◌∙◌, rules}
use Rattle.std.proofs.Math.Nat.{add_comm}
use Rattle.std.specs.Int.Count.{ones}
use lib.Count.{ones_cat}
use Rattle.slots.proofs.count.Goals as goal

pub returns : goal.returns
returns c =
    let u = c.args.u in record { exact = add_comm (ones u.lo) (ones u.hi) ∙ sym (ones_cat 64 u.hi u.lo (search rules)) }
