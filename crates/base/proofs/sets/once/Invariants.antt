use Rattle.std.proofs.Common.{◌≡◌, true, take}
use Rattle.base.specs.Lists.{once}
use Rattle.base.proofs.sets.once.Given as goal

abbrev pub invariant-loop-i : goal.invariant-loop-i
invariant-loop-i l = once (take l.i l.first) ≡ true
