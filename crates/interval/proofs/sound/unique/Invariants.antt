-- What the rows passed have in the column stands there once. Assumes nothing.
use Rattle.std.proofs.Common.{◌≡◌, true, take}
use Rattle.base.specs.Lists.{once}
use Rattle.interval.specs.Sound.{column}
use Rattle.interval.proofs.sound.unique.Given as goal

abbrev pub invariant-loop-i : goal.invariant-loop-i
invariant-loop-i l = once (column l.c (take l.i l.rows)) ≡ true
