-- `sound::named_once`: the names before i stand once.
use Rattle.std.proofs.Common.{◌≡◌, true, take, map}
use Rattle.base.specs.Lists.{once}
use Rattle.settings.specs.Rows.{name_of}
use Rattle.settings.specs.Table.{view_of}
use Rattle.settings.proofs.sound.named_once.Given as goal

abbrev pub invariant-loop-i : goal.invariant-loop-i
invariant-loop-i l = once (take l.i (map name_of (view_of l.settings).rows)) ≡ true
