-- The names passed stand once, and none of them is blank. Assumes nothing.
use Rattle.std.proofs.Common.{◌≡◌, true, take}
use Rattle.base.specs.Lists.{all, once}
use Rattle.base.specs.Bytes.{is_name}
use Rattle.interval.proofs.sound.names_sound.Given as goal

abbrev pub invariant-loop-i : goal.invariant-loop-i
invariant-loop-i l = record {
  unique : once (take l.i l.known) ≡ true;
  named : all (is_name 4) (take l.i l.known) ≡ true;
}
