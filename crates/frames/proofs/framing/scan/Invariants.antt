use Prim.Native.Nat.{◌+◌, ◌-◌}
use lib.ListN.{length}
use Rattle.frames.proofs.Counted.{Passed}
use Rattle.frames.proofs.framing.scan.Given as goal

abbrev pub invariant-loop-next : goal.invariant-loop-next
invariant-loop-next l = Passed l.start l.list l.at l.records

abbrev pub decreases-loop-next : goal.decreases-loop-next
decreases-loop-next l = 9 + length l.list - l.at
