use lib.ListN.{length}
use Rattle.print.proofs.Printed.{Printed}
use Rattle.print.proofs.lines.lines.Given as goal

abbrev pub invariant-loop-n : goal.invariant-loop-n
invariant-loop-n l = Printed l.answers l.initial.out l.out l.end l.place l.left

abbrev pub decreases-loop-n : goal.decreases-loop-n
decreases-loop-n l = length l.left
