-- `list::read_list` is safe and ends: each turn leaves less room. What is read is within the list.
use Rattle.std.specs.Prelude.{◌≡◌, ◌-◌, ◌≤◌, length}
use Rattle.list.proofs.read_list.Given as goal

abbrev pub invariant-loop-n : goal.invariant-loop-n
invariant-loop-n g l = (l.n ≤ length l.list) × (length l.list ≡ length l.initial.list)

abbrev pub decreases-loop-n : goal.decreases-loop-n
decreases-loop-n g l = length l.initial.list - l.n
