-- None of the rows passed can start, and those of the line are counted. Assumes nothing.
use Rattle.std.proofs.Common.{◌≡◌, ◌≤◌, take, count_by}
use Rattle.base.specs.Lists.{first_at}
use Rattle.interval.specs.Rows.{expired}
use Rattle.interval.specs.Dispatch.{ready}
use Rattle.interval.proofs.dispatch.pick.Given as goal

abbrev pub invariant-loop-i : goal.invariant-loop-i
invariant-loop-i l = record {
  sought : l.i ≤ first_at (ready l.rows) l.rows;
  line : l.passed ≡ count_by expired (take l.i l.rows);
}
