-- The first n of each column are of the rows passed. Assumes nothing.
use Rattle.std.proofs.Common.{◌≡◌, ◌≤◌, length, map, take}
use Rattle.base.specs.Lists.{keep}
use Rattle.interval.specs.Rows.{active}
use Rattle.interval.specs.Dispatch.{program_of, terminal_of}
use Rattle.interval.proofs.dispatch.busy_in.Given as goal

abbrev pub invariant-loop-q : goal.invariant-loop-q
invariant-loop-q l = record {
  few : l.busy.n ≤ l.q-index;
  wide : length l.busy.programs ≡ 32;
  wide_too : length l.busy.terminals ≡ 32;
  programs : take l.busy.n l.busy.programs ≡ map program_of (keep active (take l.q-index l.rows));
  terminals : take l.busy.n l.busy.terminals ≡ map terminal_of (keep active (take l.q-index l.rows));
}
