-- `run` meets its contract. The invariant: the answers of the records passed stand at the front of the buffer, and what is left, from the tables as they
-- are, is the rest of all (proofs/Running.antt). Assumes nothing.
use native.Mathlib.Omega.{arith}
use Rattle.turn_rules.specs.Lent.{held}
use Rattle.runs.proofs.Running.{running_more, running_end, running_all, onward, loans_then}
use Rattle.runs.proofs.run.run.Goals as goal

-- the record stands in the list

pub slice_bounds-turn-start : goal.slice_bounds-turn-start
slice_bounds-turn-start c = let a = (onward c.loop-start.invariant.0 _ _ c.in-Record.ensures.exact).ahead in omega arith

pub slice_bounds-turn-end : goal.slice_bounds-turn-end
slice_bounds-turn-end c = let a = (onward c.loop-start.invariant.0 _ _ c.in-Record.ensures.exact).ahead in omega arith

pub slice_bounds-turn-count : goal.slice_bounds-turn-count
slice_bounds-turn-count c = let a = (onward c.loop-start.invariant.0 _ _ c.in-Record.ensures.exact).ahead in omega arith

pub loop-start-smaller : goal.loop-start-smaller
loop-start-smaller c = let a = (onward c.loop-start.invariant.0 _ _ c.in-Record.ensures.exact).ahead in omega arith

pub loop-start-preserved : goal.loop-start-preserved
loop-start-preserved c =
    let n = c.turn-written in
    let v = c.loop-start.invariant in
    (running_more v.0 _ _ c.in-Record.ensures.exact n.result (held n.new.t) n.new.out n.ensures.exact n.ensures.short, loans_then n.ensures.loans v.1)

pub returns : goal.returns
returns c =
    let v = c.loop-start.invariant in
    record { exact = running_all v.0 (running_end v.0 c.part_at.result c.part_at.ensures.exact c.in_default.not-Record); loans = v.1 }
