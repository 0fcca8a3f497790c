-- `fresh::fresh_parts` meets its contract: each part is fresh. Assumes nothing.
use native.Mathlib.Omega.{arith}
use Rattle.monitor.specs.Table.{fresh_parts}
use Rattle.monitor.specs.Laws.Fine.{fresh_parts_lem}
use Rattle.monitor.proofs.fresh.fresh_parts.Goals as goal

pub returns : goal.returns
unfolding fresh_parts
returns c = let all = fresh_parts_lem _ (omega arith) _ (cc (c.fresh.ensures.exact, c.fresh-2.ensures.exact, c.fresh-3.ensures.exact)) in record { exact = all.0; model = all.1 }
