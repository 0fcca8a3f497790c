-- `fresh::fresh` meets its contract. Assumes nothing.
use mathlib.Core.Path.{ap}
use Rattle.monitor.specs.declared.Parts.{Parts}
use native.Mathlib.Omega.{arith}
use Rattle.monitor.specs.Table.{tables, no_items}
use Rattle.monitor.specs.Laws.Fine.{fresh_whole}
use Rattle.monitor.proofs.fresh.fresh.Goals as goal

pub returns : goal.returns
unfolding no_items
returns c = let all = fresh_whole _ (omega arith) _ (ap (λ (p : Parts). tables p no_items) c.fresh_parts.ensures.exact) in record { exact = all.0; model = all.1 }
