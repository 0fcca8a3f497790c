-- `store::ask` meets its contract: what is no number of another command is the last one's. Assumes nothing.
use mathlib.Core.Path.{ap, ◌∙◌}
use native.Mathlib.Omega.{arith}
use Rattle.queues.specs.Runs.{Ask, store, turn}
use Rattle.monitor.specs.Store.{stores}
use Rattle.monitor.proofs.Arms.{last_store_arm}
use Rattle.monitor.proofs.store.ask.Goals as goal

pub returns-in_default : goal.returns-in_default
returns-in_default c =
    let a = c.args in
    record {
      exact = c.delete.ensures.exact a.items.now
          ∙ ap (λ (k : Ask). stores (turn (store a.q a.items.now) k)) (last_store_arm a.rec.now a.command (λ e. omega arith) (λ e. omega arith) (λ e. omega arith) (λ e. omega arith));
    }
