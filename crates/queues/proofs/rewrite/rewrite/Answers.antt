-- `rewrite` meets its contract. Assumes nothing.
use Rattle.std.proofs.Common.{rules}
use Rattle.queues.specs.Laws.Typed.{Typed, word, byte}
use Rattle.queues.proofs.Laws.Rewrite.{rewrite_all}
use Rattle.queues.proofs.rewrite.rewrite.Goals as goal

pub returns-clause-model : goal.returns-clause-model
returns-clause-model c =
    let a = c.args in
    let t : Typed a.q = search (rules, word, byte) in
    (rewrite_all a.q t a.items.now c.told-items a.name a.place a.item.now _ _ c.rewrite-outcome.ensures).1
