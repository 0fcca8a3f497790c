-- `append` meets its contract. Assumes nothing.
use Rattle.std.proofs.Common.{rules}
use Rattle.queues.specs.Laws.Typed.{Typed, word, byte}
use Rattle.queues.proofs.Laws.Append.{append_both}
use Rattle.queues.proofs.append.append.Goals as goal

pub returns-clause-model : goal.returns-clause-model
returns-clause-model c =
    let a = c.args in
    let t : Typed a.q = search (rules, word, byte) in
    (append_both a.q a.items.now a.may a.name a.item.now _ _ t (word c.ranges.name) c.told-items c.append-outcome.ensures).1
