-- `delete` meets its contract. Assumes nothing.
use Rattle.std.proofs.Common.{sym, subst, rules}
use Rattle.queues.specs.declared.delete.Deleted.{Deleted}
use Rattle.queues.specs.Laws.Typed.{Typed, word, byte}
use Rattle.queues.proofs.Laws.Delete.{delete_meets}
use Rattle.queues.proofs.Laws.Kept.{delete_typed}
use Rattle.queues.proofs.delete.delete.Goals as goal

pub returns-clause-model : goal.returns-clause-model
returns-clause-model c =
    let q = c.args.q in
    let t : Typed q = search (rules, word, byte) in
    let e = c.delete-outcome.ensures in
    let t' = subst (λ (x : Deleted). Typed x.queues) (sym e) (delete_typed q t c.args.name) in
    λ h b. delete_meets q c.args.name t h b _ t' e
