-- `queue_ops::fresh::fresh` meets its contract. Assumes nothing.
use Rattle.std.proofs.Common.{List, ℕ, length, ap, ◌∙◌}
use Rattle.queue_rows.specs.Table.{view_of}
use Rattle.queue_ops.proofs.FreshLaws.{view_zeros}
use Rattle.queue_ops.proofs.fresh.fresh.Goals as goal

pub returns : goal.returns
returns c =
    let a = c.args in
    record { exact = ap (λ (r : List ℕ). view_of r (length a.items.now)) c.clear.ensures.exact ∙ view_zeros a.queues.now (length a.items.now) }
