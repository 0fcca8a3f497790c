-- `start::begin` meets its contract. Assumes nothing.
use Rattle.std.proofs.Common.{ℕ, ap, ◌∙◌, arith}
use Rattle.request_rows.specs.Start.{begun_at}
use Rattle.request_ops.specs.Laws.Start.{begun_with}
use Rattle.request_ops.specs.Start.{asks}
use Rattle.request_ops.proofs.start.begin.Goals as goal

pub returns : goal.returns
returns c =
    let a = c.args in
    begun_with a.requests.now c.put_request.new.t a.area.now c.store.new.d (asks a.a.now) c.count-m.result a.slot c.begun.result c.count-m.ensures.exact (omega arith)
    (c.begun.ensures ∙ ap (λ (r : ℕ). begun_at r a.a.now.interval) c.register.ensures.exact) c.put_request.ensures.exact c.store.ensures.exact
