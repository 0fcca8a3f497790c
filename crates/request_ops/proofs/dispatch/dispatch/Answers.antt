-- `dispatch::dispatch` meets its contract. Assumes nothing.
use Rattle.std.proofs.Common.{◌∙◌}
use Rattle.request_ops.specs.Laws.Dispatch.{dispatch_hit}
use Rattle.request_rows.specs.Laws.View.{read_rows}
use Rattle.request_rows.specs.Table.{view_of}
use Rattle.request_ops.proofs.dispatch.dispatch.Goals as goal

pub returns : goal.returns
returns c =
    let a = c.args in
    record {
      exact = dispatch_hit a.requests.now c.choose-c.result c.choose-c.ensures c.in-Some.at c.in-Some.is
          c.from.result (c.from.ensures ∙ read_rows _ _ c.live.ensures.exact c.in-Some.at)
          (view_of c.put_phase.new.t) c.put_phase.ensures.exact a.body.now _ c.tell.ensures;
    }
