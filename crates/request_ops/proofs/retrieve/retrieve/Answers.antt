-- `retrieve::retrieve` meets its contract. Assumes nothing.
use Rattle.std.proofs.Common.{sym, ◌∙◌}
use Rattle.words.specs.Laws.Said.{said_plain}
use Rattle.request_ops.specs.Laws.Retrieve.{retrieve_own, retrieve_served, retrieve_none}
use Rattle.request_rows.specs.Laws.View.{read_rows}
use Rattle.request_rows.specs.Table.{view_of}
use Rattle.request_ops.proofs.retrieve.retrieve.Goals as goal

pub returns-then-has_own : goal.returns-then-has_own
returns-then-has_own c =
    let g = c.give in
    let a = c.args in
    record {
      exact = retrieve_own a.requests.now a.area.now a.at a.room _ c.live_at-q.ensures _ c.has_own.ensures c.if-has_own.true
          (view_of c.put_phase.new.t) c.put_phase.ensures.exact g.result _ a.body.now g.ensures.exact;
    }

pub returns-in_default : goal.returns-in_default
returns-in_default c =
    let a = c.args in
    let v = view_of a.requests.now in
    record {
      exact = said_plain _ _ 0 v _ c.plain.ensures.exact
          (retrieve_none a.requests.now a.area.now a.at a.room _ c.live_at-q.ensures _ c.has_own.ensures c.if-has_own.false (sym c.server.ensures ∙ c.in_default.is))
          a.body.now;
    }

pub returns : goal.returns
returns c =
    let a = c.args in
    let g = c.give-2 in
    record {
      exact = retrieve_served a.requests.now a.area.now a.at a.room _ c.live_at-q.ensures _ c.has_own.ensures c.if-has_own.false
          c.in-Some.j (sym c.server.ensures ∙ c.in-Some.is) c.from-served.result (c.from-served.ensures ∙ read_rows _ _ c.live.ensures.exact c.in-Some.j)
          (view_of c.remove_at.new.requests) c.remove_at.ensures.exact g.result _ a.body.now g.ensures.exact;
    }
