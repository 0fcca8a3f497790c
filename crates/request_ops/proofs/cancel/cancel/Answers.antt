-- `cancel::cancel` meets its contract: an active request is not found. Assumes nothing.
use Rattle.std.proofs.Common.{sym, ◌∙◌}
use Rattle.words.specs.Laws.Said.{said_plain}
use Rattle.request_rows.specs.Laws.View.{read_rows}
use Rattle.request_rows.specs.Table.{view_of}
use Rattle.request_ops.specs.Laws.Cancel.{cancel_active}
use Rattle.request_ops.proofs.cancel.cancel.Goals as goal

pub returns-then-is_active : goal.returns-then-is_active
returns-then-is_active c =
    let a = c.args in
    record {
      exact = said_plain _ _ 0 _ _ c.plain-then-is_active.ensures.exact
          (cancel_active (view_of a.requests.now) a.name c.if-name-eq-BLANK.false c.in-Some.i (sym c.place.ensures ∙ c.in-Some.is)
          c.from.result (c.from.ensures ∙ read_rows _ _ c.live.ensures.exact c.in-Some.i) (sym c.is_active.ensures.exact ∙ c.if-is_active.true));
    }
