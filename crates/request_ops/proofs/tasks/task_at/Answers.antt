-- `tasks::task_at` meets its contract. Assumes nothing.
use Rattle.std.proofs.Common.{◌∙◌, rules, tests}
use Rattle.std.proofs.lemmas.Iterator.{YieldsList-from_slice}
use Rattle.std.proofs.lemmas.Iterator.Search.{position_from_yields_List}
use Rattle.request_rows.specs.Active.{task}
use Rattle.request_rows.specs.Rows.{row_of}
use Rattle.request_rows.specs.Table.{view_of}
use Rattle.request_rows.specs.Laws.View.{position_rows}
use Rattle.request_ops.specs.Laws.Tasks.{task_found}
use Rattle.request_ops.proofs.tasks.task_at.Goals as goal

pub returns : goal.returns
returns c =
    let a = c.args in
    record {
      exact = position_from_yields_List (λ x. task a.name (row_of x)) _ _ c.position.result c.position.ensures.ran (YieldsList-from_slice c.live.result.now cc)
          (λ x b q k. search (rules, tests))
          ∙ position_rows _ _ c.live.ensures.exact (task a.name) ∙ task_found (view_of a.requests.now) a.name;
    }
