-- `dispatch::clashes` meets its contract. Assumes nothing.
use Rattle.std.proofs.Common.{◌∙◌, rules, tests}
use Rattle.std.proofs.lemmas.Iterator.{YieldsList-from_slice}
use Rattle.std.proofs.lemmas.Iterator.Search.{any_from_yields_List}
use Rattle.request_rows.specs.Dispatch.{clash}
use Rattle.request_rows.specs.Rows.{row_of}
use Rattle.request_rows.specs.Laws.View.{any_rows}
use Rattle.request_ops.proofs.dispatch.clashes.Goals as goal

pub returns : goal.returns
returns c =
    let a = c.args in
    any_from_yields_List (λ x. clash a.program a.terminal (row_of x)) _ _ c.any.result c.any.ensures.ran (YieldsList-from_slice c.live.result.now cc)
    (λ x b q k. search (rules, tests))
    ∙ any_rows _ _ c.live.ensures.exact (clash a.program a.terminal)
