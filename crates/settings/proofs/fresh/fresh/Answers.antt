-- `fresh::fresh` meets its contract: words that are 0 are rows with nothing set. Assumes nothing.
use Rattle.std.proofs.Common.{ap, ◌∙◌}
use Rattle.settings.specs.Table.{view_of}
use Rattle.settings.specs.Laws.View.{view_zero}
use Rattle.settings.specs.Laws.Standing.{fresh_stands}
use Rattle.settings.proofs.fresh.fresh.Goals as goal

pub returns : goal.returns
returns c =
    let w = c.args.settings.now in
    let e = ap view_of c.clear.ensures.exact ∙ view_zero w in
    record { exact = e; model = rw e (fresh_stands (view_of w)) }
