-- `sets::has` meets its contract: `contains` is `any`. Assumes nothing.
use Rattle.std.proofs.Common.{◌∙◌, ap}
use Rattle.base.specs.Lists.{any}
use Rattle.base.specs.Laws.Library.{any_of}
use Rattle.base.proofs.sets.has.Goals as goal

pub returns : goal.returns
returns g c =
    let equal = λ (y : g.row.T.Denot). g.T.PartialEq.eq y c.args.x.now in
    record { exact = c.contains.ensures.value ∙ any_of equal c.front.result.now ∙ ap (any equal) c.front.ensures.exact }
