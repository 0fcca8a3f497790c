-- `sound::named` meets its contract. Assumes nothing.
use Rattle.std.proofs.Common.{◌∙◌, rules, tests}
use Rattle.std.proofs.lemmas.Iterator.{YieldsList-from_slice}
use Rattle.std.proofs.lemmas.Iterator.Search.{any_from_yields_List}
use Rattle.base.specs.Laws.Library.{any_of}
use Rattle.handlers.specs.Rows.{named}
use Rattle.handlers.proofs.sound.named.Goals as goal

pub returns : goal.returns
returns c =
    let held = named c.args.name in
    let l = c.args.rows.now in
    any_from_yields_List held _ _ c.any.result c.any.ensures.ran (YieldsList-from_slice l cc) (λ x b q k. search (rules, tests)) ∙ any_of held l
