-- `queue_sound::rows::pointers_sound` meets its contract. Assumes nothing.
use Rattle.std.proofs.Common.{ℕ, List, leb, take, ap₂, ◌∙◌, rules, tests}
use Rattle.std.proofs.lemmas.Iterator.{YieldsList-from_slice, YieldsList-from_zip}
use Rattle.std.proofs.lemmas.Iterator.Search.{all_from_yields_List}
use Rattle.std.proofs.lemmas.Iterator.Consumers.{YieldsList-at}
use Rattle.base.specs.Lists.{copies}
use Rattle.queue_rows.specs.Sound.{pointed}
use Rattle.queue_sound.proofs.Pointers.{pointed_zip}
use Rattle.queue_sound.proofs.rows.pointers_sound.Goals as goal

pub returns : goal.returns
returns c =
    let a = c.args in
    let os : List ℕ = take a.n a.owner.now in
    all_from_yields_List (λ (p : ℕ × ℕ). leb p.1 (copies p.0 os)) c.all.new.self _ c.all.result c.all.ensures.ran
    (YieldsList-from_zip (YieldsList-at c.zip-rows.ensures.first (YieldsList-from_slice c.front.result.now cc)) (YieldsList-from_slice c.front-2.result.now cc))
    (λ x b q k. search (rules, tests))
    ∙ pointed_zip os c.front.result.now c.front-2.result.now
    ∙ ap₂ (pointed os) c.front.ensures.exact c.front-2.ensures.exact
