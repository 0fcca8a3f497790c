-- `sound::all_active` meets its contract: each row that counts is looked at. Assumes nothing.
use Rattle.std.proofs.Common.{sym, ap, ◌∙◌, refl, rules, tests}
use Rattle.std.proofs.lemmas.Iterator.{YieldsList-from_slice}
use Rattle.std.proofs.lemmas.Iterator.Search.{all_from_yields_List}
use Rattle.base.specs.Lists.{all}
use Rattle.base.specs.Laws.Maps.{all_map}
use Rattle.interval.specs.Active.{active_in}
use Rattle.handlers.specs.declared.Task.{Task}
use Rattle.handlers.specs.Names.{name_of}
use Rattle.handlers.specs.Laws.Standing.{names_stand}
use Rattle.monitor.proofs.sound.all_active.Goals as goal

pub returns : goal.returns
returns c =
    let a = c.args in
    let active = λ (v : Task). active_in a.q v.name in
    let l = c.live.result.now in
    all_from_yields_List active _ _ c.all.result c.all.ensures.ran (YieldsList-from_slice l cc) (λ x b q k. search (rules, tests))
    ∙ ap (all active) c.live.ensures.exact ∙ sym (all_map name_of active (active_in a.q) (λ v. refl) _)
    ∙ ap (all (active_in a.q)) (sym (names_stand a.t))
