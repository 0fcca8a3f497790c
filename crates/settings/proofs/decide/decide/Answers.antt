-- `decide::decide` meets its contract: a task that has no row has all unset. Assumes nothing.
use Rattle.std.proofs.Common.{ap, ◌∙◌}
use Rattle.settings.specs.Table.{view_of, setting_of}
use Rattle.settings.specs.Laws.Decide.{decide_stands}
use Rattle.settings.proofs.Coded.{fits, found, there, decide_held, decide_none}
use Rattle.settings.proofs.decide.decide.Goals as goal

pub place-requires : goal.place-requires
place-requires c = fits (view_of c.args.settings.now) c.count-n.result c.count-n.ensures.exact

pub setting_at-own-requires : goal.setting_at-own-requires
setting_at-own-requires c = there (found (view_of c.args.settings.now) c.count-n.ensures.exact c.in-Some.ensures)

pub returns-in_default : goal.returns-in_default
returns-in_default c =
    let a = c.args in
    let t = view_of a.settings.now in
    let e = decide_none t c.count-n.result a.task c.count-n.ensures.exact c.in_default.ensures a.condition in
    record { exact = e; model = ap setting_of e ∙ decide_stands t a.task a.condition }

pub returns : goal.returns
returns c =
    let a = c.args in
    let t = view_of a.settings.now in
    let f = found t c.count-n.ensures.exact c.in-Some.ensures in
    let e = decide_held f a.condition c.or_else.ensures c.setting_at-own.ensures c.setting_at-general.ensures in
    record { exact = e; model = ap setting_of e ∙ decide_stands t a.task a.condition }
