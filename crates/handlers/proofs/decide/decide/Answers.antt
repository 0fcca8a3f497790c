-- `decide::decide` meets its contract. Assumes nothing.
use Rattle.handlers.specs.Rows.{out_row}
use Rattle.handlers.proofs.Clauses.{decide_both}
use Rattle.handlers.proofs.Coded.{decide_held, decide_none}
use Rattle.handlers.proofs.decide.decide.Goals as goal

pub returns-in_default : goal.returns-in_default
returns-in_default c =
    let a = c.args in
    let all = decide_both a.t a.name a.condition _ (decide_none a.t a.name c.in_default.ensures a.condition) in
    record { exact = all.0; model = all.1 }

pub returns : goal.returns
returns c =
    let a = c.args in
    let all = decide_both a.t a.name a.condition _
    (decide_held a.t a.name c.in-Some.i c.in-Some.ensures a.condition out_row c.or_else.ensures c.setting_at-own.ensures c.setting_at-general.ensures) in
    record { exact = all.0; model = all.1 }
