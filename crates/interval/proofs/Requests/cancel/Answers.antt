-- `Requests::cancel` meets its contract. Assumes nothing.
use Rattle.std.proofs.Common.{sym, ◌∙◌}
use Rattle.interval.proofs.Laws.Cancel.{cancel_blank, cancel_missing, cancel_active, cancel_hit}
use Rattle.interval.proofs.Requests.cancel.Goals as goal

pub returns-then-name-eq-BLANK : goal.returns-then-name-eq-BLANK
returns-then-name-eq-BLANK c = cancel_blank c.args.self.now c.args.name c.if-name-eq-BLANK.true

pub returns-in-Some : goal.returns-in-Some
returns-in-Some c =
    let a = c.args in
    cancel_hit a.self.now a.name c.if-name-eq-BLANK.false c.in-Some.i c.in-Some.ensures (sym c.is_active.ensures ∙ c.if-not-is_active.true) _ c.close.ensures

pub returns-in_default : goal.returns-in_default
returns-in_default c =
    let a = c.args in
    cancel_active a.self.now a.name c.if-name-eq-BLANK.false c.in-Some.i c.in-Some.ensures (sym c.is_active.ensures ∙ c.if-not-is_active.false)

pub returns-in_default-2 : goal.returns-in_default-2
returns-in_default-2 c = cancel_missing c.args.self.now c.args.name c.if-name-eq-BLANK.false c.in_default.ensures
