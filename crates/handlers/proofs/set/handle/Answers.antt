-- `set::handle` meets its contract. Assumes nothing.
use Rattle.handlers.proofs.Coded.{handle_zero, handle_some}
use Rattle.handlers.proofs.Clauses.{handle_both}
use native.Mathlib.Omega.{arith}
use Rattle.handlers.proofs.set.handle.Goals as goal

pub returns-then-label-eq0 : goal.returns-then-label-eq0
returns-then-label-eq0 c =
    let a = c.args in
    let all = handle_both a.t a.name a.condition _ a.label (omega arith) (handle_zero a.t a.name a.condition a.label c.if-label-eq0.true) in
    record { exact = all.0; model = all.1 }

pub returns : goal.returns
returns c =
    let a = c.args in
    let all = handle_both a.t a.name a.condition _ a.label (omega arith)
    (handle_some a.t a.name a.condition a.label c.set_to.result c.if-label-eq0.false c.set_to.ensures) in
    record { exact = all.0; model = all.1 }
