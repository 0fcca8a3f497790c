-- `run_over` meets its contract: 35 and 36 by what framing answers, and else the run of the records from fresh tables (proofs/Ended.antt). Assumes nothing.
use native.Mathlib.Omega.{arith}
use Rattle.turn_rules.specs.Lent.{held}
use Rattle.runs.proofs.Ended as ended
use Rattle.runs.proofs.run.run_over.Goals as goal

pub returns-then-out-records-clause-exact : goal.returns-then-out-records-clause-exact
returns-then-out-records-clause-exact c =
    let a = c.args in
    ended.short a.list.now (held a.t.now) a.out.now _ _ c.in-Some.ensures.exact (omega arith)

pub run-requires : goal.run-requires
run-requires c =
    let enough = c.if-out-records.false in
    ended.fitting c.args.list.now (held c.args.t.now) c.args.out.now _ _ c.in-Some.ensures.exact (omega arith)

pub returns-in_default-clause-exact : goal.returns-in_default-clause-exact
returns-in_default-clause-exact c =
    ended.not_framed c.args.list.now (held c.args.t.now) c.args.out.now c.in_default.ensures.exact

pub returns-clause-exact : goal.returns-clause-exact
returns-clause-exact c =
    let a = c.args in
    let enough = c.if-out-records.false in
    ended.ran a.list.now (held a.t.now) a.out.now _ _ c.in-Some.ensures.exact (omega arith) _ c.renew.ensures.exact _ c.run.ensures.exact
