-- `turn` meets its contract, by the ways of a record (proofs/Turning.antt). Assumes nothing.
use Rattle.turn_rules.specs.Lent.{held}
use Rattle.turns.proofs.Turning as turning
use Rattle.turns.proofs.turn.turn.Goals as goal

pub returns-then-out-lt74-clause-exact : goal.returns-then-out-lt74-clause-exact
returns-then-out-lt74-clause-exact c = turning.no_room (held c.args.t.now) c.args.rec.now c.args.out.now c.if-out-lt74.true

pub returns-then-not-shaped-clause-exact : goal.returns-then-not-shaped-clause-exact
returns-then-not-shaped-clause-exact c =
    let a = c.args in
    let t = held a.t.now in
    turning.malformed t a.rec.now a.out.now c.if-out-lt74.false c.command.result c.row_of-row.result c.command.ensures.exact c.row_of-row.ensures.exact c.shaped.result c.shaped.ensures.exact _ c.if-not-shaped.true (c.refuse.ensures.exact t)

pub returns-in_default-clause-exact : goal.returns-in_default-clause-exact
returns-in_default-clause-exact c =
    let a = c.args in
    let t = held a.t.now in
    turning.stranger t a.rec.now a.out.now c.if-out-lt74.false c.command.result c.row_of-row.result c.command.ensures.exact c.row_of-row.ensures.exact c.shaped.result c.shaped.ensures.exact c.if-not-shaped.false c.issuer-issuer.result c.issuer-issuer.ensures.exact c.sender.result c.sender.ensures _ c.in_default.is (c.refuse-in_default.ensures.exact t)

pub returns-clause-exact : goal.returns-clause-exact
returns-clause-exact c =
    let a = c.args in
    turning.known (held a.t.now) a.rec.now a.out.now c.if-out-lt74.false c.command.result c.row_of-row.result c.command.ensures.exact c.row_of-row.ensures.exact c.shaped.result c.shaped.ensures.exact c.if-not-shaped.false c.issuer-issuer.result c.issuer-issuer.ensures.exact c.sender.result c.sender.ensures _ c.in-Some.at c.in-Some.is c.hear.ensures.exact
