-- `hear` meets its contract: the command, what the handlers decide, the head (proofs/Turning.antt, `heard`). Assumes nothing.
use Rattle.turn_rules.specs.Tables.{known_of}
use Rattle.turn_rules.specs.Lent.{held}
use Rattle.turns.proofs.Turning.{heard}
use Rattle.turns.proofs.turn.hear.Goals as goal

pub returns-clause-exact : goal.returns-clause-exact
returns-clause-exact c =
    let a = c.args in
    heard a.heard.issuer _ a.out.now c.obey-said.result (held c.obey-said.new.t) c.obey-said.new.body c.obey-said.ensures.exact c.from-condition.result c.from-condition.ensures
    c.settle-action.result (known_of c.settle-action.new.requests c.settle-action.new.settings) c.settle-action.ensures.exact c.requires _ _ c.from.ensures c.label.ensures.exact _ c.put_head.ensures.exact
