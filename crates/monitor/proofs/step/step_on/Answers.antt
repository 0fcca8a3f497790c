-- `step::step_on` meets its contract. Assumes nothing.
use mathlib.Core.Path.{sym, ◌∙◌}
use Rattle.monitor.specs.Table.{tables}
use Rattle.monitor.proofs.Stepping.{heard}
use Rattle.monitor.proofs.step.step_on.Goals as goal

pub returns : goal.returns
returns c = record {
  exact = heard (tables c.args.p c.args.items.now) c.args.rec.now c.obey-o.result _ c.issuer.result _
      (sym c.formed.ensures.exact ∙ c.if-not-formed.false)
      (sym c.allowed.ensures ∙ c.if-not-allowed.false) c.obey-o.ensures c.issuer.ensures.exact c.settle.ensures;
}
