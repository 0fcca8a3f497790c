-- `requests::define_terminal` meets its contract. Assumes nothing.
use mathlib.Core.Path.{ap, ◌∙◌}
use Rattle.interval.specs.Define.{define_terminal}
use Rattle.interval.specs.Runs.{defined_of}
use Rattle.monitor.proofs.Asking.{told, plainly}
use Rattle.monitor.proofs.requests.define_terminal.Goals as goal

pub returns : goal.returns
returns c = record {
  exact = told defined_of (c.define_terminal-d.ensures.exact ∙ ap (define_terminal c.args.t) c.number4_at.ensures.exact)
      (plainly c.define_code.ensures c.plain.ensures.exact);
}
