-- `requests::define_program` meets its contract. Assumes nothing.
use mathlib.Core.Path.{ap, ◌∙◌}
use Rattle.interval.specs.Define.{define_program}
use Rattle.interval.specs.Runs.{defined_of}
use Rattle.monitor.proofs.Asking.{told, plainly}
use Rattle.monitor.proofs.requests.define_program.Goals as goal

pub returns : goal.returns
returns c = record {
  exact = told defined_of (c.define_program-d.ensures.exact ∙ ap (define_program c.args.t) c.number4_at.ensures.exact)
      (plainly c.define_code.ensures c.plain.ensures.exact);
}
