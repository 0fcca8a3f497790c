-- `run::may_send` meets its contract. Assumes nothing.
use Rattle.std.proofs.Common.{ne_eqb, ◌∙◌}
use Rattle.base.specs.Bytes.{blank}
use Rattle.base.specs.Laws.Library.{any_of}
use Rattle.interval.specs.Table.{live}
use Rattle.interval.specs.Active.{task, active_in}
use Rattle.lists.proofs.run.may_send.Goals as goal

pub returns-else-issuer-eq-BLANK : goal.returns-else-issuer-eq-BLANK
unfolding active_in
returns-else-issuer-eq-BLANK c =
    rw (ne_eqb _ (blank 8) c.if-issuer-eq-BLANK.false) (c.has_task.ensures.exact ∙ any_of (task c.args.issuer) (live c.args.requests.now))
