-- `active::is_active` meets its contract. Assumes nothing.
use Rattle.std.proofs.Common.{◌∙◌}
use Rattle.base.specs.Laws.Library.{any_of}
use Rattle.interval.specs.Table.{live}
use Rattle.interval.specs.Active.{task}
use Rattle.interval.proofs.Laws.Active.{active_both}
use Rattle.interval.proofs.active.is_active.Goals as goal

pub returns : goal.returns
returns c =
    let all = active_both c.args.t c.args.name c.has_task.result (c.has_task.ensures.exact ∙ any_of (task c.args.name) (live c.args.t)) in
    record { exact = all.0; model = all.1 }
