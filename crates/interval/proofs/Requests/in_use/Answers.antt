-- `Requests::in_use` meets its contract. Assumes nothing.
use Rattle.std.proofs.Common.{is_some, ap, ◌∙◌}
use Rattle.interval.proofs.Laws.Start.{taken_is}
use Rattle.interval.proofs.Requests.in_use.Goals as goal

pub returns : goal.returns
returns c = c.is_some.ensures ∙ ap is_some c.place.ensures ∙ taken_is c.args.self.now c.args.name
