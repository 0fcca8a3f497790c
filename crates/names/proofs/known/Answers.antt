-- `known` meets its contract. Assumes nothing.
use Rattle.std.proofs.Common.{ℕ, eqb, ◌∙◌, ap₂}
use Rattle.base.specs.Lists.{has}
use Rattle.base.specs.Laws.Library.{any_of}
use Rattle.names.proofs.known.Goals as goal

pub returns : goal.returns
returns c =
    record { exact = c.contains.ensures.value ∙ any_of (λ (y : ℕ). eqb y c.from.result) c.live.result.now ∙ ap₂ has c.from.ensures c.live.ensures }
