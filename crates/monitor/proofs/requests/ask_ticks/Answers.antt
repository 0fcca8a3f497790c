-- `requests::ask_ticks` meets its contract. Assumes nothing.
use Prim.Native.Nat.{ℕ}
use mathlib.Core.Path.{ap, ◌∙◌}
use mathlib.Core.List.{[]}
use Rattle.monitor.specs.Answers.{saying}
use Rattle.monitor.proofs.Asking.{asked_in}
use Rattle.monitor.proofs.requests.ask_ticks.Goals as goal

pub returns : goal.returns
returns c = ap (asked_in c.args.t) (c.plain.ensures.exact ∙ ap (λ (n : ℕ). saying 0 n []) c.ask.ensures.exact)
