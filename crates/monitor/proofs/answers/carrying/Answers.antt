-- `answers::carrying` meets its contract: 64 bytes have room for all of them. Assumes nothing.
use mathlib.Core.Path.{◌≡◌, ap, ◌∙◌}
use Prim.Native.Nat.{ℕ}
use mathlib.Core.List.{List}
use lib.ListN.{length, replicate}
use lib.Seq.{take_all}
use Rattle.base.specs.Lists.{over}
use Rattle.monitor.specs.declared.answers.Said.{Said}
use Rattle.monitor.proofs.answers.carrying.Goals as goal

abbrev said_in : ℕ → ℕ → ℕ → List ℕ → Said
said_in c n k x = record { condition = c; number = n; len = k; bytes = x }

pub returns : goal.returns
returns c =
    let b : List ℕ = c.args.from.now in
    let e : c.lay.new.d ≡ over b (replicate 64 0) = c.lay.ensures.exact ∙ ap (λ (x : List ℕ). over x (replicate 64 0)) (take_all 64 b c.requires) in
    ap (λ (x : List ℕ). said_in c.args.condition c.args.number (length b) x) e
