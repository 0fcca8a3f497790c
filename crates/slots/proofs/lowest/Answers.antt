-- `slots::lowest` meets its contract. Assumes nothing.
use Rattle.std.proofs.Common.{ℕ, ◌+◌, ap, ◌∙◌, rules}
use Rattle.slots.specs.Told.{Typed}
use Rattle.slots.proofs.Machine.{lowest_low, lowest_high}
use Rattle.slots.proofs.lowest.Goals as goal

pub returns-then-low-lt64 : goal.returns-then-low-lt64
returns-then-low-lt64 c =
    let u = c.args.u in
    let t : Typed u = record { low = search rules; high = search rules } in
    let e = c.trailing_ones-low.ensures in
    e ∙ lowest_low u t (rw e at c.if-low-lt64.true)

pub returns-else-low-lt64 : goal.returns-else-low-lt64
returns-else-low-lt64 c =
    let u = c.args.u in
    let t : Typed u = record { low = search rules; high = search rules } in
    ap (λ (x : ℕ). 64 + x) c.trailing_ones.ensures ∙ lowest_high u t (rw c.trailing_ones-low.ensures at c.if-low-lt64.false)
