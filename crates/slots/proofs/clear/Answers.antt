-- `slots::clear` meets its contract. Assumes nothing.
use native.Mathlib.Omega.{arith}
use borrow.Author.Rules.{rules}
use Rattle.slots.specs.Told.{Typed}
use Rattle.slots.proofs.Laws.Slots.{put_alone}
use Rattle.slots.proofs.clear.Goals as goal

pub returns : goal.returns
returns c =
    let u = c.args.u in
    let t : Typed u = record { low = search rules; high = search rules } in
    let e = c.set_slot.ensures in record { exact = e; alone = put_alone u t c.args.k 0 c.set_slot.result (omega arith) e }
