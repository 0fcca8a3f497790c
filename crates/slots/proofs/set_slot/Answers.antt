-- `slots::set_slot` meets its contract. Assumes nothing.
use Rattle.std.proofs.Common.{lt-ltb, le-ltb}
use Rattle.slots.specs.Bits.{put}
use Rattle.slots.proofs.set_slot.Goals as goal

pub returns-then-k-lt64 : goal.returns-then-k-lt64
unfolding put
returns-then-k-lt64 c = simp (lt-ltb _ _ c.if-k-lt64.true, c.set_bit.ensures)

pub returns-then-k-lt-ALL : goal.returns-then-k-lt-ALL
unfolding put
returns-then-k-lt-ALL c = simp (le-ltb _ _ c.if-k-lt64.false, lt-ltb _ _ c.if-k-lt-ALL.true, c.set_bit-then-k-lt-ALL.ensures)

pub returns-else-k-lt-ALL : goal.returns-else-k-lt-ALL
unfolding put
returns-else-k-lt-ALL c = simp (le-ltb _ _ c.if-k-lt64.false, le-ltb _ _ c.if-k-lt-ALL.false)
