-- What the borrow checker has of a buffer whose tail comes back from a callee is `put_tail` of specs/Laws/Tails.antt, and what it lends is
-- `tail_of`: so the laws there apply at a call `f(&mut out[w..])` as they stand. Assumes nothing.
use mathlib.Core.Path.{◌≡◌, refl}
use mathlib.Core.List.{List}
use Prim.Native.Nat.{ℕ, ◌-◌}
use lib.ListN.{length}
use borrow.Rule.Slice.PartMut.{mid_of, put_mid}
use Rattle.frames.specs.Laws.Tails.{tail_of, put_tail}

pub lends : (w : ℕ) (out : List ℕ) → mid_of w (length out - w) out ≡ tail_of w out
lends w out = refl

pub comes_back : (w : ℕ) (out ys : List ℕ) → put_mid w (length out - w) out ys ≡ put_tail w out ys
comes_back w out ys = refl
