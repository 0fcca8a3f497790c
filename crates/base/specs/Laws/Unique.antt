-- A promise `reply ≡ definition of the arguments` allows one reply: for every function, whatever it gives. Where a buffer is lent, the
-- reply and the buffer as it is left are one record, and so it is of both. Assumes nothing.
use Rattle.std.specs.Prelude.{◌≡◌}
use Rattle.std.proofs.Common.{sym, ◌∙◌}

pub one_reply : {A : Type 0} {x y defined : A} → x ≡ defined → y ≡ defined → x ≡ y
one_reply e f = e ∙ sym f
