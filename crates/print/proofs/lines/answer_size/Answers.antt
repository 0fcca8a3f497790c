-- `lines::answer_size` meets its contract: the size holds the head and is held by what is left, or one of the two fails. Assumes nothing.
use mathlib.Core.Path.{◌≡◌, ap, ◌∙◌}
use Prim.Native.Nat.{ℕ, ◌+◌}
use native.Mathlib.Omega.{arith}
use Rattle.std.specs.Prelude.{Some}
use Rattle.base.specs.Bytes.{num}
use Rattle.print.specs.Laws.Lines.{size_low, size_past, size_whole}
use Rattle.print.proofs.lines.answer_size.Goals as goal
use Rattle.print.proofs.lines.answer_size.Goals.{else-n-ge10-via-then-n-ge10+else-n-left, else-n-ge10-via-else-n-ge10}

pub returns-then-n-left : goal.returns-then-n-left
returns-then-n-left c =
    let l = c.args.left.now in
    let e : c.number_at.result ≡ num 0 2 l = c.number_at.ensures.exact in
    ap (λ (k : ℕ). Some (2 + k)) e ∙ size_whole l (omega arith) (omega arith) (omega arith)

pub returns-else-n-ge10 : goal.returns-else-n-ge10
returns-else-n-ge10 c =
    let l = c.args.left.now in
    let e : c.number_at.result ≡ num 0 2 l = c.number_at.ensures.exact in
    elim c.else-n-ge10.branch [
      | else-n-ge10-via-then-n-ge10+else-n-left w ↦ size_past l (omega arith)
      | else-n-ge10-via-else-n-ge10 w ↦ size_low l (omega arith)
    ]
