-- The numbers of two and of four bytes at a place, byte by byte. Assumes nothing.
use Rattle.std.specs.Prelude.{◌≡◌, List, ℕ, ◌+◌, ◌*◌, ◌≤◌, length, get_or}
use Rattle.std.proofs.Common.{ap, ◌∙◌, arith}
use Rattle.base.specs.Bytes.{num}
use Rattle.base.specs.Laws.Bytes.{num_suc, num_one}

module _ (at : ℕ) (l : List ℕ) where
  pub num_two : at + 2 ≤ length l → num at 2 l ≡ get_or l at 0 * 256 + get_or l (at + 1) 0
  num_two h = num_suc at 1 l (omega arith) ∙ ap (λ (k : ℕ). k * 256 + get_or l (at + 1) 0) (num_one at l (omega arith))

  pub num_four : at + 4 ≤ length l
      → num at 4 l ≡ ((get_or l at 0 * 256 + get_or l (at + 1) 0) * 256 + get_or l (at + 2) 0) * 256 + get_or l (at + 3) 0
  num_four h =
      num_suc at 3 l (omega arith)
      ∙ ap (λ (k : ℕ). k * 256 + get_or l (at + 3) 0) (num_suc at 2 l (omega arith) ∙ ap (λ (k : ℕ). k * 256 + get_or l (at + 2) 0) (num_two (omega arith)))
