-- What the answer writer leaves in the buffer that it is lent, by the model's `encoded` and `over`.
use Rattle.std.specs.Prelude.{List, [], ◌∷◌, ◌++◌, ℕ, ◌+◌, length, take, leb}
use Rattle.base.specs.Choice.{pick}
use Rattle.base.specs.Lists.{over}
use Rattle.base.specs.Bytes.{bytes_of}
use Rattle.model.specs.Commands.{Answer}

-- "0..64 bytes": the first n of them, 64 at most
abbrev pub carried : List ℕ → ℕ → List ℕ
carried bytes n = take n (take 64 bytes)

-- the answer of these values
abbrev pub answer_of : ℕ → ℕ → ℕ → ℕ → List ℕ → ℕ → Answer
answer_of c a l m bytes n = record { condition = c; action = a; label = l; number = m; bytes = carried bytes n }

-- what stands before its bytes, n of them
abbrev pub head_of : ℕ → ℕ → ℕ → ℕ → ℕ → List ℕ
head_of c a l m n = bytes_of 2 (8 + n) ++ (c ∷ a ∷ []) ++ bytes_of 2 l ++ bytes_of 4 m

-- the number that is returned, and the buffer as it is left
pub record Written : Type 0 where
  pub count : ℕ
  pub buffer : List ℕ

abbrev pub written : ℕ → List ℕ → Written
written n b = record { count = n; buffer = b }

-- e at the front of the buffer, all behind it as it was; or nothing at all where it has no room
unfoldable pub written_over : List ℕ → List ℕ → Written
written_over e b = pick (leb (length e) (length b)) (written (length e) (over e b)) (written 0 b)
