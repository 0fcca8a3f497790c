-- Rows of a width in a list of words: the first word of each row, and the list with some words less.
use Rattle.std.specs.Prelude.{ℕ, zero, suc, ◌+◌, List, [], ◌∷◌, ◌++◌, take, drop}
use Rattle.base.specs.Lists.{over}

-- what stands behind k others, and then behind each `gap` more
abbrev pub column_from : ℕ → ℕ → List ℕ → List ℕ
column_from gap k [] = []
column_from gap zero (x ∷ l) = x ∷ column_from gap gap l
column_from gap (suc k) (x ∷ l) = column_from gap k l

abbrev pub column : ℕ → List ℕ → List ℕ
column gap l = column_from gap zero l

-- the n words from a place on go; what stands past the others is kept
abbrev pub shut : ℕ → ℕ → List ℕ → List ℕ
shut at n l = over (take at l ++ drop (at + n) l) l
