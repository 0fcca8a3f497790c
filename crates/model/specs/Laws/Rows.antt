-- What is so of every row of the table of commands is so of the row of any command byte. Assumes nothing.
use Rattle.std.specs.Prelude.{ℕ, suc, zero, List, [], ◌∷◌, get_or}
use Rattle.model.specs.Commands.{Row, no_row, table, row_of}

module _ {A : Type 0} where
  -- P of each element at its place
  abbrev pub Each : (ℕ → A → Type 0) → List A → Type 0
  Each P [] = Unit {0}
  Each P (x ∷ l) = P 0 x × Each (λ n. P (suc n)) l

  pub each_at : (l : List A) (d : A) (P : ℕ → A → Type 0) → Each P l → ((n : ℕ) → P n d) → (n : ℕ) → P n (get_or l n d)
  each_at [] d P a e n = e n
  each_at (x ∷ l) d P a e zero = a.0
  each_at (x ∷ l) d P a e (suc n) = each_at l d (λ m. P (suc m)) a.1 (λ m. e (suc m)) n

infixr 5 ◌▹◌
-- what is so of a row, and then of the rows behind it
pub ◌▹◌ : {P Q : Type 0} → P → Q → P × Q
p ▹ q = (p, q)

pub of_every : (P : ℕ → Row → Type 0) → ((n : ℕ) → P n no_row) → Each (λ n. P (suc n)) table → (n : ℕ) → P n (row_of n)
of_every P none each zero = none 0
of_every P none each (suc n) = each_at table no_row (λ m. P (suc m)) each (λ m. none (suc m)) n
