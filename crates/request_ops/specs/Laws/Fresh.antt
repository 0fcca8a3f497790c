-- All words 0, and the register: no request. Assumes nothing.
use Rattle.std.specs.Prelude.{◌≡◌, ℕ, List, [], ◌∷◌, length, replicate, slice_set, refl}
use Rattle.std.proofs.Common.{ap, ap₂}
use Rattle.request_rows.specs.Rows.{Row, no_row, rows_of, rest_of}
use Rattle.request_rows.specs.Table.{view_of}
use Rattle.request_rows.specs.Fresh.{fresh_at}

rows_zero : (l : List ℕ) → rows_of (replicate (length l) 0) ≡ replicate (length (rows_of l)) no_row
rows_zero [] = refl
rows_zero (a ∷ []) = refl
rows_zero (a ∷ b ∷ []) = refl
rows_zero (a ∷ b ∷ c ∷ []) = refl
rows_zero (a ∷ b ∷ c ∷ d ∷ l) = ap (λ (r : List Row). no_row ∷ r) (rows_zero l)

rest_zero : (l : List ℕ) → rest_of (replicate (length l) 0) ≡ replicate (length (rest_of l)) 0
rest_zero [] = refl
rest_zero (a ∷ []) = refl
rest_zero (a ∷ b ∷ []) = refl
rest_zero (a ∷ b ∷ c ∷ []) = refl
rest_zero (a ∷ b ∷ c ∷ d ∷ l) = rest_zero l

pub fresh_words : (w : List ℕ) (r : ℕ) → view_of (slice_set (replicate (length w) 0) 0 r) ≡ fresh_at (view_of w) r
unfolding fresh_at
fresh_words [] r = refl
fresh_words (a ∷ []) r = refl
fresh_words (a ∷ b ∷ l) r =
    ap₂ (λ (rs : List Row) (p : List ℕ). record { register = r ∷ []; count = 0; rows = rs; past = p }) (rows_zero l) (rest_zero l)
