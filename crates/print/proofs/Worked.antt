-- The printed form computes: the definitions of specs/ on lines written out. Assumes nothing.
use mathlib.Core.Path.{◌≡◌, refl}
use mathlib.Core.List.{[], ◌∷◌}
use Rattle.print.specs.Text.{decimal}
use Rattle.print.specs.Lines.{line_of, refusal_line, lines_of}

-- `0 35 0 0 0 -`
refused : refusal_line ≡ 48 ∷ 32 ∷ 51 ∷ 53 ∷ 32 ∷ 48 ∷ 32 ∷ 48 ∷ 32 ∷ 48 ∷ 32 ∷ 45 ∷ 10 ∷ []
unfolding decimal
refused = refl

-- `12 4 1 65535 10 0aff`
with_bytes_lem : line_of 12 (record { condition = 4; action = 1; label = 65535; number = 10; bytes = 10 ∷ 255 ∷ [] })
    ≡ 49 ∷ 50 ∷ 32 ∷ 52 ∷ 32 ∷ 49 ∷ 32 ∷ 54 ∷ 53 ∷ 53 ∷ 51 ∷ 53 ∷ 32 ∷ 49 ∷ 48 ∷ 32 ∷ 48 ∷ 97 ∷ 102 ∷ 102 ∷ 10 ∷ []
unfolding decimal
with_bytes_lem = refl

-- `1 0 0 0 4294967295 -`, from the bytes of an answer
from_bytes : lines_of (0 ∷ 8 ∷ 0 ∷ 0 ∷ 0 ∷ 0 ∷ 255 ∷ 255 ∷ 255 ∷ 255 ∷ [])
    ≡ 49 ∷ 32 ∷ 48 ∷ 32 ∷ 48 ∷ 32 ∷ 48 ∷ 32 ∷ 52 ∷ 50 ∷ 57 ∷ 52 ∷ 57 ∷ 54 ∷ 55 ∷ 50 ∷ 57 ∷ 53 ∷ 32 ∷ 45 ∷ 10 ∷ []
unfolding decimal lines_of
from_bytes = refl
