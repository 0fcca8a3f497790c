-- Text put behind text in a buffer, and cut where the buffer ends; numbers and bytes as text.
use Rattle.std.specs.Prelude.{ℕ, zero, suc, min, ◌+◌, ◌-◌, ◌/◌, ◌%◌, ◌^◌, ◌<◌, ◌≤◌, List, [], ◌∷◌, ◌++◌, length, take, set, ltb}
use Rattle.base.specs.Choice.{pick}
use Rattle.base.specs.Lists.{over}
use Rattle.frames.specs.Writing.{Written, written}

-- the text at the front of the buffer, as much of it as has room; all behind it as it was
abbrev pub laid : List ℕ → List ℕ → Written
laid text b = written (min (length text) (length b)) (over (take (length b) text) b)

-- the same byte by byte: one byte behind so many
unfoldable pub put : Written → ℕ → Written
put s x = pick (ltb s.count (length s.buffer)) (written (s.count + 1) (set s.buffer s.count x)) s

abbrev pub puts : Written → List ℕ → Written
puts s [] = s
puts s (x ∷ l) = puts (put s x) l

-- the ASCII code of a digit below 16: `0` to `9`, then `a` to `f`
abbrev pub hex_digit_ascii : ℕ → ℕ
hex_digit_ascii d = pick (ltb d 10) (48 + d) (87 + d)

-- the last k digits of n in base b, the most significant first
abbrev pub last_digits : ℕ → ℕ → ℕ → List ℕ
last_digits b zero n = []
last_digits b (suc k) n = last_digits b k (n / b) ++ (hex_digit_ascii (n % b) ∷ [])

-- n takes k digits in base b, `width` at least
abbrev pub IsDigitCount : ℕ → ℕ → ℕ → ℕ → Type 0
IsDigitCount b width n k = (width ≤ k) × (n < b ^ k) × (width < k → b ^ (k - 1) ≤ n)

-- "in decimal": the fewest digits that hold n, one at least; a number of 64 bits has 20 at most
abbrev pub places_from : ℕ → ℕ → ℕ → ℕ
places_from zero k n = k
places_from (suc f) k n = pick (ltb n (10 ^ k)) k (places_from f (suc k) n)

unfoldable pub decimal : ℕ → List ℕ
decimal n = last_digits 10 (places_from 19 1 n) n

-- "in lower-case hex"
abbrev pub hex_of : List ℕ → List ℕ
hex_of [] = []
hex_of (x ∷ l) = hex_digit_ascii (x / 16) ∷ hex_digit_ascii (x % 16) ∷ hex_of l
