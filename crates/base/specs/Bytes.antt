-- Numbers from bytes and bytes from numbers, big end first, of any width; names; and bytes stored among bytes.
use Rattle.std.specs.Prelude.{ℕ, suc, zero, ◌+◌, ◌*◌, ◌/◌, ◌%◌, ◌^◌, Bool, not, ◌&&◌, List, [], ◌∷◌, ◌++◌, length, take, drop, replicate, leb, ltb, eqb}
use Rattle.std.proofs.Math.Seq.{paste}
use Rattle.base.specs.Choice.{pick}
use Rattle.base.specs.Lists.{all}

-- a, followed by the bytes
abbrev pub num_from : ℕ → List ℕ → ℕ
num_from a [] = a
num_from a (x ∷ l) = num_from (a * 256 + x) l

-- the n bytes at a place, as a number
abbrev pub num : ℕ → ℕ → List ℕ → ℕ
num at n r = num_from 0 (take n (drop at r))

-- a number in n bytes
abbrev pub bytes_of : ℕ → ℕ → List ℕ
bytes_of zero x = []
bytes_of (suc n) x = bytes_of n (x / 256) ++ (x % 256 ∷ [])

abbrev pub is_byte : ℕ → Bool
is_byte b = ltb b 256

abbrev pub is_bytes : List ℕ → Bool
is_bytes l = all is_byte l

-- "A name of spaces only (hex 20) is blank.", of w bytes
abbrev pub blank : ℕ → ℕ
blank w = num_from 0 (replicate w 0x20)

-- a name of w bytes that is not blank
abbrev pub is_name : ℕ → ℕ → Bool
is_name w n = ltb n (256 ^ w) && not (eqb n (blank w))

-- the bytes of s from a place on, and nothing where they do not fit
unfoldable pub stored : List ℕ → ℕ → List ℕ → List ℕ
stored d at s = pick (leb (at + length s) (length d)) (paste d at s (length s)) d
