-- Numbers of 4 and of 8 bytes, byte by byte: each by one division. Assumes nothing.
use Prim.Native.Nat.{ℕ, ◌/◌, ◌%◌}
use mathlib.Core.Path.{◌≡◌, refl, sym, ap, ◌∙◌}
use mathlib.Core.List.{List, [], ◌∷◌, ◌++◌}
use lib.ListN.{drop}
use borrow.Rule.Slice.PartMut.{put_mid}
use Rattle.std.proofs.Common.{append-nil, replicate}
use Rattle.std.specs.Int.{w32, w64, to_be_bytes}
use native.Mathlib.Nat.{div-div-eq-div-mul}
use Rattle.base.specs.Bytes.{bytes_of}

module _ (x : ℕ) where
  by_2 : x / 256 / 256 ≡ x / 65536
  by_2 = div-div-eq-div-mul x 256 256

  by_3 : x / 65536 / 256 ≡ x / 16777216
  by_3 = div-div-eq-div-mul x 65536 256

  by_4 : x / 16777216 / 256 ≡ x / 4294967296
  by_4 = div-div-eq-div-mul x 16777216 256

  by_5 : x / 4294967296 / 256 ≡ x / 1099511627776
  by_5 = div-div-eq-div-mul x 4294967296 256

  by_6 : x / 1099511627776 / 256 ≡ x / 281474976710656
  by_6 = div-div-eq-div-mul x 1099511627776 256

  by_7 : x / 281474976710656 / 256 ≡ x / 72057594037927936
  by_7 = div-div-eq-div-mul x 281474976710656 256

  abbrev four : List ℕ → List ℕ
  four l = x / 16777216 % 256 ∷ x / 65536 % 256 ∷ x / 256 % 256 ∷ x % 256 ∷ l

  abbrev eight : List ℕ → List ℕ
  eight l = x / 72057594037927936 % 256 ∷ x / 281474976710656 % 256 ∷ x / 1099511627776 % 256 ∷ x / 4294967296 % 256 ∷ four l

  is_four : (l : List ℕ) → bytes_of 4 x ++ l ≡ four l
  is_four l = rw (by_2, by_3) refl

  is_eight : (l : List ℕ) → bytes_of 8 x ++ l ≡ eight l
  is_eight l = rw (by_2, by_3, by_4, by_5, by_6, by_7) refl

-- the library's bytes of a number
eight_bytes : (x : ℕ) → to_be_bytes w64 x ≡ bytes_of 8 x
eight_bytes x = sym (is_eight x []) ∙ append-nil (bytes_of 8 x)

four_bytes : (x : ℕ) → to_be_bytes w32 x ≡ bytes_of 4 x
four_bytes x = sym (is_four x []) ∙ append-nil (bytes_of 4 x)

-- a request's name, its program and its terminal, one store each
pub laid_out : (n p m : ℕ) (s t u : List ℕ) → s ≡ to_be_bytes w64 n → t ≡ to_be_bytes w32 p → u ≡ to_be_bytes w32 m
    → put_mid 12 4 (put_mid 8 4 (s ++ drop 8 (replicate 16 0)) t) u ≡ bytes_of 8 n ++ bytes_of 4 p ++ bytes_of 4 m
laid_out n p m s t u es et eu = rw (es ∙ eight_bytes n, et ∙ four_bytes p, eu ∙ four_bytes m) refl
