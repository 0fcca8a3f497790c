-- Records laid end to end behind a header are framed back into themselves: every list of records of 9 bytes and more that fits
-- 4,096 bytes is the framing of some list, and of this one. Assumes nothing.
use Rattle.std.specs.Prelude.{◌≡◌, refl, Bool, true, List, [], ◌∷◌, ◌++◌, ℕ, zero, suc, ◌+◌, ◌^◌, ◌≤◌, ◌<◌, leb, length, take, drop}
use Rattle.std.proofs.Common.{ap, sym, ◌∙◌, arith, length-append, drop-drop, leb-true, ne_eqb}
use Rattle.std.proofs.Math.Seq.{take-append_seam, drop-append_seam}
use Rattle.base.specs.Lists.{all}
use Rattle.base.specs.Bytes.{num, bytes_of}
use Rattle.base.specs.Laws.Bytes.{num_bytes_of}
use Rattle.base.specs.Laws.Tests.{and_l, and_r}
use Rattle.model.specs.Examples.{laid, list_of}
use Rattle.model.specs.Lists.{good, whole, records, headed, framed}
use Rattle.frames.specs.Reading.{left}
use Rattle.frames.specs.Laws.Records.{whole_is}
use Rattle.frames.specs.Laws.Framing.{headed_is, framed_left}

-- a record is a command byte, an issuer and operands
abbrev pub nine : List ℕ → Bool
nine r = leb 9 (length r)

module _ (r : List ℕ) (rest : List ℕ) where
  abbrev one : List ℕ
  one = bytes_of 2 (length r) ++ r ++ rest

  long_one : length one ≡ 2 + length r + length rest
  long_one = let n = length-append r rest in omega arith

  module _ (small : length r < 65536) where
    size_one : num 0 2 one ≡ length r
    size_one = num_bytes_of 2 (length r) (omega arith)

    whole_one : 9 ≤ length r → whole one ≡ true
    whole_one h =
        let z = size_one in
        let n = long_one in
        whole_is one 0 (record { two = omega arith; nine = omega arith; within = omega arith })

    take_one : take (num 0 2 one) (drop 2 one) ≡ r
    take_one = ap (λ (k : ℕ). take k (r ++ rest)) size_one ∙ take-append_seam r rest

    drop_one : drop (2 + num 0 2 one) one ≡ rest
    drop_one = ap (λ (k : ℕ). drop (2 + k) one) size_one ∙ sym (drop-drop (length r) 2 one) ∙ drop-append_seam r rest

records_laid : (v f : ℕ) (rs : List (List ℕ)) → all nine rs ≡ true → length (laid rs) ≤ f → f < 65536 → records v f (laid rs) ≡ good v rs
records_laid v zero [] a h b = refl
records_laid v (suc f) [] a h b = refl
records_laid v zero (r ∷ rs) a h b = let n = long_one r (laid rs) in absurd (omega arith)
records_laid v (suc f) (r ∷ rs) a h b =
    let n : length (one r (laid rs)) ≡ 2 + length r + length (laid rs) = long_one r (laid rs) in
    let small : length r < 65536 = omega arith in
    let big : 9 ≤ length r = leb-true 9 (length r) (and_l (nine r) (all nine rs) a) in
    let some = ne_eqb (length (one r (laid rs))) 0 (λ z. omega arith) in
    let i : records v f (laid rs) ≡ good v rs = records_laid v f rs (and_r (nine r) (all nine rs) a) (omega arith) (omega arith) in
    rw (some, whole_one r (laid rs) small big, take_one r (laid rs) small, drop_one r (laid rs) small, i)

pub framed_laid : (v : ℕ) (rs : List (List ℕ)) → v < 2 ^ 32 → all nine rs ≡ true → length (list_of v rs) ≤ 4096 → framed (list_of v rs) ≡ good v rs
unfolding left
framed_laid v rs b a h =
    let l : List ℕ = list_of v rs in
    let size : num 0 4 l ≡ 5 + length (laid rs) = num_bytes_of 4 (5 + length (laid rs)) (omega arith) in
    let start : num 5 4 l ≡ v = num_bytes_of 4 v (omega arith) in
    let head : headed l ≡ true = headed_is l (record { low = omega arith; high = h; length_field = omega arith; version = refl }) in
    framed_left l head ∙ records_laid (num 5 4 l) (length l) rs a (omega arith) (omega arith) ∙ ap (λ (k : ℕ). good k rs) start
