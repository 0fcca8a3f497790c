-- `bytes::number_at` meets its contract: each byte that is read is one digit more, to the base 256. Assumes nothing.
use Rattle.std.proofs.Common.{◌≡◌, ℕ, ◌+◌, ◌*◌, ◌^◌, ◌<◌, ◌≤◌, List, [], ◌∷◌, length, take, get_or, rules, arith, ap, ◌∙◌, zero-lt-suc, lt_of_lt_of_le, length-take}
use Rattle.std.proofs.Math.Nat.{pow-le-pow_right}
use Rattle.std.proofs.lemmas.List.{take_more}
use Rattle.std.proofs.lemmas.Grind.{pow_more}
use Rattle.base.specs.Bytes.{num_from}
use Rattle.base.specs.Laws.Bytes.{num_from_append}
use Rattle.base.proofs.bytes.number_at.Goals as goal

-- of at most m digits
small_of : (a i m : ℕ) → a < 256 ^ i → i ≤ m → a < 256 ^ m
small_of a i m h b = lt_of_lt_of_le h (pow-le-pow_right (zero-lt-suc 255) b)

small_more : (a b i : ℕ) → a < 256 ^ i → b < 256 → a * 256 + b < 256 ^ (i + 1)
small_more a b i h k = omega (arith, pow_more 256 i)

num_more : (l : List ℕ) (i : ℕ) → i < length l → num_from 0 (take (i + 1) l) ≡ num_from 0 (take i l) * 256 + get_or l i 0
num_more l i h = ap (num_from 0) (take_more l i 0 h) ∙ num_from_append 0 (take i l) (get_or l i 0 ∷ [])

module _ (c : goal.After-from-b) where
  digits : c.loop-byte.byte-index < 8
  digits = omega (arith, ap length c.front-byte-items.ensures.exact, length-take {A = ℕ})

  sum : c.loop-byte.a * 256 + c.from-b.result < 256 ^ (c.loop-byte.byte-index + 1)
  sum = small_more _ _ _ c.loop-byte.invariant.small (search rules)

  fits : c.loop-byte.a * 256 + c.from-b.result < 256 ^ 8
  fits = small_of _ _ 8 sum (omega (arith, digits))

pub overflow_mul-a : goal.overflow_mul-a
overflow_mul-a c = let f = fits c in search rules

pub overflow_add-a : goal.overflow_add-a
overflow_add-a c = let f = fits c in search rules

pub loop-byte-preserved : goal.loop-byte-preserved
loop-byte-preserved c = record { exact = cc (num_more _ _ c.loop-byte-test.true); small = sum c }

pub returns-clause-small : goal.returns-clause-small
returns-clause-small c =
    small_of _ _ _ c.loop-byte.invariant.small (omega (arith, ap length c.front-byte-items.ensures.exact, length-take {A = ℕ}))
