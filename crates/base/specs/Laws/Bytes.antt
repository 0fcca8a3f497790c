-- Numbers from bytes and bytes from numbers, of any width: how they append, that each undoes the other, their bounds,
-- and the number at a place, byte by byte. Assumes nothing.
use Rattle.std.specs.Prelude.{◌≡◌, refl, true, ◌&&◌, List, [], ◌∷◌, ◌++◌, ℕ, zero, suc, ◌+◌, ◌*◌, ◌/◌, ◌%◌, ◌^◌, ◌<◌, ◌≤◌, length, take, drop, get_or}
use Rattle.std.proofs.Common.{ap, ap₂, ◌∙◌, zero-add, add-zero, zero-lt-suc, pow-suc, zero-mul, add-mul, mul_assoc, div-add-mod', div-lt_iff_lt-mul, div-one, mod-lt, lt_of_lt_of_le, add-one, arith, length-append, length-take, length-drop, take-suc, get_or-drop, ltb-true, lt-ltb}
use Rattle.std.proofs.Math.Nat.{pow-le-pow_right, pow-zero, pow-succ', div-div-eq-div-mul, min-le_left}
use Rattle.std.proofs.Math.Arith.{digits_lt, digits_div, digits_mod}
use Rattle.base.specs.Bytes.{num_from, num, bytes_of, is_byte, is_bytes}
use Rattle.base.specs.Laws.Tests.{and_l, and_r, and_i}
use Rattle.base.specs.Laws.Keep.{all_append, all_take, all_drop}

-- ---- bytes

pub is_bytes_append : (a b : List ℕ) → is_bytes (a ++ b) ≡ (is_bytes a && is_bytes b)
is_bytes_append a b = all_append is_byte a b

pub is_bytes_join : (a b : List ℕ) → is_bytes a ≡ true → is_bytes b ≡ true → is_bytes (a ++ b) ≡ true
is_bytes_join a b e f = is_bytes_append a b ∙ and_i e f

pub is_bytes_take : (n : ℕ) (l : List ℕ) → is_bytes l ≡ true → is_bytes (take n l) ≡ true
is_bytes_take n l h = all_take is_byte n l h

pub is_bytes_drop : (n : ℕ) (l : List ℕ) → is_bytes l ≡ true → is_bytes (drop n l) ≡ true
is_bytes_drop n l h = all_drop is_byte n l h

-- ---- a number from bytes

pub num_from_append : (x : ℕ) (a b : List ℕ) → num_from x (a ++ b) ≡ num_from (num_from x a) b
num_from_append x [] b = refl
num_from_append x (y ∷ a) b = num_from_append (x * 256 + y) a b

-- what stands before the bytes weighs one power more for each
pub num_from_high : (x : ℕ) (l : List ℕ) → num_from x l ≡ x * 256 ^ length l + num_from 0 l
num_from_high x [] = rw pow-zero (omega arith)
num_from_high x (y ∷ l) =
    rw (num_from_high (x * 256 + y) l, num_from_high (0 * 256 + y) l, pow-succ' 256 (length l))
    (rw (add-mul (x * 256) y (256 ^ length l), mul_assoc x 256 (256 ^ length l)) (omega arith))

pub num_from_bound : (l : List ℕ) → is_bytes l ≡ true → num_from 0 l < 256 ^ length l
num_from_bound [] h = rw pow-zero (omega arith)
num_from_bound (y ∷ l) h =
    let b : y < 256 = ltb-true y 256 (and_l (is_byte y) (is_bytes l) h) in
    let r : num_from 0 l < 256 ^ length l = num_from_bound l (and_r (is_byte y) (is_bytes l) h) in
    rw (zero-mul 256, zero-add y, num_from_high y l, pow-succ' 256 (length l)) (digits_lt b r)

pub num_bound : (at n : ℕ) (r : List ℕ) → is_bytes r ≡ true → num at n r < 256 ^ n
num_bound at n r h =
    let p : length (take n (drop at r)) ≤ n = rw (length-take n (drop at r)) (min-le_left n (length (drop at r))) in
    lt_of_lt_of_le (num_from_bound (take n (drop at r)) (is_bytes_take n (drop at r) (is_bytes_drop at r h)))
    (pow-le-pow_right (zero-lt-suc 255) p)

-- ---- a number in bytes

pub length_bytes_of : (n x : ℕ) → length (bytes_of n x) ≡ n
length_bytes_of zero x = refl
length_bytes_of (suc n) x = rw (length-append (bytes_of n (x / 256)) (x % 256 ∷ []), length_bytes_of n (x / 256)) (add-one n)

pub is_bytes_bytes_of : (n x : ℕ) → is_bytes (bytes_of n x) ≡ true
is_bytes_bytes_of zero x = refl
is_bytes_bytes_of (suc n) x =
    is_bytes_join (bytes_of n (x / 256)) (x % 256 ∷ []) (is_bytes_bytes_of n (x / 256))
    (and_i (lt-ltb (x % 256) 256 (mod-lt x (zero-lt-suc 255))) refl)

pub num_bytes_of : (n x : ℕ) → x < 256 ^ n → num_from 0 (bytes_of n x) ≡ x
num_bytes_of zero x h = let g : x < 1 = rw pow-zero at h in omega arith
num_bytes_of (suc n) x h =
    let q : x / 256 < 256 ^ n = (div-lt_iff_lt-mul (zero-lt-suc 255)).1 (rw (pow-suc 256 n) at h) in
    rw (num_from_append 0 (bytes_of n (x / 256)) (x % 256 ∷ []), num_bytes_of n (x / 256) q) (div-add-mod' x 256)

-- the first byte, then the others
bytes_of_front : (n x : ℕ) → bytes_of (suc n) x ≡ x / 256 ^ n % 256 ∷ bytes_of n x
bytes_of_front zero x = rw (pow-zero, div-one)
bytes_of_front (suc n) x =
    rw (bytes_of_front n (x / 256), div-div-eq-div-mul x 256 (256 ^ n), pow-succ' 256 n)

bytes_of_num_from : (x : ℕ) (l : List ℕ) → is_bytes l ≡ true → bytes_of (length l) (num_from x l) ≡ l
bytes_of_num_from x [] h = refl
bytes_of_num_from x (y ∷ l) h =
    let z : ℕ = x * 256 + y in
    let t : is_bytes l ≡ true = and_r (is_byte y) (is_bytes l) h in
    let b : y < 256 = ltb-true y 256 (and_l (is_byte y) (is_bytes l) h) in
    let e : num_from z l / 256 ^ length l ≡ z = rw (num_from_high z l) (digits_div z (num_from_bound l t)) in
    bytes_of_front (length l) (num_from z l)
    ∙ ap₂ (λ (k : ℕ) (r : List ℕ). k ∷ r) (ap (λ (k : ℕ). k % 256) e ∙ digits_mod x b) (bytes_of_num_from z l t)

pub bytes_of_num : (l : List ℕ) → is_bytes l ≡ true → bytes_of (length l) (num_from 0 l) ≡ l
bytes_of_num l h = bytes_of_num_from 0 l h

-- ---- the number at a place

-- one byte wider
pub num_suc : (at n : ℕ) (r : List ℕ) → at + n < length r → num at (suc n) r ≡ num at n r * 256 + get_or r (at + n) 0
num_suc at n r h =
    let b : n < length (drop at r) = rw (length-drop at r) (omega arith) in
    rw (take-suc (drop at r) n 0 b, num_from_append 0 (take n (drop at r)) (get_or (drop at r) n 0 ∷ []), get_or-drop at r n 0)

pub num_one : (at : ℕ) (r : List ℕ) → at < length r → num at 1 r ≡ get_or r at 0
num_one at r h = rw (num_suc at 0 r (omega arith), add-zero at) (omega arith)
