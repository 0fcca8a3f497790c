-- Text put byte by byte: how it appends, what a byte more of it is, and that it is text laid over the buffer; and a
-- number's digits from a count of them. Assumes nothing.
use Rattle.std.specs.Prelude.{ℕ, zero, suc, min, ◌+◌, ◌-◌, ◌^◌, ◌≤◌, ◌<◌, ◌≡◌, refl, List, [], ◌∷◌, ◌++◌, length, drop, set, get_or, ltb}
use Rattle.std.specs.Counts.{IsPrefixLen}
use Rattle.std.proofs.Math.Nat.{pow-le-pow_right}
use Rattle.std.proofs.Common.{add-one, arith, sym, ap, ap₂, ◌∙◌, append-nil, append_assoc, length-append, drop-cons, take_all, take_at, length-take-le, lt-ltb, le-ltb, ltb-true, ltb-false}
use Rattle.base.specs.Lists.{over}
use Rattle.base.specs.Laws.Tests.{by_test}
use Rattle.base.specs.Laws.Over.{length_over, over_set}
use Rattle.frames.specs.Writing.{Written, written}
use Rattle.print.specs.Text.{put, puts, laid, last_digits, IsDigitCount, places_from, decimal, hex_of}

-- ---- put

pub put_room : (at : ℕ) (b : List ℕ) (x : ℕ) → at < length b → put (written at b) x ≡ written (at + 1) (set b at x)
unfolding put
put_room at b x h = rw (lt-ltb at (length b) h)

pub put_full : (at : ℕ) (b : List ℕ) (x : ℕ) → length b ≤ at → put (written at b) x ≡ written at b
unfolding put
put_full at b x h = rw (le-ltb at (length b) h)

-- ---- puts

pub puts_append : (s : Written) (a b : List ℕ) → puts s (a ++ b) ≡ puts (puts s a) b
puts_append s [] b = refl
puts_append s (x ∷ a) b = puts_append (put s x) a b

-- after s, a and then b
pub puts_both : (s t u : Written) (a b : List ℕ) → t ≡ puts s a → u ≡ puts t b → u ≡ puts s (a ++ b)
puts_both s t u a b e f = f ∙ ap (λ (w : Written). puts w b) e ∙ sym (puts_append s a b)

module _ (l : List ℕ) (i : ℕ) where
  pub puts_next : (s t : Written) → i < length l → t ≡ put s (get_or l i 0) → puts t (drop (i + 1) l) ≡ puts s (drop i l)
  puts_next s t h e = rw (e, add-one i, drop-cons l i 0 h) refl

  pub hex_next : (s t : Written) → i < length l → t ≡ puts s (hex_of (get_or l i 0 ∷ [])) → puts t (hex_of (drop (i + 1) l)) ≡ puts s (hex_of (drop i l))
  hex_next s t h e = rw (e, add-one i, drop-cons l i 0 h) refl

-- ---- digits

-- the fewest from j on
places_told : (f j k n : ℕ) → 1 ≤ j → j ≤ k → k ≤ f + j → n < 10 ^ k → (1 < k → 10 ^ (k - 1) ≤ n) → places_from f j n ≡ k
places_told zero j k n one le few below above = omega arith
places_told (suc f) j k n one le few below above =
    by_test (ltb n (10 ^ j))
    (λ t.
    let e : j ≡ k =
    by_test (ltb j k)
    (λ u.
    let h : j < k = ltb-true j k u in
    let p : 10 ^ j ≤ 10 ^ (k - 1) = pow-le-pow_right (omega arith) {i = j} {j = k - 1} (omega arith) in
    let q : 10 ^ (k - 1) ≤ n = above (omega arith) in
    let r : n < 10 ^ j = ltb-true n (10 ^ j) t in
    omega arith)
    (λ u. let h : k ≤ j = ltb-false j k u in omega arith) in
    rw t e)
    (λ t.
    let h : j < k =
    by_test (ltb j k) (λ u. ltb-true j k u)
    (λ u.
    let h : k ≤ j = ltb-false j k u in
    let p : 10 ^ k ≤ 10 ^ j = pow-le-pow_right (omega arith) {i = k} {j = j} h in
    let r : 10 ^ j ≤ n = ltb-false n (10 ^ j) t in
    omega arith) in
    rw t (places_told f (suc j) k n (omega arith) (omega arith) (omega arith) below above))

-- a number of 64 bits has 20 at most
places_few : (n k : ℕ) → n < 18446744073709551616 → (1 < k → 10 ^ (k - 1) ≤ n) → k ≤ 20
places_few n k bits above =
    by_test (ltb 20 k)
    (λ t.
    let h : 20 < k = ltb-true 20 k t in
    let p : 10 ^ 20 ≤ 10 ^ (k - 1) = pow-le-pow_right (omega arith) {i = 20} {j = k - 1} (omega arith) in
    let q : 10 ^ (k - 1) ≤ n = above (omega arith) in
    absurd (omega arith))
    (λ t. ltb-false 20 k t)

-- the fewest digits that hold it are its decimal
pub decimal_told : (n k : ℕ) → n < 18446744073709551616 → IsDigitCount 10 1 n k → last_digits 10 k n ≡ decimal n
unfolding decimal
decimal_told n k bits h =
    let few = places_few n k bits h.2 in
    ap (λ (m : ℕ). last_digits 10 m n) (sym (places_told 19 1 k n (omega arith) h.0 (omega arith) h.1 h.2))

-- ---- laid

-- a full buffer stays as it is
puts_full : (at : ℕ) (b e : List ℕ) → length b ≤ at → puts (written at b) e ≡ written at b
puts_full at b [] h = refl
puts_full at b (x ∷ e) h = ap (λ (s : Written). puts s e) (put_full at b x h) ∙ puts_full at b e h

-- what has room is laid as it is, and of more only what has room
laid_fits : (ks b : List ℕ) → length ks ≤ length b → laid ks b ≡ written (length ks) (over ks b)
laid_fits ks b h =
    let n : min (length ks) (length b) ≡ length ks = omega arith in
    ap₂ written n (ap (λ (t : List ℕ). over t b) (take_all (length b) ks h))

laid_cut : (ks e b : List ℕ) → length ks ≡ length b → laid (ks ++ e) b ≡ written (length ks) (over ks b)
laid_cut ks e b h =
    let n : min (length (ks ++ e)) (length b) ≡ length ks = rw (length-append ks e) (omega arith) in
    ap₂ written n (ap (λ (t : List ℕ). over t b) (take_at ks e (length b) h))

-- behind ks
laid_more : (ks e b : List ℕ) → length ks ≤ length b → puts (written (length ks) (over ks b)) e ≡ laid (ks ++ e) b
laid_more ks [] b h = sym (laid_fits ks b h) ∙ ap (λ (t : List ℕ). laid t b) (sym (append-nil ks))
laid_more ks (x ∷ e) b h =
    let same : length (over ks b) ≡ length b = length_over ks b h in
    by_test (ltb (length ks) (length b))
    (λ t.
    let room : length ks < length b = ltb-true (length ks) (length b) t in
    let n : length (ks ++ (x ∷ [])) ≡ length ks + 1 = length-append ks (x ∷ []) in
    ap (λ (s : Written). puts s e)
    (put_room (length ks) (over ks b) x (omega arith) ∙ ap₂ written (sym n) (over_set ks b x room))
    ∙ laid_more (ks ++ (x ∷ [])) e b (omega arith)
    ∙ ap (λ (t : List ℕ). laid t b) (append_assoc ks (x ∷ []) e))
    (λ t.
    let full : length b ≤ length ks = ltb-false (length ks) (length b) t in
    puts_full (length ks) (over ks b) (x ∷ e) (omega arith) ∙ sym (laid_cut ks (x ∷ e) b (omega arith)))

-- text put from the front on is laid over the buffer
pub puts_laid : (e b : List ℕ) → puts (written 0 b) e ≡ laid e b
puts_laid e b = laid_more [] e b (omega arith)

-- and what it took is within the buffer
pub laid_within : (r : ℕ) (after e b : List ℕ) → length after ≡ length b → written r after ≡ laid e b → IsPrefixLen r after
laid_within r after e b same h =
    let n : r ≡ min (length e) (length b) = ap (λ (s : Written). s.count) h in
    let le : r ≤ length after = omega arith in
    (le, sym (length-take-le r after le))
