-- What is true of the two words that a program holds: marking and clearing change one slot alone, and how many slots are in use.
-- Each law is that of the one number of 128 digits. Assumes nothing.
use Rattle.std.specs.Prelude.{◌≡◌, refl, Bool, true, false, ◌&&◌, List, ℕ, ◌+◌, ◌-◌, ◌^◌, ◌≤◌, ◌<◌, eqb, ltb, length}
use Rattle.std.proofs.Common.{sym, ◌∙◌, arith}
use Rattle.std.proofs.Math.Path.{ap}
use Rattle.std.specs.Int.Count.{ones}
use Rattle.std.proofs.lemmas.Nat.{ones-le}
use borrow.Author.Tests.{ltb-true, ltb-false, lt-ltb, le-ltb}
use Rattle.base.specs.Choice.{pick}
use Rattle.base.specs.Lists.{copies}
use Rattle.base.specs.Laws.Tests.{by_test}
use Rattle.slots.specs.Bits.{bit, with_bit, number, held, none, used_at, put, marked, cleared}
use Rattle.slots.specs.Told.{Typed, Alone}
use Rattle.slots.specs.Laws.Digits.{bit_zero, bit_past, bit_put, put_itself, put_lt}
use Rattle.slots.specs.Laws.Ones.{ones_put, ones_zero, length_ones}
use Rattle.slots.proofs.Laws.Words.{bit_low, bit_high, cat_lt, cat_put_low, cat_put_high}
use Rattle.slots.specs.declared.Used.{Used}

and_same : (a b : Bool) → b ≡ true → (a && b) ≡ a
and_same true b e = e
and_same false b e = refl

and_false : (a b : Bool) → b ≡ false → (a && b) ≡ false
and_false true b e = e
and_false false b e = refl

-- ---- all free

pub none_typed : Typed none
none_typed = record { low = omega arith; high = omega arith }

pub none_held : held none ≡ 0
none_held = ones_zero

pub none_bit : (k : ℕ) → bit (number none) k ≡ 0
none_bit k = bit_zero k

-- past the 128 there is no slot
pub put_past : (u : Used) (k b : ℕ) → 128 ≤ k → put u k b ≡ u
unfolding put
put_past u k b h = rw (le-ltb k 64 (omega arith), le-ltb k 128 h)

module _ (u : Used) (t : Typed u) where
  pub number_lt : number u < 2 ^ 128
  number_lt = cat_lt 64 64 u.hi u.lo t.high t.low

  pub held_le : held u ≤ 128
  held_le = ones-le 128 (number u) number_lt

  -- past the 128 no digit is set, and so a set digit is a slot
  pub bit_beyond : (k : ℕ) → 128 ≤ k → bit (number u) k ≡ 0
  bit_beyond k h = bit_past 128 (number u) k number_lt h

  pub bit_slot : (k : ℕ) → bit (number u) k ≡ 1 → k < 128
  bit_slot k e = by_test (ltb k 128) (ltb-true k 128) (λ f. absurd (omega (arith, bit_beyond k (ltb-false k 128 f))))

  -- a list that has each slot in use once, and nothing else, is as long as there are slots in use
  pub listed_held : (ss : List ℕ) → ((k : ℕ) → copies k ss ≡ bit (number u) k) → length ss ≡ held u
  listed_held ss h = length_ones 128 (number u) ss number_lt h

  -- ---- one slot's digit made b

  pub number_put : (k b : ℕ) → k < 128 → number (put u k b) ≡ with_bit (number u) k b
  unfolding put
  number_put k b h =
      by_test (ltb k 64) (λ e. rw e (cat_put_low 64 u.hi u.lo k b (ltb-true k 64 e)))
      (λ e.
      let s : 64 + (k - 64) ≡ k = omega (arith, ltb-false k 64 e) in
      rw (e, lt-ltb k 128 h) (cat_put_high 64 u.hi u.lo (k - 64) b t.low ∙ ap (λ (x : ℕ). with_bit (number u) x b) s))

  pub put_typed : (k b : ℕ) → b ≤ 1 → Typed (put u k b)
  unfolding put
  put_typed k b h =
      by_test (ltb k 64) (λ e. rw e (record { low = put_lt 64 u.lo k b t.low (ltb-true k 64 e) h; high = t.high }))
      (λ e.
      by_test (ltb k 128)
      (λ f. rw (e, f) (record { low = t.low; high = put_lt 64 u.hi (k - 64) b t.high (omega (arith, ltb-true k 128 f, ltb-false k 64 e)) h }))
      (λ f. rw (e, f) t))

  pub put_bit : (k b j : ℕ) → b ≤ 1 → bit (number (put u k b)) j ≡ pick (eqb j k && ltb k 128) b (bit (number u) j)
  put_bit k b j h =
      by_test (ltb k 128)
      (λ e. rw (and_same (eqb j k) (ltb k 128) e) (ap (λ (x : ℕ). bit x j) (number_put k b (ltb-true k 128 e)) ∙ bit_put (number u) k b j h))
      (λ e. rw (and_false (eqb j k) (ltb k 128) e) (ap (λ (x : Used). bit (number x) j) (put_past u k b (ltb-false k 128 e))))

  pub put_alone : (k b : ℕ) (r : Used) → b ≤ 1 → r ≡ put u k b → Alone u k b r
  put_alone k b r h e = record { bits = λ j. ap (λ (x : Used). bit (number x) j) e ∙ put_bit k b j h }

  pub put_held : (k b : ℕ) → b ≤ 1 → k < 128 → held (put u k b) + bit (number u) k ≡ held u + b
  put_held k b h l = ap (λ (x : ℕ). ones x + bit (number u) k) (number_put k b l) ∙ ones_put (number u) k b h

  -- a digit made what it is changes nothing
  pub put_kept : (k b : ℕ) → bit (number u) k ≡ b → k < 128 → put u k b ≡ u
  unfolding put
  put_kept k b e h =
      by_test (ltb k 64)
      (λ f.
      let s : with_bit u.lo k b ≡ u.lo =
      ap (with_bit u.lo k) (sym e ∙ bit_low 64 u.hi u.lo k (ltb-true k 64 f)) ∙ put_itself u.lo k in
      rw (f, s))
      (λ f.
      let g : 64 + (k - 64) ≡ k = omega (arith, ltb-false k 64 f) in
      let s : with_bit u.hi (k - 64) b ≡ u.hi =
      ap (with_bit u.hi (k - 64)) (sym e ∙ ap (bit (number u)) (sym g) ∙ bit_high 64 u.hi u.lo (k - 64) t.low)
      ∙ put_itself u.hi (k - 64) in
      rw (f, lt-ltb k 128 h, s))

  -- ---- marking and clearing

  pub marked_bit : (k j : ℕ) → bit (number (marked u k)) j ≡ pick (eqb j k && ltb k 128) 1 (bit (number u) j)
  marked_bit k j = put_bit k 1 j (omega arith)

  pub cleared_bit : (k j : ℕ) → bit (number (cleared u k)) j ≡ pick (eqb j k && ltb k 128) 0 (bit (number u) j)
  cleared_bit k j = put_bit k 0 j (omega arith)

  pub marked_typed : (k : ℕ) → Typed (marked u k)
  marked_typed k = put_typed k 1 (omega arith)

  pub cleared_typed : (k : ℕ) → Typed (cleared u k)
  cleared_typed k = put_typed k 0 (omega arith)

  -- of a free slot, and of one in use
  pub marked_held : (k : ℕ) → k < 128 → bit (number u) k ≡ 0 → held (marked u k) ≡ held u + 1
  marked_held k h e = omega (arith, put_held k 1 (omega arith) h)

  pub cleared_held : (k : ℕ) → bit (number u) k ≡ 1 → held (cleared u k) + 1 ≡ held u
  cleared_held k e = omega (arith, put_held k 0 (omega arith) (bit_slot k e))

  -- of a slot in use, and of one that is free or past the 128: nothing changes
  pub marked_again : (k : ℕ) → bit (number u) k ≡ 1 → marked u k ≡ u
  marked_again k e = put_kept k 1 e (bit_slot k e)

  pub cleared_again : (k : ℕ) → bit (number u) k ≡ 0 → cleared u k ≡ u
  cleared_again k e =
      by_test (ltb k 128) (λ f. put_kept k 0 e (ltb-true k 128 f)) (λ f. put_past u k 0 (ltb-false k 128 f))

  -- the test is the digit
  pub used_bit : (k : ℕ) → used_at u k ≡ eqb (bit (number u) k) 1
  unfolding used_at
  used_bit k =
      by_test (ltb k 128) (λ e. rw e) (λ e. rw (e, bit_beyond k (ltb-false k 128 e)))
