-- No slot twice and each marked: each one's bit is set, and is cleared. What a loop that does so has left. Assumes nothing.
use mathlib.Core.Path.{◌≡◌, refl, sym, ap, ◌∙◌}
use mathlib.Core.Bool.{Bool, true, false, not, ◌&&◌}
use mathlib.Core.List.{List, [], ◌∷◌}
use Prim.Native.Nat.{ℕ, ◌<◌, ◌≤◌}
use lib.Dec.{eqb, leb, ltb}
use lib.ListN.{length, take, drop, get_or}
use borrow.Author.Tests.{eqb-true, lt-ltb, le-leb}
use Rattle.base.specs.Lists.{all, has, once}
use Rattle.base.specs.Laws.Tests.{and_none, by_test}
use Rattle.base.specs.Laws.Keep.{all_none, all_same}
use Rattle.std.proofs.Common.{drop-cons, drop_of_length-le}
use Rattle.slots.specs.declared.Used.{Used}
use Rattle.slots.specs.Bits.{bit, number, used_at, cleared}
use Rattle.slots.specs.Told.{Typed}
use Rattle.slots.proofs.Laws.Slots.{used_bit, bit_slot, cleared_bit, cleared_typed}

-- ---- tests

pub all_and : (p q : ℕ → Bool) (l : List ℕ) → all (λ x. p x && q x) l ≡ (all p l && all q l)
all_and p q [] = refl
all_and p q (x ∷ l) =
    by_test (p x) (λ e. by_test (q x) (λ f. rw (e, f, all_and p q l)) (λ f. rw (e, f) (and_none (all p l)))) (λ e. rw e)

and_move : (a b c : Bool) → (a && (b && c)) ≡ (b && a && c)
and_move true true c = refl
and_move true false c = refl
and_move false true c = refl
and_move false false c = refl

-- ---- the slots that drain the marked bits

abbrev pub drains : Used → List ℕ → Bool
drains u [] = true
drains u (s ∷ ss) = used_at u s && drains (cleared u s) ss

module _ (u : Used) (y : Typed u) (s : ℕ) (m : used_at u s ≡ true) where
  slot_lt : ltb s 128 ≡ true
  slot_lt = lt-ltb s 128 (bit_slot u y s (eqb-true (bit (number u) s) 1 (sym (used_bit u y s) ∙ m)))

  -- the others are marked as before
  others_marked : (t : ℕ) → used_at (cleared u s) t ≡ (not (eqb t s) && used_at u t)
  others_marked t =
      used_bit (cleared u s) (cleared_typed u y s) t
      ∙ ap (λ (x : ℕ). eqb x 1) (cleared_bit u y s t)
      ∙ by_test (eqb t s) (λ e. rw (e, slot_lt)) (λ e. rw (e, used_bit u y t))

  rest_marked : (ss : List ℕ) → all (used_at (cleared u s)) ss ≡ (not (has s ss) && all (used_at u) ss)
  rest_marked ss =
      all_same (used_at (cleared u s)) (λ t. not (eqb t s) && used_at u t) others_marked ss
      ∙ all_and (λ t. not (eqb t s)) (used_at u) ss
      ∙ ap (λ (b : Bool). b && all (used_at u) ss) (all_none (λ t. eqb t s) ss)

drains_is : (u : Used) → Typed u → (ss : List ℕ) → drains u ss ≡ (once ss && all (used_at u) ss)
drains_is u y [] = refl
drains_is u y (s ∷ ss) =
    by_test (used_at u s)
    (λ e.
    rw (e, drains_is (cleared u s) (cleared_typed u y s) ss, rest_marked u y s e ss)
    (and_move (once ss) (not (has s ss)) (all (used_at u) ss)))
    (λ e. rw e (and_none (not (has s ss) && once ss)))

-- so many entries have slots, and these drain the bits
pub drained : (u : Used) → Typed u → (n : ℕ) (l : List ℕ) → n ≤ length l
    → drains u (take n l) ≡ (leb n (length l) && (once (take n l) && all (used_at u) (take n l)))
drained u y n l h = rw (le-leb n (length l) h) (drains_is u y (take n l))

-- what is left of the slots drains what is left of the bits
module _ (l : List ℕ) (i : ℕ) (u : Used) where
  pub drain_end : length l ≤ i → drains u (drop i l) ≡ true
  drain_end h = rw (drop_of_length-le l {i = i} h)

  module _ (h : i < length l) where
    pub drain_miss : used_at u (get_or l i 0) ≡ false → drains u (drop i l) ≡ false
    drain_miss t = rw (drop-cons l i 0, t)
