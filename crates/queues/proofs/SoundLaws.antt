-- The loops of the soundness check: the slots that drain the marked bits, and the pointers row by row. Assumes nothing.
use mathlib.Core.Path.{◌≡◌, refl, sym, ap, ◌∙◌}
use mathlib.Core.Bool.{Bool, true, false, not, ◌&&◌}
use mathlib.Core.List.{List, [], ◌∷◌}
use Prim.Native.Nat.{ℕ, ◌+◌, ◌<◌, ◌≤◌}
use Rattle.std.proofs.Common.{add-one, ap₂, drop_of_length-le, drop-cons}
use lib.Dec.{eqb, leb, ltb}
use lib.ListN.{length, drop, get_or}
use borrow.Author.Tests.{eqb-true, lt-ltb}
use Rattle.base.specs.Lists.{all, has, once, within}
use Rattle.base.specs.Bytes.{blank}
use Rattle.base.specs.Laws.Tests.{and_none, by_test}
use Rattle.base.specs.Laws.Keep.{all_none, all_same}
use Rattle.slots.specs.declared.Used.{Used}
use Rattle.slots.specs.Bits.{bit, number, used_at, cleared}
use Rattle.slots.specs.Told.{Typed}
use Rattle.slots.proofs.Laws.Slots.{used_bit, bit_slot, cleared_bit, cleared_typed}
use Rattle.queues.specs.declared.Queues.{Queues}
use Rattle.queues.specs.Table.{names_of, pointers_of, owners, places}
use Rattle.queues.specs.Sound.{pointed, length_in, sound_q}

-- ---- tests

all_and : (p q : ℕ → Bool) (l : List ℕ) → all (λ x. p x && q x) l ≡ (all p l && all q l)
all_and p q [] = refl
all_and p q (x ∷ l) =
    by_test (p x) (λ e. by_test (q x) (λ f. rw (e, f, all_and p q l)) (λ f. rw (e, f) (and_none (all p l)))) (λ e. rw e)

and_assoc : (a b c : Bool) → (a && (b && c)) ≡ (a && b && c)
and_assoc true b c = refl
and_assoc false b c = refl

and_move : (a b c : Bool) → (a && (b && c)) ≡ (b && a && c)
and_move true true c = refl
and_move true false c = refl
and_move false true c = refl
and_move false false c = refl

-- ---- no slot twice and each marked: each one's bit is set, and is cleared

abbrev pub drains : Used → List ℕ → Bool
drains u [] = true
drains u (s ∷ ss) = used_at u s && drains (cleared u s) ss

module _ (u : Used) (y : Typed u) (s : ℕ) (m : used_at u s ≡ true) where
  slot_lt : ltb s 128 ≡ true
  slot_lt = lt-ltb s 128 (bit_slot u y s (eqb-true (bit (number u) s) 1 (sym (used_bit u y s) ∙ m)))

  -- the others are marked as before
  others_marked : (t : ℕ) → used_at (cleared u s) t ≡ (not (eqb t s) && used_at u t)
  others_marked t =
      used_bit (cleared u s) (cleared_typed u y s) t
      ∙ ap (λ (x : ℕ). eqb x 1) (cleared_bit u y s t)
      ∙ by_test (eqb t s) (λ e. rw (e, slot_lt)) (λ e. rw (e, used_bit u y t))

  rest_marked : (ss : List ℕ) → all (used_at (cleared u s)) ss ≡ (not (has s ss) && all (used_at u) ss)
  rest_marked ss =
      all_same (used_at (cleared u s)) (λ t. not (eqb t s) && used_at u t) others_marked ss
      ∙ all_and (λ t. not (eqb t s)) (used_at u) ss
      ∙ ap (λ (b : Bool). b && all (used_at u) ss) (all_none (λ t. eqb t s) ss)

pub drains_is : (u : Used) → Typed u → (ss : List ℕ) → drains u ss ≡ (once ss && all (used_at u) ss)
drains_is u y [] = refl
drains_is u y (s ∷ ss) =
    by_test (used_at u s)
    (λ e.
    rw (e, drains_is (cleared u s) (cleared_typed u y s) ss, rest_marked u y s e ss)
    (and_move (once ss) (not (has s ss)) (all (used_at u) ss)))
    (λ e. rw e (and_none (not (has s ss) && once ss)))

-- what is left of the slots drains what is left of the bits
module _ (l : List ℕ) (i s : ℕ) (u : Used) where
  pub drain_end : length l ≤ i → drains u (drop i l) ≡ true
  drain_end h = let e : drop i l ≡ [] = drop_of_length-le l h in rw e

  module _ (h : i < length l) (is : s ≡ get_or l i 0) where
    opened : drop i l ≡ s ∷ drop (i + 1) l
    opened = drop-cons l i 0 h ∙ ap₂ (λ (x j : ℕ). x ∷ drop j l) (sym is) (sym (add-one i))

    pub drain_hit : used_at u s ≡ true → drains (cleared u s) (drop (i + 1) l) ≡ drains u (drop i l)
    drain_hit t = rw (opened, t)

    pub drain_miss : used_at u s ≡ false → drains u (drop i l) ≡ false
    drain_miss t = rw (opened, t)

-- ---- the whole: each part is asked where the parts before it hold

module _ (a b r x : Bool) (is : x ≡ a) where
  pub and_then : x ≡ true → r ≡ b → r ≡ (a && b)
  and_then h e = rw (sym is ∙ h) e

  pub and_else : x ≡ false → r ≡ x → r ≡ (a && b)
  and_else h e = rw (sym is ∙ h) (e ∙ h)

module _ (q : Queues) where
  abbrev pub part1 : Bool
  part1 = leb q.count 16 && once (names_of q) && not (has (blank 8) (names_of q))

  abbrev pub part2 : Bool
  part2 = part1 && within (owners q) (names_of q)

  abbrev pub part3 : Bool
  part3 = part2 && pointed (owners q) (names_of q) (pointers_of q)

  abbrev pub part4 : Bool
  part4 = part3 && (once (places q) && all (used_at q.used) (places q))

  pub whole : (part4 && all (length_in q) (places q)) ≡ sound_q q
  unfolding sound_q
  whole = ap (λ (x : Bool). x && all (length_in q) (places q)) (and_assoc part3 (once (places q)) (all (used_at q.used) (places q)))
