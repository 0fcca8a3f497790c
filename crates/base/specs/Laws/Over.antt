-- What is written over the front of a list: its length, what is read in it, and one more. Assumes nothing.
use Rattle.std.specs.Prelude.{◌≡◌, refl, Bool, true, List, [], ◌∷◌, ◌++◌, ℕ, zero, suc, ◌+◌, ◌-◌, ◌<◌, ◌≤◌, length, take, drop, get_or, set}
use Rattle.std.proofs.Common.{sym, ap, ◌∙◌, add-one, arith, length-append, length-drop, drop-cons, get_or-append-add, get_or-drop, take-suc, length-take-le}
use Rattle.std.proofs.Math.ListN.{get_or-append}
use Rattle.std.proofs.Math.Seq.{set-append_seam, take-append_seam, drop-append_seam, append_snoc}
use Rattle.base.specs.Lists.{all, over}
use Rattle.base.specs.Laws.Tests.{and_i}
use Rattle.base.specs.Laws.Keep.{all_append, all_drop}

module _ {A : Type 0} where
  pub length_over : (ks l : List A) → length ks ≤ length l → length (over ks l) ≡ length l
  length_over ks l h = simp (length-append, length-drop) (omega arith)

  pub take_over : (ks l : List A) → take (length ks) (over ks l) ≡ ks
  take_over ks l = take-append_seam ks (drop (length ks) l)

  pub drop_over : (ks l : List A) → drop (length ks) (over ks l) ≡ drop (length ks) l
  drop_over ks l = drop-append_seam ks (drop (length ks) l)

  -- past it all is as it was; in it is what was written
  pub over_read : (ks l : List A) (i : ℕ) (d : A) → length ks ≤ i → get_or (over ks l) i d ≡ get_or l i d
  over_read ks l i d h =
      let e : length ks + (i - length ks) ≡ i = omega arith in
      ap (λ (m : ℕ). get_or (over ks l) m d) (sym e) ∙ get_or-append-add ks (drop (length ks) l) (i - length ks) d
      ∙ get_or-drop (length ks) l (i - length ks) d ∙ ap (λ (m : ℕ). get_or l m d) e

  pub over_front : (ks l : List A) (i : ℕ) (d : A) → i < length ks → get_or (over ks l) i d ≡ get_or ks i d
  over_front ks l i d h = get_or-append ks (drop (length ks) l) d i h

  -- one more is written
  pub over_snoc : (ks l : List A) (v : A) → over (ks ++ (v ∷ [])) l ≡ ks ++ (v ∷ drop (suc (length ks)) l)
  over_snoc ks l v = rw (length-append ks (v ∷ []), add-one (length ks)) (append_snoc ks v (drop (suc (length ks)) l))

  pub over_set : (ks l : List A) (v : A) → length ks < length l → set (over ks l) (length ks) v ≡ over (ks ++ (v ∷ [])) l
  over_set ks l v h =
      ap (λ (x : List A). set (ks ++ x) (length ks) v) (drop-cons l (length ks) v h)
      ∙ set-append_seam ks (get_or l (length ks) v) (drop (suc (length ks)) l) v
      ∙ sym (over_snoc ks l v)

  -- its own front is written
  pub over_self : (n : ℕ) (l : List A) → over (take n l) l ≡ l
  over_self zero l = refl
  over_self (suc n) [] = refl
  over_self (suc n) (x ∷ l) = ap (λ (r : List A). x ∷ r) (over_self n l)

-- a copy to the front, one element a turn
pub over_take : {A : Type 0} (s l : List A) (i : ℕ) (d : A) → i < length s → i < length l
    → set (over (take i s) l) i (get_or s i d) ≡ over (take (i + 1) s) l
over_take s l i d hs hl =
    let n : length (take i s) ≡ i = length-take-le i s (omega arith) in
    ap (λ (m : ℕ). set (over (take i s) l) m (get_or s i d)) (sym n)
    ∙ over_set (take i s) l (get_or s i d) (omega arith)
    ∙ ap (λ r. over r l) (sym (ap (λ (m : ℕ). take m s) (add-one i) ∙ take-suc s i d hs))

-- what is put behind the first k
pub over_put : {A : Type 0} (k : ℕ) (l : List A) (x : A) → k < length l → set l k x ≡ over (take k l ++ (x ∷ [])) l
over_put k l x h =
    let n : length (take k l) ≡ k = length-take-le k l (omega arith) in
    ap (λ r. set r k x) (sym (over_self k l)) ∙ ap (λ (m : ℕ). set (over (take k l) l) m x) (sym n) ∙ over_set (take k l) l x (omega arith)

pub all_over : {A : Type 0} (p : A → Bool) (ks l : List A) → all p ks ≡ true → all p l ≡ true → all p (over ks l) ≡ true
all_over p ks l h e = all_append p ks (drop (length ks) l) ∙ and_i h (all_drop p (length ks) l e)
