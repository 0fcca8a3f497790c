-- Bytes stored among bytes: they are read back, and a part that lies before or behind them is as it was. Assumes nothing.
use Rattle.std.specs.Prelude.{ℕ, ◌+◌, ◌-◌, ◌<◌, ◌≤◌, ◌≡◌, refl, ◌⊎◌, List, ◌++◌, leb, length, take, drop, get_or}
use Rattle.std.proofs.Common.{sym, ap, ◌∙◌, inl, inr, append_assoc, arith, length-take, length-drop, take_at, drop_at, ext_get_or, get_or-take, get_or-drop, get_or-append-add, length-take-le, leb-true, leb-false}
use Rattle.std.proofs.Math.ListN.{get_or-append}
use Rattle.std.proofs.Math.Seq.{paste, length_paste_head, take-length}
use Rattle.std.proofs.lemmas.List.Edits.{length-paste}
use Rattle.base.specs.Bytes.{stored}
use Rattle.base.specs.Laws.Tests.{by_test}
use Rattle.base.specs.Laws.Stored.{stored_fits, stored_not}

-- a part goes by its elements
part_ext : (n from : ℕ) (x y : List ℕ) → length x ≡ length y → ((i : ℕ) → from ≤ i → i < from + n → get_or x i 0 ≡ get_or y i 0)
    → take n (drop from x) ≡ take n (drop from y)
part_ext n from x y l h =
    ext_get_or 0 (take n (drop from x)) (take n (drop from y)) (simp (length-take, length-drop, l))
    (λ i b.
    let c : i < n = omega (arith, length-take n (drop from x), b) in
    get_or-take n (drop from x) i 0 c ∙ get_or-drop from x i 0 ∙ h (from + i) (omega arith) (omega arith)
    ∙ sym (get_or-take n (drop from y) i 0 c ∙ get_or-drop from y i 0))

module _ (d : List ℕ) (at : ℕ) (s : List ℕ) where
  -- where they fit, an element outside them is as it was
  module _ (fits : at + length s ≤ length d) where
    abbrev pasted : List ℕ
    pasted = paste d at s (length s)

    before : (i : ℕ) → i < at → get_or pasted i 0 ≡ get_or d i 0
    before i h =
        let b : i < length (take at d) = omega (arith, length-take-le at d (omega arith)) in
        ap (λ (l : List ℕ). get_or l i 0) (append_assoc (take at d) (take (length s) s) (drop (at + length s) d))
        ∙ get_or-append (take at d) (take (length s) s ++ drop (at + length s) d) 0 i b ∙ get_or-take at d i 0 h

    behind : (i : ℕ) → at + length s ≤ i → get_or pasted i 0 ≡ get_or d i 0
    behind i h =
        let n : ℕ = length s in
        let l : length (take at d ++ take (length s) s) ≡ at + length s = length_paste_head d at s n (omega arith) (omega arith) in
        let e : length (take at d ++ take (length s) s) + (i - (at + length s)) ≡ i = omega arith in
        let f : at + length s + (i - (at + length s)) ≡ i = omega arith in
        ap (λ (k : ℕ). get_or pasted k 0) (sym e)
        ∙ get_or-append-add (take at d ++ take n s) (drop (at + n) d) (i - (at + n)) 0
        ∙ get_or-drop (at + n) d (i - (at + n)) 0 ∙ ap (λ (k : ℕ). get_or d k 0) f

    pub stored_there : take (length s) (drop at (stored d at s)) ≡ s
    stored_there =
        let n : ℕ = length s in
        ap (λ (l : List ℕ). take n (drop at l)) (stored_fits d at s fits ∙ append_assoc (take at d) (take n s) (drop (at + n) d))
        ∙ ap (take n) (drop_at (take at d) (take n s ++ drop (at + n) d) at (length-take-le at d (omega arith)))
        ∙ ap (λ (l : List ℕ). take n (l ++ drop (at + n) d)) (take-length s)
        ∙ take_at s (drop (at + n) d) n refl

    pasted_apart : (from n : ℕ) → (from + n ≤ at) ⊎ (at + length s ≤ from) → take n (drop from pasted) ≡ take n (drop from d)
    pasted_apart from n (inl h) = part_ext n from pasted d (length-paste d at s (length s) fits (omega arith)) (λ i a b. before i (omega arith))
    pasted_apart from n (inr h) = part_ext n from pasted d (length-paste d at s (length s) fits (omega arith)) (λ i a b. behind i (omega arith))

  pub stored_apart : (from n : ℕ) → (from + n ≤ at) ⊎ (at + length s ≤ from) → take n (drop from (stored d at s)) ≡ take n (drop from d)
  stored_apart from n h =
      by_test (leb (at + length s) (length d))
      (λ e. let fits = leb-true (at + length s) (length d) e in rw (stored_fits d at s fits) (pasted_apart fits from n h))
      (λ e. rw (stored_not d at s (leb-false (at + length s) (length d) e)))
