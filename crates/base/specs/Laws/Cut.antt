-- One less: what stands at an index goes, and those behind it move down, one a turn. Assumes nothing.
use Rattle.std.specs.Prelude.{ℕ, suc, ◌+◌, ◌<◌, ◌≤◌, ◌≡◌, List, [], ◌∷◌, ◌++◌, length, take, drop, get_or, set}
use Rattle.std.proofs.Common.{sym, ap, ◌∙◌, append_assoc, append-nil, add-one, arith, length-append, length-take, length-drop, drop_of_length-le, take-suc, take-take, length-take-le}
use Rattle.std.proofs.lemmas.List.{take-append-le, drop-append-le}
use Rattle.base.specs.Lists.{over, cut_at}
use Rattle.base.specs.Laws.Over.{over_self, over_read, over_set}

module _ {A : Type 0} (i : ℕ) where
  pub length_cut : (l : List A) → i < length l → length (cut_at i l) + 1 ≡ length l
  length_cut l h = simp (length-append, length-take, length-drop) (omega arith)

  cut_snoc : (l : List A) (x : A) → i < length l → cut_at i (l ++ (x ∷ [])) ≡ cut_at i l ++ (x ∷ [])
  cut_snoc l x h =
      rw (take-append-le i l (x ∷ []) (omega arith), drop-append-le (suc i) l (x ∷ []) (omega arith))
      (sym (append_assoc (take i l) (drop (suc i) l) (x ∷ [])))

  pub cut_none : (l : List A) → over (cut_at i (take (i + 1) l)) l ≡ l
  cut_none l =
      let z : drop (suc i) (take (i + 1) l) ≡ [] = drop_of_length-le (take (i + 1) l) {i = suc i} (simp length-take (omega arith)) in
      rw (z, take-take i (i + 1) l (omega arith), append-nil (take i l)) (over_self i l)

  pub cut_more : (k : ℕ) (l : List A) (d : A) → i ≤ k → k + 1 < length l
      → set (over (cut_at i (take (k + 1) l)) l) k (get_or (over (cut_at i (take (k + 1) l)) l) (k + 1) d) ≡ over (cut_at i (take (k + 1 + 1) l)) l
  cut_more k l d hi hk =
      let ks : List A = cut_at i (take (k + 1) l) in
      let v : A = get_or l (k + 1) d in
      let t : length (take (k + 1) l) ≡ k + 1 = length-take-le (k + 1) l (omega arith) in
      let n : length (cut_at i (take (k + 1) l)) ≡ k = let c = length_cut (take (k + 1) l) (omega arith) in omega arith in
      let e : take (k + 1 + 1) l ≡ take (k + 1) l ++ (get_or l (k + 1) d ∷ []) = ap (λ (m : ℕ). take m l) (add-one (k + 1)) ∙ take-suc l (k + 1) d hk in
      ap (λ (x : A). set (over ks l) k x) (over_read ks l (k + 1) d (omega arith))
      ∙ ap (λ (m : ℕ). set (over ks l) m v) (sym n)
      ∙ over_set ks l v (omega arith)
      ∙ ap (λ (r : List A). over r l) (sym (ap (cut_at i) e ∙ cut_snoc (take (k + 1) l) v (omega arith)))
