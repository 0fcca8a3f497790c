-- A column of a list, gathered in a scan of its first n: what is gathered, and behind it what is left, is the column. Assumes nothing.
use Rattle.std.specs.Prelude.{ℕ, ◌+◌, ◌<◌, ◌≤◌, min, ◌≡◌, Bool, true, false, List, [], ◌∷◌, ◌++◌, map, length, take, drop, get_or, set}
use Rattle.std.proofs.Common.{sym, ap, ◌∙◌, append-nil, add-one, arith, take-suc, take-suc-set, length-take-le}
use Rattle.std.proofs.lemmas.List.{map-append, length-map}
use Rattle.std.proofs.Math.Seq.{append_snoc}
use Rattle.base.specs.Lists.{keep, over}
use Rattle.base.specs.Laws.Over.{over_set}
use Rattle.base.specs.Laws.Scans.{left_cons, left_end}

module _ {A B : Type 0} (f : A → B) (p : A → Bool) (n : ℕ) (l : List A) (col all : List B) (k : ℕ) where
  pub gather_end : (i : ℕ) → min n (length l) ≤ i → take k col ++ map f (keep p (drop i (take n l))) ≡ all → take k col ≡ all
  gather_end i h e = sym (append-nil (take k col)) ∙ (rw (left_end l n i h) at e)

  module _ (i : ℕ) (d : A) (hn : i < n) (hl : i < length l) (e : take k col ++ map f (keep p (drop i (take n l))) ≡ all) where
    pub gather_hit : p (get_or l i d) ≡ true → k < length col
        → take (k + 1) (set col k (f (get_or l i d))) ++ map f (keep p (drop (i + 1) (take n l))) ≡ all
    gather_hit t h =
        let r : take k col ++ (f (get_or l i d) ∷ map f (keep p (drop (i + 1) (take n l)))) ≡ all = rw (left_cons l n i d hn hl, t) at e in
        rw (add-one k, take-suc-set col k (f (get_or l i d)) h) (append_snoc (take k col) (f (get_or l i d)) (map f (keep p (drop (i + 1) (take n l)))) ∙ r)

    pub gather_miss : p (get_or l i d) ≡ false → take k col ++ map f (keep p (drop (i + 1) (take n l))) ≡ all
    gather_miss t = rw (left_cons l n i d hn hl, t) at e

-- a column of all, written over the front of another list: one more
pub column_more : {A B : Type 0} (f : A → B) (l : List A) (z : List B) (i : ℕ) (d : A) → i < length l → i < length z
    → set (over (map f (take i l)) z) i (f (get_or l i d)) ≡ over (map f (take (i + 1) l)) z
column_more f l z i d hl hz =
    let n : length (map f (take i l)) ≡ i = length-map (take i l) f ∙ length-take-le i l (omega arith) in
    let e : take (i + 1) l ≡ take i l ++ (get_or l i d ∷ []) = ap (λ (m : ℕ). take m l) (add-one i) ∙ take-suc l i d hl in
    ap (λ (m : ℕ). set (over (map f (take i l)) z) m (f (get_or l i d))) (sym n)
    ∙ over_set (map f (take i l)) z (f (get_or l i d)) (omega arith)
    ∙ rw (e, map-append f (take i l) (get_or l i d ∷ []))
