-- Loops that count an index, over rows of a width and over words that move down: what each has done at a turn. The code has the library's methods
-- now, so nothing cites these. Assumes nothing.
use Rattle.std.specs.Prelude.{ℕ, zero, suc, ◌+◌, ◌-◌, ◌<◌, ◌≤◌, min, ◌≡◌, refl, Bool, true, false, List, [], ◌∷◌, ◌++◌, leb, length, take, drop, get_or, set}
use Rattle.std.proofs.Common.{sym, ap, ap₂, ◌∙◌, arith, length-append, length-take, length-drop, drop_of_length-le, drop-cons, drop-drop, get_or-append-add, get_or-drop, take_all, leb-true, leb-false}
use Rattle.std.proofs.Math.Seq.{paste, paste-zero, paste-suc, length_paste_head}
use Rattle.base.specs.Lists.{first_at}
use Rattle.base.specs.Laws.Tests.{by_test}
use Rattle.words.specs.Rows.{column_from, column, shut}

-- ---- a scan, a row a turn; a gap past the end counts as far as the end

behind : (gap k : ℕ) (l : List ℕ) → column_from gap k l ≡ column gap (drop k l)
behind gap zero l = refl
behind gap (suc k) [] = refl
behind gap (suc k) (x ∷ l) = behind gap k l

skipped : (gap : ℕ) (l : List ℕ) (step at : ℕ) → step ≡ min gap (length l) + 1 → drop gap (drop (suc at) l) ≡ drop (at + step) l
skipped gap l step at e =
    by_test (leb gap (length l))
    (λ t.
    let f : suc at + gap ≡ at + step = omega (arith, leb-true gap (length l) t) in
    drop-drop gap (suc at) l ∙ ap (λ (k : ℕ). drop k l) f)
    (λ t.
    let h : length l < gap = leb-false gap (length l) t in
    drop-drop gap (suc at) l ∙ drop_of_length-le l {i = suc at + gap} (omega arith) ∙ sym (drop_of_length-le l {i = at + step} (omega arith)))

-- no name of the i rows before place `at` passes
pub record Scanned (gap : ℕ) (l : List ℕ) (p : ℕ → Bool) (step i at : ℕ) : Type 0 where
  pub wide : step ≡ min gap (length l) + 1
  pub here : i ≤ at
  pub first : first_at p (column gap l) ≡ i + first_at p (column gap (drop at l))

pub scan_start : (gap : ℕ) (l : List ℕ) (p : ℕ → Bool) (step : ℕ) → step ≡ min gap (length l) + 1 → Scanned gap l p step 0 0
scan_start gap l p step e = record { wide = e; here = omega arith; first = omega arith }

module _ {gap : ℕ} {l : List ℕ} {p : ℕ → Bool} {step i at : ℕ} (v : Scanned gap l p step i at) where
  pub scan_end : length l ≤ at → i ≡ first_at p (column gap l)
  scan_end h =
      let z : first_at p (column gap (drop at l)) ≡ 0 = rw (drop_of_length-le l {i = at} h) in
      let f = v.first in
      omega arith

  module _ (h : at < length l) where
    next : column gap (drop at l) ≡ get_or l at 0 ∷ column gap (drop (at + step) l)
    next =
        ap (column gap) (drop-cons l at 0 h)
        ∙ ap (λ (c : List ℕ). get_or l at 0 ∷ c) (behind gap gap (drop (suc at) l) ∙ ap (column gap) (skipped gap l step at v.wide))

    pub scan_hit : p (get_or l at 0) ≡ true → i ≡ first_at p (column gap l)
    scan_hit t =
        let z : first_at p (column gap (drop at l)) ≡ 0 = rw (next, t) in
        let f = v.first in
        omega arith

    pub scan_on : p (get_or l at 0) ≡ false → Scanned gap l p step (i + 1) (at + step)
    scan_on t =
        let z : first_at p (column gap (drop at l)) ≡ suc (first_at p (column gap (drop (at + step) l))) = rw (next, t) in
        let f = v.first in
        let w = v.wide in
        let b = v.here in
        record { wide = w; here = omega arith; first = omega arith }

-- ---- words that move down

module _ (at n : ℕ) (l : List ℕ) where
  abbrev others : List ℕ
  others = take at l ++ drop (at + n) l

  length_others : length others ≤ length l
  length_others = simp (length-append, length-take, length-drop) (omega arith)

  abbrev pub moved : ℕ → List ℕ
  moved i = paste l at (drop (at + n) l) (i - at)

  pub moved_none : l ≡ moved at
  moved_none = let z : at - at ≡ 0 = omega arith in paste-zero l at (drop (at + n) l) ∙ ap (paste l at (drop (at + n) l)) (sym z)

  module _ (i : ℕ) (a : at ≤ i) where
    -- what is to move is as it was
    unmoved : i + n < length l → get_or (moved i) (i + n) 0 ≡ get_or (drop (at + n) l) (i - at) 0
    unmoved h =
        let m = length-drop (at + n) l in
        let e : length (take at l ++ take (i - at) (drop (at + n) l)) ≡ at + (i - at) =
        length_paste_head l at (drop (at + n) l) (i - at) (omega arith) (omega arith) in
        let f : i + n ≡ length (take at l ++ take (i - at) (drop (at + n) l)) + n = omega arith in
        let g : at + (i - at) + n ≡ at + n + (i - at) = omega arith in
        ap (λ (k : ℕ). get_or (moved i) k 0) f
        ∙ get_or-append-add (take at l ++ take (i - at) (drop (at + n) l)) (drop (at + (i - at)) l) n 0
        ∙ get_or-drop (at + (i - at)) l n 0 ∙ ap (λ (k : ℕ). get_or l k 0) g ∙ sym (get_or-drop (at + n) l (i - at) 0)

    pub moved_more : i + n < length l → set (moved i) i (get_or (moved i) (i + n) 0) ≡ moved (i + 1)
    moved_more h =
        let m = length-drop (at + n) l in
        let e : at + (i - at) ≡ i = omega arith in
        let f : suc (i - at) ≡ i + 1 - at = omega arith in
        ap (λ (v : ℕ). set (moved i) i v) (unmoved h)
        ∙ ap (λ (k : ℕ). set (moved i) k (get_or (drop (at + n) l) (i - at) 0)) (sym e)
        ∙ paste-suc l at (drop (at + n) l) (i - at) 0 (omega arith) (omega arith)
        ∙ ap (paste l at (drop (at + n) l)) f

    pub moved_all : length l ≤ i + n → i ≤ at + (length l - n - at) → moved i ≡ shut at n l
    moved_all h b =
        let m = length-drop (at + n) l in
        let e : at + (i - at) ≡ i = omega arith in
        let k = length_others in
        let t : take (i - at) (drop (at + n) l) ≡ drop (at + n) l = take_all (i - at) (drop (at + n) l) (omega arith) in
        let d : drop i l ≡ drop (length others) l =
        by_test (leb i (length l))
        (λ y.
        let z = leb-true i (length l) y in
        let f : i ≡ length others = simp (length-append, length-take, length-drop) (omega arith) in
        ap (λ (j : ℕ). drop j l) f)
        (λ y.
        let z = leb-false i (length l) y in
        let f : length l ≤ length others = simp (length-append, length-take, length-drop) (omega arith) in
        drop_of_length-le l {i = i} (omega arith) ∙ sym (drop_of_length-le l {i = length others} f)) in
        ap₂ (λ (x : List ℕ) (j : ℕ). take at l ++ x ++ drop j l) t e ∙ ap (λ (x : List ℕ). others ++ x) d
