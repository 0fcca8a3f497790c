-- Words and rows of twelve: words read as rows and written back are as they were, and rows written and read; where a row begins; and the name of each.
-- Assumes nothing.
use Rattle.std.specs.Prelude.{ℕ, zero, suc, ◌+◌, ◌*◌, ◌≤◌, ◌≡◌, refl, Bool, true, List, [], ◌∷◌, ◌++◌, map, eqb, length, take, drop, get_or}
use Rattle.std.proofs.Common.{sym, ap, ◌∙◌, append_assoc, arith, length-append, length-drop, take-append-drop, take_at, drop_at, length-take-le, drop-drop, eqb-true, eq-eqb}
use Rattle.base.specs.Lists.{all, cut_at}
use Rattle.base.specs.Laws.Tests.{and_l, and_r, and_i}
use Rattle.base.specs.Laws.Keep.{all_append, all_take, all_drop}
use Rattle.words.specs.Rows.{column}
use Rattle.words.specs.Laws.Column.{column_row}
use Rattle.settings.specs.Rows.{Line, name_of, lines, words_of}

-- what all pass all but one pass
pub all_cut : {A : Type 0} (p : A → Bool) (i : ℕ) (l : List A) → all p l ≡ true → all p (cut_at i l) ≡ true
all_cut p i l h = all_append p (take i l) (drop (suc i) l) ∙ and_i (all_take p i l h) (all_drop p (suc i) l h)

abbrev pub eleven : Line → Bool
eleven v = eqb (length v.cells) 11

-- ---- words read as rows

pub length_lines : (n : ℕ) (w : List ℕ) → length (lines n w) ≡ n
length_lines zero w = refl
length_lines (suc n) w = ap suc (length_lines n (drop 12 w))

pub lines_eleven : (n : ℕ) (w : List ℕ) → n * 12 ≤ length w → all eleven (lines n w) ≡ true
lines_eleven zero w h = refl
lines_eleven (suc n) w h =
    and_i (eq-eqb (length (take 11 (drop 1 w))) 11 (length-take-le 11 (drop 1 w) (simp length-drop (omega arith))))
    (lines_eleven n (drop 12 w) (simp length-drop (omega arith)))

-- the first row, and what is behind it
first_row : (w : List ℕ) → 12 ≤ length w → get_or w 0 0 ∷ (take 11 (drop 1 w) ++ drop 12 w) ≡ w
first_row [] h = absurd (omega arith)
first_row (x ∷ w) h = ap (λ (r : List ℕ). x ∷ r) (take-append-drop 11 w)

pub words_lines : (n : ℕ) (w : List ℕ) → n * 12 ≤ length w → words_of (lines n w) ++ drop (n * 12) w ≡ w
words_lines zero w h = refl
words_lines (suc n) w h =
    let e : suc n * 12 ≡ 12 + n * 12 = omega arith in
    let f : drop (suc n * 12) w ≡ drop (n * 12) (drop 12 w) = ap (λ (k : ℕ). drop k w) e ∙ sym (drop-drop (n * 12) 12 w) in
    ap (λ (r : List ℕ). get_or w 0 0 ∷ r)
    (append_assoc (take 11 (drop 1 w)) (words_of (lines n (drop 12 w))) (drop (suc n * 12) w)
    ∙ ap (λ (r : List ℕ). take 11 (drop 1 w) ++ r)
    (ap (λ (r : List ℕ). words_of (lines n (drop 12 w)) ++ r) f ∙ words_lines n (drop 12 w) (simp length-drop (omega arith))))
    ∙ first_row w (omega arith)

-- ---- rows written as words

pub words_append : (a b : List Line) → words_of (a ++ b) ≡ words_of a ++ words_of b
words_append [] b = refl
words_append (v ∷ a) b =
    ap (λ (r : List ℕ). v.name ∷ r)
    (ap (λ (r : List ℕ). v.cells ++ r) (words_append a b) ∙ sym (append_assoc v.cells (words_of a) (words_of b)))

-- a row's eleven, and those of the rows behind it
cells_long : (v : Line) (l : List Line) → all eleven (v ∷ l) ≡ true → length v.cells ≡ 11
cells_long v l h = eqb-true (length v.cells) 11 (and_l (eleven v) (all eleven l) h)

pub length_words : (l : List Line) → all eleven l ≡ true → length (words_of l) ≡ length l * 12
length_words [] h = refl
length_words (v ∷ l) h =
    let e = length_words l (and_r (eleven v) (all eleven l) h) in
    let c = cells_long v l h in
    simp length-append (omega arith)

pub lines_words : (l : List Line) (p : List ℕ) → all eleven l ≡ true → lines (length l) (words_of l ++ p) ≡ l
lines_words [] p h = refl
lines_words (v ∷ l) p h =
    let c = cells_long v l h in
    let e : v.cells ++ words_of l ++ p ≡ v.cells ++ (words_of l ++ p) = append_assoc v.cells (words_of l) p in
    rw (e, take_at v.cells (words_of l ++ p) 11 c, drop_at v.cells (words_of l ++ p) 11 c)
    (ap (λ (r : List Line). v ∷ r) (lines_words l p (and_r (eleven v) (all eleven l) h)))

-- the name of each
pub words_names : (l : List Line) → all eleven l ≡ true → column 11 (words_of l) ≡ map name_of l
words_names [] h = refl
words_names (v ∷ l) h =
    column_row 11 v.name v.cells (words_of l) (cells_long v l h)
    ∙ ap (λ (r : List ℕ). v.name ∷ r) (words_names l (and_r (eleven v) (all eleven l) h))

-- ---- where a row begins: the first k rows, and those behind them

module _ (l : List Line) (p : List ℕ) (h : all eleven l ≡ true) (k : ℕ) (b : k ≤ length l) where
  parted : words_of l ++ p ≡ words_of (take k l) ++ (words_of (drop k l) ++ p)
  parted =
      ap (λ (r : List ℕ). r ++ p) (ap words_of (sym (take-append-drop k l)) ∙ words_append (take k l) (drop k l))
      ∙ append_assoc (words_of (take k l)) (words_of (drop k l)) p

  front_long : length (words_of (take k l)) ≡ k * 12
  front_long = length_words (take k l) (all_take eleven k l h) ∙ ap (λ (n : ℕ). n * 12) (length-take-le k l b)

  pub take_words : take (k * 12) (words_of l ++ p) ≡ words_of (take k l)
  take_words = ap (take (k * 12)) parted ∙ take_at (words_of (take k l)) (words_of (drop k l) ++ p) (k * 12) front_long

  pub drop_words : drop (k * 12) (words_of l ++ p) ≡ words_of (drop k l) ++ p
  drop_words = ap (drop (k * 12)) parted ∙ drop_at (words_of (take k l)) (words_of (drop k l) ++ p) (k * 12) front_long
