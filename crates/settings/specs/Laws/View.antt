-- The view of the words: how many rows there are places for, the words of a view, other words behind the count, another count, and all words 0.
-- Assumes nothing.
use Rattle.std.specs.Prelude.{ℕ, zero, suc, ◌+◌, ◌-◌, ◌*◌, ◌/◌, ◌<◌, ◌≤◌, ◌≡◌, refl, true, List, [], ◌∷◌, ◌++◌, length, take, drop, set, replicate}
use Rattle.std.proofs.Common.{sym, ap, ap₂, ◌∙◌, arith, length-append, length-drop}
use Rattle.std.proofs.lemmas.List.{length-replicate, replicate-append-replicate}
use Rattle.std.proofs.Math.Seq.{drop-length}
use Rattle.base.specs.Lists.{all}
use Rattle.base.specs.Laws.Keep.{all_replicate}
use Rattle.settings.specs.Rows.{Line, lines_of, rest_of, words_of, no_line}
use Rattle.settings.specs.Table.{Tasks, tasks, view_of, rows_in}
use Rattle.settings.specs.Fresh.{fresh_of}
use Rattle.settings.specs.Laws.Lines.{eleven, length_lines, lines_eleven, words_lines, length_words, lines_words, drop_words}

-- ---- the words of a view

abbrev pub words_in : Tasks → List ℕ
words_in t = t.count ∷ (words_of t.rows ++ t.past)

-- what is so of the view of any words
pub record Shaped (t : Tasks) : Type 0 where
  pub each : all eleven t.rows ≡ true
  pub few : length t.past < 12

module _ (w : List ℕ) where
  pub view_rows : rows_in (view_of w) ≡ (length w - 1) / 12
  view_rows = length_lines (length (drop 1 w) / 12) (drop 1 w) ∙ ap (λ (n : ℕ). n / 12) (length-drop 1 w)

  pub view_each : all eleven (view_of w).rows ≡ true
  view_each = lines_eleven (length (drop 1 w) / 12) (drop 1 w) (omega arith)

  pub view_shaped : Shaped (view_of w)
  view_shaped = record { each = view_each; few = simp length-drop (omega arith) }

  -- behind the count
  pub words_behind : drop 1 w ≡ words_of (view_of w).rows ++ (view_of w).past
  words_behind = sym (words_lines (length (drop 1 w) / 12) (drop 1 w) (omega arith))

-- put as it was read
pub words_view : (w : List ℕ) → 1 ≤ length w → words_in (view_of w) ≡ w
words_view [] h = absurd (omega arith)
words_view (x ∷ w) h = ap (λ (r : List ℕ). x ∷ r) (sym (words_behind (x ∷ w)))

-- read as it was put
pub view_words : (t : Tasks) → Shaped t → view_of (words_in t) ≡ t
view_words t s =
    let l = t.rows in
    let p = t.past in
    let n : length (words_of l ++ p) / 12 ≡ length l = omega (arith, length-append (words_of l) p, length_words l s.each, s.few) in
    let r : lines_of (words_of l ++ p) ≡ l = rw n (lines_words l p s.each) in
    let z : words_of (drop (length l) l) ++ p ≡ p = ap (λ (k : List Line). words_of k ++ p) (drop-length l) in
    let d : rest_of (words_of l ++ p) ≡ p = rw n (drop_words l p s.each (length l) (omega arith) ∙ z) in
    ap₂ (tasks t.count) r d

-- other words behind the count
pub view_put : (w r : List ℕ) (l : List Line) → 1 ≤ length w → r ≡ words_of l ++ (view_of w).past → all eleven l ≡ true
    → view_of (take 1 w ++ r) ≡ tasks (view_of w).count l (view_of w).past
view_put [] r l h e s = absurd (omega arith)
view_put (x ∷ w) r l h e s =
    let v = view_of (x ∷ w) in
    ap (λ (k : List ℕ). view_of (x ∷ k)) e ∙ view_words (tasks x l v.past) (record { each = s; few = (view_shaped (x ∷ w)).few })

-- another count
pub view_count : (w : List ℕ) (n : ℕ) → 1 ≤ length w → view_of (set w 0 n) ≡ tasks n (view_of w).rows (view_of w).past
view_count [] n h = absurd (omega arith)
view_count (x ∷ w) n h = refl

-- ---- all words 0

zero_words : (n : ℕ) → words_of (replicate n no_line) ≡ replicate (n * 12) 0
zero_words zero = refl
zero_words (suc n) =
    let e : 12 + n * 12 ≡ suc n * 12 = omega arith in
    ap (λ (r : List ℕ). replicate 12 0 ++ r) (zero_words n) ∙ replicate-append-replicate 12 (n * 12) 0 ∙ ap (λ (k : ℕ). replicate k 0) e

pub view_zero : (w : List ℕ) → view_of (replicate (length w) 0) ≡ fresh_of (view_of w)
unfolding fresh_of
view_zero [] = refl
view_zero (x ∷ w) =
    let R = rows_in (view_of (x ∷ w)) in
    let P = length (view_of (x ∷ w)).past in
    let n : R * 12 + P ≡ length w = omega (arith, view_rows (x ∷ w), length-drop (length w / 12 * 12) w) in
    let e : words_in (fresh_of (view_of (x ∷ w))) ≡ replicate (suc (length w)) 0 =
    ap (λ (r : List ℕ). 0 ∷ r)
    (ap (λ (r : List ℕ). r ++ replicate P 0) (zero_words R) ∙ replicate-append-replicate (R * 12) P 0 ∙ ap (λ (k : ℕ). replicate k 0) n) in
    ap view_of (sym e)
    ∙ view_words (fresh_of (view_of (x ∷ w)))
    (record { each = all_replicate eleven R no_line refl; few = omega (arith, length-replicate {A = ℕ} P 0, (view_shaped (x ∷ w)).few) })
