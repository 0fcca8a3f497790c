-- What is so of the view of lent words by their type: every word has 64 bits, and there are so many rows and words past them. A view of which this is
-- so is the view of words. Assumes nothing.
use Rattle.std.specs.Prelude.{ℕ, suc, ◌+◌, ◌-◌, ◌*◌, ◌/◌, ◌%◌, ◌^◌, ◌<◌, ◌≡◌, refl, Bool, true, ◌&&◌, List, [], ◌∷◌, ◌++◌, ltb, length, get_or}
use Rattle.std.proofs.Common.{sym, ap, ◌∙◌, arith, length-append, length-drop, lt-ltb, ltb-true, Fits}
use Rattle.std.specs.Int.{w64}
use Rattle.base.specs.Lists.{all}
use Rattle.base.specs.Laws.Tests.{and_l, and_r, and_i}
use Rattle.base.specs.Laws.Keep.{all_append, all_drop, all_imp, all_get_d_or}
use Rattle.settings.specs.Rows.{Line, words_of}
use Rattle.settings.specs.Table.{Tasks, view_of}
use Rattle.settings.specs.Laws.Lines.{eleven, length_words}
use Rattle.settings.specs.Laws.View.{words_in, view_rows, view_each, view_words, words_behind}

abbrev pub wide_word : ℕ → Bool
wide_word x = ltb x (2 ^ 64)

abbrev pub typed_row : Line → Bool
typed_row v = wide_word v.name && (eleven v && all wide_word v.cells)

pub record Typed (R P : ℕ) (t : Tasks) : Type 0 where
  pub counted : t.count < 2 ^ 64
  pub rows : length t.rows ≡ R
  pub each : all typed_row t.rows ≡ true
  pub past : length t.past ≡ P
  pub rest : all wide_word t.past ≡ true

-- of a lent slice, from `c.shared-slice-known.given` or `c.slice-known.given`
pub words_told : (w : List ℕ) → ((i : ℕ) → Fits w64 (get_or w i 0)) → all wide_word w ≡ true
words_told [] h = refl
words_told (x ∷ w) h = and_i (lt-ltb x (2 ^ 64) (h 0).fits) (words_told w (λ i. h (suc i)))

-- ---- the view of words

-- rows of eleven, of wide words
rows_typed : (l : List Line) → all eleven l ≡ true → all wide_word (words_of l) ≡ true → all typed_row l ≡ true
rows_typed [] h k = refl
rows_typed (v ∷ l) h k =
    let rest = and_r (wide_word v.name) (all wide_word (v.cells ++ words_of l)) k in
    let both = sym (all_append wide_word v.cells (words_of l)) ∙ rest in
    and_i
    (and_i (and_l (wide_word v.name) (all wide_word (v.cells ++ words_of l)) k)
    (and_i (and_l (eleven v) (all eleven l) h) (and_l (all wide_word v.cells) (all wide_word (words_of l)) both)))
    (rows_typed l (and_r (eleven v) (all eleven l) h) (and_r (all wide_word v.cells) (all wide_word (words_of l)) both))

pub view_typed : (w : List ℕ) → all wide_word w ≡ true → Typed ((length w - 1) / 12) ((length w - 1) % 12) (view_of w)
view_typed w h =
    let l = (view_of w).rows in
    let p = (view_of w).past in
    let b : all wide_word (words_of l ++ p) ≡ true = sym (ap (all wide_word) (words_behind w)) ∙ all_drop wide_word 1 w h in
    let both = sym (all_append wide_word (words_of l) p) ∙ b in
    let long : length p ≡ (length w - 1) % 12 = simp length-drop (omega arith) in
    record {
      counted = ltb-true (get_or w 0 0) (2 ^ 64) (all_get_d_or wide_word w 0 0 refl h);
      rows = view_rows w;
      each = rows_typed l (view_each w) (and_l (all wide_word (words_of l)) (all wide_word p) both);
      past = long;
      rest = and_r (all wide_word (words_of l)) (all wide_word p) both;
    }

-- ---- the words of a view

typed_eleven : (v : Line) → typed_row v ≡ true → eleven v ≡ true
typed_eleven v h =
    and_l (eleven v) (all wide_word v.cells) (and_r (wide_word v.name) (eleven v && all wide_word v.cells) h)

rows_wide : (l : List Line) → all typed_row l ≡ true → all wide_word (words_of l) ≡ true
rows_wide [] h = refl
rows_wide (v ∷ l) h =
    let row = and_l (typed_row v) (all typed_row l) h in
    let cells = and_r (eleven v) (all wide_word v.cells) (and_r (wide_word v.name) (eleven v && all wide_word v.cells) row) in
    and_i (and_l (wide_word v.name) (eleven v && all wide_word v.cells) row)
    (all_append wide_word v.cells (words_of l) ∙ and_i cells (rows_wide l (and_r (typed_row v) (all typed_row l) h)))

module _ (R P : ℕ) (t : Tasks) (y : Typed R P t) where
  pub typed_each : all eleven t.rows ≡ true
  typed_each = all_imp typed_row eleven typed_eleven t.rows y.each

  pub typed_words : all wide_word (words_in t) ≡ true
  typed_words = and_i (lt-ltb t.count (2 ^ 64) y.counted) (all_append wide_word (words_of t.rows) t.past ∙ and_i (rows_wide t.rows y.each) y.rest)

  pub typed_long : length (words_in t) ≡ 1 + R * 12 + P
  typed_long =
      let n = length_words t.rows typed_each in
      let r = y.rows in
      let p = y.past in
      simp length-append (omega arith)

  pub typed_view : P < 12 → view_of (words_in t) ≡ t
  typed_view h = view_words t (record { each = typed_each; few = omega (arith, y.past) })
