-- Where rows stand in the words: the first n, which a function is lent, row i with its name and its settings; and what the view is when they come back,
-- or after a store. Assumes nothing.
use Rattle.std.specs.Prelude.{ℕ, suc, ◌+◌, ◌-◌, ◌*◌, ◌<◌, ◌≤◌, ◌≡◌, refl, true, List, [], ◌∷◌, ◌++◌, map, length, take, drop, get_or, set}
use Rattle.std.proofs.Common.{sym, ap, ap₂, ◌∙◌, append_assoc, append-nil, arith, length-append, length-take, length-set, take-append-drop, take_at, drop_at, drop-cons, drop-drop, get_or-drop, take-add, length-take-le, eqb-true, eq-eqb}
use Rattle.std.proofs.Math.ListN.{get_or-append}
use Rattle.std.proofs.lemmas.List.{set_split, drop-append-le}
use borrow.Rule.Slice.PartMut.{mid_of, put_mid, set_mid_at}
use Rattle.base.specs.Lists.{all, over, cut_at}
use Rattle.base.specs.Laws.Tests.{and_i}
use Rattle.base.specs.Laws.Keep.{all_take, all_drop, all_append, all_get_d, all_set}
use Rattle.base.specs.Laws.Over.{all_over}
use Rattle.base.specs.Laws.Cut.{length_cut}
use Rattle.words.specs.Rows.{column, shut}
use Rattle.settings.specs.Rows.{Line, name_of, words_of, no_line, with_word}
use Rattle.settings.specs.Table.{Tasks, tasks, view_of, rows_in, with_row}
use Rattle.settings.specs.Names.{name_at}
use Rattle.settings.specs.Laws.Lines.{all_cut, eleven, words_append, length_words, words_names, take_words, drop_words}
use Rattle.settings.specs.Laws.View.{view_rows, view_each, words_behind, view_put, view_count}

-- ---- the first n rows, which a function is lent

module _ (w : List ℕ) (n : ℕ) (b : n ≤ rows_in (view_of w)) where
  pub rows_fit : n * 12 ≤ length w - 1
  rows_fit = let e = view_rows w in omega arith

  module _ (k : ℕ) (e : k ≡ n * 12) where
    pub rows_lent : mid_of 1 k w ≡ words_of (take n (view_of w).rows)
    rows_lent = ap₂ take e (words_behind w) ∙ take_words (view_of w).rows (view_of w).past (view_each w) n b

    pub names_lent : column 11 (mid_of 1 k w) ≡ map name_of (take n (view_of w).rows)
    names_lent = ap (column 11) rows_lent ∙ words_names (take n (view_of w).rows) (all_take eleven n (view_of w).rows (view_each w))

    rows_behind : drop k (drop 1 w) ≡ words_of (drop n (view_of w).rows) ++ (view_of w).past
    rows_behind = ap₂ drop e (words_behind w) ∙ drop_words (view_of w).rows (view_of w).past (view_each w) n b

    -- other rows come back, as many
    pub rows_back : (l : List Line) → 1 ≤ length w → all eleven l ≡ true
        → view_of (put_mid 1 k w (words_of l)) ≡ tasks (view_of w).count (l ++ drop n (view_of w).rows) (view_of w).past
    rows_back l h s =
        let d = drop n (view_of w).rows in
        let p = (view_of w).past in
        view_put w (words_of l ++ drop k (drop 1 w)) (l ++ d) h
        (ap (λ (r : List ℕ). words_of l ++ r) rows_behind ∙ sym (append_assoc (words_of l) (words_of d) p) ∙ ap (λ (r : List ℕ). r ++ p) (sym (words_append l d)))
        (all_append eleven l d ∙ and_i s (all_drop eleven n (view_of w).rows (view_each w)))

-- ---- row i

module _ (w : List ℕ) (i : ℕ) (b : i < rows_in (view_of w)) where
  abbrev row : Line
  row = get_or (view_of w).rows i no_line

  pub row_fits : (i + 1) * 12 ≤ length w - 1
  row_fits = rows_fit w (i + 1) (omega arith)

  pub row_long : length row.cells ≡ 11
  row_long = eqb-true (length row.cells) 11 (all_get_d eleven (view_of w).rows i no_line (view_each w) b)

  -- where it begins
  pub row_at_lem : drop (i * 12 + 1) w ≡ row.name ∷ (row.cells ++ (words_of (drop (suc i) (view_of w).rows) ++ (view_of w).past))
  row_at_lem =
      let e : i * 12 + 1 ≡ 1 + i * 12 = omega arith in
      let p = (view_of w).past in
      ap (λ (k : ℕ). drop k w) e ∙ sym (drop-drop (i * 12) 1 w) ∙ ap (drop (i * 12)) (words_behind w)
      ∙ drop_words (view_of w).rows p (view_each w) i (omega arith)
      ∙ ap (λ (l : List Line). words_of l ++ p) (drop-cons (view_of w).rows i no_line b)
      ∙ ap (λ (r : List ℕ). row.name ∷ r) (append_assoc row.cells (words_of (drop (suc i) (view_of w).rows)) p)

  pub name_read : get_or w (i * 12 + 1) 0 ≡ name_at (view_of w) i
  name_read =
      let e : i * 12 + 1 ≡ i * 12 + 1 + 0 = omega arith in
      ap (λ (k : ℕ). get_or w k 0) e ∙ sym (get_or-drop (i * 12 + 1) w 0 0) ∙ ap (λ (r : List ℕ). get_or r 0 0) row_at_lem

  module _ (c : ℕ) (s : c ≤ 10) where
    at_cell : i * 12 + 2 + c ≡ i * 12 + 1 + suc c
    at_cell = omega arith

    pub cell_fits : i * 12 + 2 + c < length w
    cell_fits = let h = row_fits in omega arith

    pub cell_read : get_or w (i * 12 + 2 + c) 0 ≡ get_or row.cells c 0
    cell_read =
        ap (λ (k : ℕ). get_or w k 0) at_cell ∙ sym (get_or-drop (i * 12 + 1) w (suc c) 0) ∙ ap (λ (r : List ℕ). get_or r (suc c) 0) row_at_lem
        ∙ get_or-append row.cells _ 0 c (omega (arith, row_long))

  -- another row comes back
  module _ (a k : ℕ) (e : a ≡ i * 12 + 1) (f : k ≡ 12) where
    before_row : take a w ≡ take 1 w ++ words_of (take i (view_of w).rows)
    before_row =
        let g : a ≡ 1 + i * 12 = omega arith in
        ap (λ (m : ℕ). take m w) g ∙ take-add 1 (i * 12) w
        ∙ ap (λ (r : List ℕ). take 1 w ++ r)
        (ap (take (i * 12)) (words_behind w) ∙ take_words (view_of w).rows (view_of w).past (view_each w) i (omega arith))

    behind_row : drop k (drop a w) ≡ words_of (drop (suc i) (view_of w).rows) ++ (view_of w).past
    behind_row = ap₂ drop f (ap (λ (m : ℕ). drop m w) e ∙ row_at_lem) ∙ drop_at row.cells _ 11 row_long

    pub row_lent : mid_of a k w ≡ row.name ∷ row.cells
    row_lent = ap₂ take f (ap (λ (m : ℕ). drop m w) e ∙ row_at_lem) ∙ ap (λ (r : List ℕ). row.name ∷ r) (take_at row.cells _ 11 row_long)

    pub back_some : (ys : List ℕ) → 1 ≤ length (put_mid a k w ys)
    back_some ys = let h = row_fits in simp (length-append, length-take) (omega arith)

    pub row_back : (v : Line) → eleven v ≡ true → view_of (put_mid a k w (v.name ∷ v.cells)) ≡ with_row (view_of w) i v
    row_back v s =
        let l = (view_of w).rows in
        let p = (view_of w).past in
        let ys : List ℕ = v.name ∷ v.cells in
        let front : List ℕ = words_of (take i l) in
        let back : List ℕ = words_of (drop (suc i) l) in
        let whole : words_of (set l i v) ≡ front ++ (ys ++ back) = ap words_of (set_split l i v b) ∙ words_append (take i l) (v ∷ drop (suc i) l) in
        let r : front ++ (ys ++ (back ++ p)) ≡ words_of (set l i v) ++ p = rw whole (simp append_assoc) in
        ap₂ (λ (x y : List ℕ). view_of (x ++ (ys ++ y))) before_row behind_row
        ∙ ap view_of (append_assoc (take 1 w) front (ys ++ (back ++ p)))
        ∙ view_put w (front ++ (ys ++ (back ++ p))) (set l i v) (let h = row_fits in omega arith) r (all_set eleven l i v (view_each w) s)

    -- and a count is stored
    pub row_counted : (v : Line) (ys : List ℕ) (m : ℕ) → eleven v ≡ true → ys ≡ v.name ∷ v.cells
        → view_of (set (put_mid a k w ys) 0 m) ≡ tasks m (set (view_of w).rows i v) (view_of w).past
    row_counted v ys m s g =
        view_count (put_mid a k w ys) m (back_some ys)
        ∙ ap (λ (t : Tasks). tasks m t.rows t.past) (ap (λ (r : List ℕ). view_of (put_mid a k w r)) g ∙ row_back v s)

  -- a word is stored in it
  pub cell_put : (c x : ℕ) → c ≤ 10 → view_of (set w (i * 12 + 2 + c) x) ≡ with_row (view_of w) i (with_word c x row)
  cell_put c x s =
      let a = i * 12 + 1 in
      let m : mid_of a 12 w ≡ row.name ∷ row.cells = row_lent a 12 refl refl in
      let long : suc c < length (mid_of a 12 w) = rw m (omega (arith, row_long)) in
      let v : Line = with_word c x row in
      let e : eleven v ≡ true = eq-eqb (length v.cells) 11 (length-set row.cells c x ∙ row_long) in
      ap (λ (k : ℕ). view_of (set w k x)) (at_cell c s)
      ∙ ap view_of (sym (set_mid_at a 12 (suc c) w x long) ∙ ap (λ (r : List ℕ). put_mid a 12 w (set r (suc c) x)) m)
      ∙ row_back a 12 refl refl v e

-- ---- a row less among the first n

module _ (l : List Line) (h : all eleven l ≡ true) (i : ℕ) (b : i < length l) where
  pub shut_words : shut (i * 12) 12 (words_of l) ≡ words_of (over (cut_at i l) l)
  shut_words =
      let ks = cut_at i l in
      let e : i * 12 + 12 ≡ suc i * 12 = omega arith in
      let whole : words_of l ++ [] ≡ words_of l = append-nil (words_of l) in
      let t : take (i * 12) (words_of l) ≡ words_of (take i l) = ap (take (i * 12)) (sym whole) ∙ take_words l [] h i (omega arith) in
      let d : drop (i * 12 + 12) (words_of l) ≡ words_of (drop (suc i) l) =
      ap₂ drop e (sym whole) ∙ drop_words l [] h (suc i) (omega arith) ∙ append-nil (words_of (drop (suc i) l)) in
      let k : take (i * 12) (words_of l) ++ drop (i * 12 + 12) (words_of l) ≡ words_of ks =
      ap₂ (λ (x y : List ℕ). x ++ y) t d ∙ sym (words_append (take i l) (drop (suc i) l)) in
      let s : all eleven ks ≡ true = all_cut eleven i l h in
      let r : drop (length (words_of ks)) (words_of l) ≡ words_of (drop (length ks) l) =
      ap₂ drop (length_words ks s) (sym whole) ∙ drop_words l [] h (length ks) (omega (arith, length_cut i l b)) ∙ append-nil (words_of (drop (length ks) l)) in
      ap (λ (x : List ℕ). over x (words_of l)) k ∙ ap (λ (x : List ℕ). words_of ks ++ x) r ∙ sym (words_append ks (drop (length ks) l))

-- the first of a list without one of them, and those behind them
over_whole : (l : List Line) (n i : ℕ) → i < length (take n l) → over (cut_at i (take n l)) (take n l) ++ drop n l ≡ over (cut_at i (take n l)) l
over_whole l n i h =
    let ks = cut_at i (take n l) in
    append_assoc ks (drop (length ks) (take n l)) (drop n l)
    ∙ ap (λ (r : List Line). ks ++ r)
    (sym (drop-append-le (length ks) (take n l) (drop n l) (omega (arith, length_cut i (take n l) h))) ∙ ap (drop (length ks)) (take-append-drop n l))

module _ (w : List ℕ) (n i k : ℕ) (b : n ≤ rows_in (view_of w)) (h : i < n) (e : k ≡ n * 12) where
  some_words : 1 ≤ length w
  some_words = omega (arith, rows_fit w n b)

  pub put_some : (s : List ℕ) → 1 ≤ length (put_mid 1 k w s)
  put_some s = let z = some_words in simp (length-append, length-take) (omega arith)

  pub cut_back : (s : List ℕ) (m : ℕ) → s ≡ shut (i * 12) 12 (mid_of 1 k w)
      → view_of (set (put_mid 1 k w s) 0 m) ≡ tasks m (over (cut_at i (take n (view_of w).rows)) (view_of w).rows) (view_of w).past
  cut_back s m f =
      let l = (view_of w).rows in
      let head = take n l in
      let each : all eleven head ≡ true = all_take eleven n l (view_each w) in
      let long : i < length head = rw (length-take-le n l b) h in
      let ks = over (cut_at i head) head in
      let g : s ≡ words_of ks = f ∙ ap (shut (i * 12) 12) (rows_lent w n b k e) ∙ shut_words head each i long in
      let less : all eleven (cut_at i head) ≡ true = all_cut eleven i head each in
      let back : view_of (put_mid 1 k w s) ≡ tasks (view_of w).count (ks ++ drop n l) (view_of w).past =
      ap (λ (r : List ℕ). view_of (put_mid 1 k w r)) g ∙ rows_back w n b k e ks some_words (all_over eleven (cut_at i head) head less each) in
      view_count (put_mid 1 k w s) m (put_some s)
      ∙ ap (λ (t : Tasks). tasks m t.rows t.past) back
      ∙ ap (λ (r : List Line). tasks m r (view_of w).past) (over_whole l n i long)
