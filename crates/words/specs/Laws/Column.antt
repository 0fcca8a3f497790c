-- The column of names: of whole rows, of the first rows and of those behind them, after a store, and of what a scan has left. Assumes nothing.
use Rattle.std.specs.Prelude.{ℕ, zero, suc, ◌+◌, ◌*◌, ◌<◌, ◌≤◌, min, ◌≡◌, refl, Bool, true, false, List, [], ◌∷◌, ◌++◌, length, take, drop, get_or, set, Some, None, position}
use Rattle.std.proofs.Common.{sym, ap, ◌∙◌, arith, suc-mul, length-append, drop_of_length-le, lt-ltb, le-ltb}
use Rattle.std.proofs.Math.Seq.{take-nil, drop-nil, drop-append_seam}
use Rattle.base.specs.Lists.{first_at}
use Rattle.base.specs.Laws.Library.{position_of}
use Rattle.words.specs.Rows.{column_from, column}

module _ (gap : ℕ) where
  -- ---- a row: a name, and `gap` words behind it

  column_rest : (r l : List ℕ) → column_from gap (length r) (r ++ l) ≡ column gap l
  column_rest [] l = refl
  column_rest (x ∷ r) l = column_rest r l

  -- a row in front of others
  pub column_row : (x : ℕ) (r l : List ℕ) → length r ≡ gap → column gap (x ∷ (r ++ l)) ≡ x ∷ column gap l
  column_row x r l e = ap (λ (k : ℕ). x ∷ column_from gap k (r ++ l)) (sym e) ∙ ap (λ (c : List ℕ). x ∷ c) (column_rest r l)

  -- ---- n rows, behind k words: in m words

  -- past the first name
  one_row : (n m : ℕ) → suc m ≡ 0 + suc n * suc gap → m ≡ gap + n * suc gap
  one_row n m e = omega (arith, suc-mul n (suc gap))

  some_row : {P : Type 0} (n : ℕ) → 0 ≡ 0 + suc n * suc gap → P
  some_row n e = absurd (omega (arith, suc-mul n (suc gap)))

  append_from : (k n : ℕ) (a l : List ℕ) → length a ≡ k + n * suc gap → column_from gap k (a ++ l) ≡ column_from gap k a ++ column gap l
  append_from zero n [] l e = refl
  append_from (suc k) n [] l e = absurd (omega arith)
  append_from zero zero (x ∷ a) l e = absurd (omega arith)
  append_from zero (suc n) (x ∷ a) l e = ap (λ (c : List ℕ). x ∷ c) (append_from gap n a l (one_row n (length a) e))
  append_from (suc k) n (x ∷ a) l e = append_from k n a l (omega arith)

  length_from : (k n : ℕ) (l : List ℕ) → length l ≡ k + n * suc gap → length (column_from gap k l) ≡ n
  length_from zero zero [] e = refl
  length_from zero (suc n) [] e = some_row n e
  length_from (suc k) n [] e = absurd (omega arith)
  length_from zero zero (x ∷ l) e = absurd (omega arith)
  length_from zero (suc n) (x ∷ l) e = ap suc (length_from gap n l (one_row n (length l) e))
  length_from (suc k) n (x ∷ l) e = length_from k n l (omega arith)

  take_from : (k n : ℕ) (l : List ℕ) (m : ℕ) → m ≡ k + n * suc gap → column_from gap k (take m l) ≡ take n (column_from gap k l)
  take_from k n [] m e = rw (take-nil m, take-nil n)
  take_from zero zero (x ∷ l) m e = let z : m ≡ 0 = omega arith in rw z
  take_from zero (suc n) (x ∷ l) zero e = some_row n e
  take_from zero (suc n) (x ∷ l) (suc m) e = ap (λ (c : List ℕ). x ∷ c) (take_from gap n l m (one_row n m e))
  take_from (suc k) n (x ∷ l) zero e = absurd (omega arith)
  take_from (suc k) n (x ∷ l) (suc m) e = take_from k n l m (omega arith)

  drop_from : (k n : ℕ) (l : List ℕ) (m : ℕ) → m ≡ k + n * suc gap → column gap (drop m l) ≡ drop n (column_from gap k l)
  drop_from k n [] m e = rw (drop-nil m, drop-nil n)
  drop_from zero zero (x ∷ l) m e = let z : m ≡ 0 = omega arith in rw z
  drop_from zero (suc n) (x ∷ l) zero e = some_row n e
  drop_from zero (suc n) (x ∷ l) (suc m) e = drop_from gap n l m (one_row n m e)
  drop_from (suc k) n (x ∷ l) zero e = absurd (omega arith)
  drop_from (suc k) n (x ∷ l) (suc m) e = drop_from k n l m (omega arith)

  at_from : (k n : ℕ) (l : List ℕ) (m d : ℕ) → m ≡ k + n * suc gap → get_or (column_from gap k l) n d ≡ get_or l m d
  at_from k n [] m d e = refl
  at_from zero zero (x ∷ l) m d e = let z : m ≡ 0 = omega arith in rw z
  at_from zero (suc n) (x ∷ l) zero d e = some_row n e
  at_from zero (suc n) (x ∷ l) (suc m) d e = at_from gap n l m d (one_row n m e)
  at_from (suc k) n (x ∷ l) zero d e = absurd (omega arith)
  at_from (suc k) n (x ∷ l) (suc m) d e = at_from k n l m d (omega arith)

  set_from : (k n : ℕ) (l : List ℕ) (m v : ℕ) → m ≡ k + n * suc gap → column_from gap k (set l m v) ≡ set (column_from gap k l) n v
  set_from k n [] m v e = refl
  set_from zero zero (x ∷ l) m v e = let z : m ≡ 0 = omega arith in rw z
  set_from zero (suc n) (x ∷ l) zero v e = some_row n e
  set_from zero (suc n) (x ∷ l) (suc m) v e = ap (λ (c : List ℕ). x ∷ c) (set_from gap n l m v (one_row n m e))
  set_from (suc k) n (x ∷ l) zero v e = absurd (omega arith)
  set_from (suc k) n (x ∷ l) (suc m) v e = set_from k n l m v (omega arith)

  set_before : (k : ℕ) (l : List ℕ) (m v : ℕ) → m < k → column_from gap k (set l m v) ≡ column_from gap k l
  set_before k [] m v h = refl
  set_before zero (x ∷ l) m v h = absurd (omega arith)
  set_before (suc k) (x ∷ l) zero v h = refl
  set_before (suc k) (x ∷ l) (suc m) v h = set_before k l m v (omega arith)

  set_behind : (k n r : ℕ) (l : List ℕ) (m v : ℕ) → m ≡ suc r + (k + n * suc gap) → r < gap → column_from gap k (set l m v) ≡ column_from gap k l
  set_behind k n r [] m v e h = refl
  set_behind k n r (x ∷ l) zero v e h = absurd (omega arith)
  set_behind zero zero r (x ∷ l) (suc m) v e h = ap (λ (c : List ℕ). x ∷ c) (set_before gap l m v (omega arith))
  set_behind zero (suc n) r (x ∷ l) (suc m) v e h =
      ap (λ (c : List ℕ). x ∷ c) (set_behind gap n r l m v (omega (arith, suc-mul n (suc gap))) h)
  set_behind (suc k) n r (x ∷ l) (suc m) v e h = set_behind k n r l m v (omega arith) h

  -- ---- n whole rows

  module _ (n m : ℕ) (e : m ≡ n * suc gap) where
    -- in front of others
    pub column_append : (a l : List ℕ) → length a ≡ m → column gap (a ++ l) ≡ column gap a ++ column gap l
    column_append a l h = append_from 0 n a l (omega arith)

    pub length_column : (l : List ℕ) → length l ≡ m → length (column gap l) ≡ n
    length_column l h = length_from 0 n l (omega arith)

    module _ (l : List ℕ) where
      pub column_take : column gap (take m l) ≡ take n (column gap l)
      column_take = take_from 0 n l m (omega arith)

      pub column_drop : column gap (drop m l) ≡ drop n (column gap l)
      column_drop = drop_from 0 n l m (omega arith)

      -- the name of the row behind them
      pub column_at : (d : ℕ) → get_or (column gap l) n d ≡ get_or l m d
      column_at d = at_from 0 n l m d (omega arith)

      pub column_set : (v : ℕ) → column gap (set l m v) ≡ set (column gap l) n v
      column_set v = set_from 0 n l m v (omega arith)

      -- another word of it
      pub column_set_other : (r v : ℕ) → 0 < r → r ≤ gap → column gap (set l (m + r) v) ≡ column gap l
      column_set_other zero v h b = absurd (omega arith)
      column_set_other (suc r) v h b = set_behind 0 n r l (m + suc r) v (omega arith) (omega arith)

-- ---- a scan, a row a turn; the last row may be short

behind : (gap k : ℕ) (l : List ℕ) → column_from gap k l ≡ column gap (drop k l)
behind gap zero l = refl
behind gap (suc k) [] = refl
behind gap (suc k) (x ∷ l) = behind gap k l

-- a row of what is left: as long as rows are, or all of it
module _ (gap : ℕ) where
  abbrev pub is_row : List ℕ → List ℕ → Type 0
  is_row row rest = (0 < length row) × (length row ≡ min (suc gap) (length (row ++ rest)))

  behind_row : (row rest : List ℕ) → is_row row rest → drop (suc gap) (row ++ rest) ≡ rest
  behind_row row [] h = drop_of_length-le (row ++ []) {i = suc gap} (omega (arith, length-append row []))
  behind_row row (y ∷ rest) h =
      let e : suc gap ≡ length row = omega (arith, length-append row (y ∷ rest)) in
      ap (λ (k : ℕ). drop k (row ++ y ∷ rest)) e ∙ drop-append_seam row (y ∷ rest)

  next : (row rest : List ℕ) → is_row row rest → column gap (row ++ rest) ≡ get_or row 0 0 ∷ column gap rest
  next [] rest h = absurd (omega arith)
  next (x ∷ row) rest h = ap (λ (c : List ℕ). x ∷ c) (behind gap gap (row ++ rest) ∙ ap (column gap) (behind_row (x ∷ row) rest h))

-- no name of the i rows before what is left passes
pub record Scanned (gap : ℕ) (l : List ℕ) (p : ℕ → Bool) (i : ℕ) (left : List ℕ) : Type 0 where
  pub first : first_at p (column gap l) ≡ i + first_at p (column gap left)
  pub rows : length (column gap l) ≡ i + length (column gap left)

pub scan_start : (gap : ℕ) (l : List ℕ) (p : ℕ → Bool) → Scanned gap l p 0 l
scan_start gap l p = record { first = omega arith; rows = omega arith }

module _ {gap : ℕ} {l : List ℕ} {p : ℕ → Bool} {i : ℕ} {left : List ℕ} (v : Scanned gap l p i left) where
  pub scan_end : length left ≡ 0 → None ≡ position p (column gap l)
  scan_end h =
      let e : left ≡ [] = drop_of_length-le left {i = 0} (omega arith) in
      let f : first_at p (column gap l) ≡ i = rw e at v.first ∙ omega arith in
      let r : length (column gap l) ≡ i = rw e at v.rows ∙ omega arith in
      sym (position_of p (column gap l) ∙ (rw (f, r, le-ltb i i (omega arith))))

  module _ (row rest : List ℕ) (e : left ≡ row ++ rest) (h : is_row gap row rest) where
    taken : column gap left ≡ get_or row 0 0 ∷ column gap rest
    taken = ap (column gap) e ∙ next gap row rest h

    pub scan_hit : p (get_or row 0 0) ≡ true → Some i ≡ position p (column gap l)
    scan_hit t =
        let f : first_at p (column gap l) ≡ i = v.first ∙ (rw (taken, t) (omega arith)) in
        let r : i < length (column gap l) = omega (arith, v.rows, ap length taken) in
        sym (position_of p (column gap l) ∙ (rw (f, lt-ltb i (length (column gap l)) r)))

    pub scan_on : (j : ℕ) → j ≡ i + 1 → p (get_or row 0 0) ≡ false → Scanned gap l p j rest
    scan_on j k t =
        let f : first_at p (column gap left) ≡ suc (first_at p (column gap rest)) = rw (taken, t) in
        record { first = omega (arith, v.first); rows = omega (arith, v.rows, ap length taken) }
