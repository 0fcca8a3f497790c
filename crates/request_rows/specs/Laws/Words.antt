-- Words as rows of four: each view undoes the other, and what a read, a store or a part of the words is of the rows. Assumes nothing.
use Rattle.std.specs.Prelude.{ℕ, zero, suc, ◌+◌, ◌*◌, ◌-◌, ◌/◌, ◌<◌, ◌≤◌, ◌≡◌, refl, List, [], ◌∷◌, ◌++◌, length, take, drop, get_or, set, map}
use Rattle.std.proofs.Common.{sym, ap, ap₂, ◌∙◌, append-nil, append_assoc, arith, length-append, length-drop, drop_of_length-le, length-take, take-append-drop, take_all}
use Rattle.std.proofs.Math.Seq.{take-append_seam, drop-append_seam}
use Rattle.std.proofs.lemmas.List.{drop-append-le}
use Rattle.std.specs.Simd.{first_chunks}
use borrow.Rule.Slice.PartMut.{put_mid}
use Rattle.base.specs.Lists.{over, cut_at}
use Rattle.base.specs.Laws.Cut.{length_cut}
use Rattle.words.specs.Rows.{shut}
use Rattle.request_rows.specs.declared.Phase.{Phase}
use Rattle.request_rows.specs.Rows.{Row, row, no_row, row_of, rows_of, rest_of, words_of, flat, phase_word, in_phase}

-- ---- the two views

pub rows_flat : (l : List ℕ) → flat (rows_of l) (rest_of l) ≡ l
rows_flat [] = refl
rows_flat (a ∷ []) = refl
rows_flat (a ∷ b ∷ []) = refl
rows_flat (a ∷ b ∷ c ∷ []) = refl
rows_flat (a ∷ b ∷ c ∷ d ∷ l) = ap (λ (r : List ℕ). a ∷ b ∷ c ∷ d ∷ r) (rows_flat l)

rest_rows : (l : List ℕ) → rows_of (rest_of l) ≡ []
rest_rows [] = refl
rest_rows (a ∷ []) = refl
rest_rows (a ∷ b ∷ []) = refl
rest_rows (a ∷ b ∷ c ∷ []) = refl
rest_rows (a ∷ b ∷ c ∷ d ∷ l) = rest_rows l

rest_rest : (l : List ℕ) → rest_of (rest_of l) ≡ rest_of l
rest_rest [] = refl
rest_rest (a ∷ []) = refl
rest_rest (a ∷ b ∷ []) = refl
rest_rest (a ∷ b ∷ c ∷ []) = refl
rest_rest (a ∷ b ∷ c ∷ d ∷ l) = rest_rest l

pub flat_rows : (rs : List Row) (l : List ℕ) → rows_of (flat rs (rest_of l)) ≡ rs
flat_rows [] l = rest_rows l
flat_rows (q ∷ rs) l = ap (λ (r : List Row). q ∷ r) (flat_rows rs l)

pub flat_rest : (rs : List Row) (l : List ℕ) → rest_of (flat rs (rest_of l)) ≡ rest_of l
flat_rest [] l = rest_rest l
flat_rest (q ∷ rs) l = flat_rest rs l

pub length_rows : (l : List ℕ) → length (rows_of l) ≡ length l / 4
length_rows [] = refl
length_rows (a ∷ []) = refl
length_rows (a ∷ b ∷ []) = refl
length_rows (a ∷ b ∷ c ∷ []) = refl
length_rows (a ∷ b ∷ c ∷ d ∷ l) = let e = length_rows l in omega arith

-- chunk by chunk
pub chunks_rows : (l : List ℕ) → map row_of (first_chunks 4 (length l / 4) l) ≡ rows_of l
chunks_rows [] = refl
chunks_rows (a ∷ []) = refl
chunks_rows (a ∷ b ∷ []) = refl
chunks_rows (a ∷ b ∷ c ∷ []) = refl
chunks_rows (a ∷ b ∷ c ∷ d ∷ l) =
    let n : length (a ∷ b ∷ c ∷ d ∷ l) / 4 ≡ suc (length l / 4) = omega arith in
    ap (λ (k : ℕ). map row_of (first_chunks 4 k (a ∷ b ∷ c ∷ d ∷ l))) n ∙ ap (λ (r : List Row). row a b c d ∷ r) (chunks_rows l)

pub length_words : (rs : List Row) → length (words_of rs) ≡ length rs * 4
length_words [] = refl
length_words (q ∷ rs) = let e = length_words rs in omega arith

pub words_append : (a b : List Row) (t : List ℕ) → flat (a ++ b) t ≡ words_of a ++ flat b t
words_append [] b t = refl
words_append (q ∷ a) b t = ap (λ (r : List ℕ). q.name ∷ q.who ∷ q.phase ∷ q.rest ∷ r) (words_append a b t)

words_both : (a b : List Row) → words_of (a ++ b) ≡ words_of a ++ words_of b
words_both [] b = refl
words_both (q ∷ a) b = ap (λ (r : List ℕ). q.name ∷ q.who ∷ q.phase ∷ q.rest ∷ r) (words_both a b)

-- ---- at a place

four : (h : ℕ) → suc h * 4 ≡ suc (suc (suc (suc (h * 4))))
four h = omega arith

four_on : (h k : ℕ) → suc h * 4 + k ≡ suc (suc (suc (suc (h * 4 + k))))
four_on h k = omega arith

module _ (t : List ℕ) where
  pub get_word : (rs : List Row) (h : ℕ) → h < length rs
      → get_or rs h no_row ≡ row (get_or (flat rs t) (h * 4) 0) (get_or (flat rs t) (h * 4 + 1) 0) (get_or (flat rs t) (h * 4 + 2) 0) (get_or (flat rs t) (h * 4 + 3) 0)
  get_word [] h k = absurd (omega arith)
  get_word (q ∷ rs) zero k = refl
  get_word (q ∷ rs) (suc h) k = rw (four_on h 1, four_on h 2, four_on h 3, four h) (get_word rs h (omega arith))

  pub set_words : (rs : List Row) (h : ℕ) (q : Row) → h < length rs
      → set (set (set (set (flat rs t) (h * 4) q.name) (h * 4 + 1) q.who) (h * 4 + 2) q.phase) (h * 4 + 3) q.rest ≡ flat (set rs h q) t
  set_words [] h q k = absurd (omega arith)
  set_words (p ∷ rs) zero q k = refl
  set_words (p ∷ rs) (suc h) q k = rw (four_on h 1, four_on h 2, four_on h 3, four h) (ap (λ (r : List ℕ). p.name ∷ p.who ∷ p.phase ∷ p.rest ∷ r) (set_words rs h q (omega arith)))

  pub put_words : (rs : List Row) (h : ℕ) (q : Row) → h < length rs → put_mid (h * 4) 4 (flat rs t) (words_of (q ∷ [])) ≡ flat (set rs h q) t
  put_words [] h q k = absurd (omega arith)
  put_words (p ∷ rs) zero q k = refl
  put_words (p ∷ rs) (suc h) q k = rw (four h) (ap (λ (r : List ℕ). p.name ∷ p.who ∷ p.phase ∷ p.rest ∷ r) (put_words rs h q (omega arith)))

  pub set_phase : (p : Phase) (rs : List Row) (h : ℕ) → h < length rs → set (flat rs t) (h * 4 + 2) (phase_word p) ≡ flat (set rs h (in_phase p (get_or rs h no_row))) t
  set_phase p [] h k = absurd (omega arith)
  set_phase p (q ∷ rs) zero k = refl
  set_phase p (q ∷ rs) (suc h) k = rw (four_on h 2) (ap (λ (r : List ℕ). q.name ∷ q.who ∷ q.phase ∷ q.rest ∷ r) (set_phase p rs h (omega arith)))

  -- ---- a part

  pub take_words : (rs : List Row) (h : ℕ) → h ≤ length rs → take (h * 4) (flat rs t) ≡ words_of (take h rs)
  take_words rs zero k = refl
  take_words [] (suc h) k = absurd (omega arith)
  take_words (p ∷ rs) (suc h) k = rw (four h) (ap (λ (r : List ℕ). p.name ∷ p.who ∷ p.phase ∷ p.rest ∷ r) (take_words rs h (omega arith)))

  pub drop_words : (rs : List Row) (h : ℕ) → h ≤ length rs → drop (h * 4) (flat rs t) ≡ flat (drop h rs) t
  drop_words rs zero k = refl
  drop_words [] (suc h) k = absurd (omega arith)
  drop_words (p ∷ rs) (suc h) k = rw (four h) (drop_words rs h (omega arith))

-- ---- of any words

module _ (l : List ℕ) (h : ℕ) (k : h * 4 + 4 ≤ length l) where
  within : h < length (rows_of l)
  within = omega (arith, length_rows l)

  pub row_read : row (get_or l (h * 4) 0) (get_or l (h * 4 + 1) 0) (get_or l (h * 4 + 2) 0) (get_or l (h * 4 + 3) 0) ≡ get_or (rows_of l) h no_row
  row_read = sym (rw (rows_flat l) at (get_word (rest_of l) (rows_of l) h within))

  pub row_put : (q : Row) → set (set (set (set l (h * 4) q.name) (h * 4 + 1) q.who) (h * 4 + 2) q.phase) (h * 4 + 3) q.rest ≡ flat (set (rows_of l) h q) (rest_of l)
  row_put q = rw (rows_flat l) at (set_words (rest_of l) (rows_of l) h q within)

  pub chunk_put : (q : Row) → put_mid (h * 4) 4 l (words_of (q ∷ [])) ≡ flat (set (rows_of l) h q) (rest_of l)
  chunk_put q = rw (rows_flat l) at (put_words (rest_of l) (rows_of l) h q within)

  pub phase_put : (p : Phase) → set l (h * 4 + 2) (phase_word p) ≡ flat (set (rows_of l) h (in_phase p (get_or (rows_of l) h no_row))) (rest_of l)
  phase_put p = rw (rows_flat l) at (set_phase (rest_of l) p (rows_of l) h within)

-- ---- what is done to a part

pub words_rows : (rs : List Row) → rows_of (words_of rs) ≡ rs
words_rows [] = refl
words_rows (q ∷ rs) = ap (λ (r : List Row). q ∷ r) (words_rows rs)

pub words_rest : (rs : List Row) → rest_of (words_of rs) ≡ []
words_rest [] = refl
words_rest (q ∷ rs) = words_rest rs

-- to what stands behind some rows, up to the end
pub done_behind : (f : List Row → List Row) (a b : List Row) (l w p : List ℕ) (at : ℕ) → w ≡ flat (a ++ b) (rest_of l) → at ≡ length a * 4
    → p ≡ flat (f (rows_of (take (length w - at) (drop at w)))) (rest_of (take (length w - at) (drop at w)))
    → take at w ++ (p ++ drop (length w - at) (drop at w)) ≡ flat (a ++ f b) (rest_of l)
done_behind f a b l w p at is e done =
    let n : length a ≤ length (a ++ b) = simp length-append (omega arith) in
    let t : take at w ≡ words_of a = ap₂ (λ (k : ℕ) (r : List ℕ). take k r) e is ∙ take_words (rest_of l) (a ++ b) (length a) n ∙ ap words_of (take-append_seam a b) in
    let d : drop at w ≡ flat b (rest_of l) = ap₂ (λ (k : ℕ) (r : List ℕ). drop k r) e is ∙ drop_words (rest_of l) (a ++ b) (length a) n ∙ ap (λ (r : List Row). flat r (rest_of l)) (drop-append_seam a b) in
    let m : length (drop at w) ≤ length w - at = simp length-drop (omega arith) in
    let u : take (length w - at) (drop at w) ≡ flat b (rest_of l) = take_all (length w - at) (drop at w) m ∙ d in
    let z : drop (length w - at) (drop at w) ≡ [] = drop_of_length-le (drop at w) {i = length w - at} m in
    let q : p ≡ flat (f b) (rest_of l) = done ∙ rw (u, flat_rows b l, flat_rest b l) in
    rw (t, q, z, append-nil (flat (f b) (rest_of l))) (sym (words_append a (f b) (rest_of l)))

-- to the first rows
pub done_front : (f : List Row → List Row) (n : ℕ) (w p : List ℕ) → n ≤ length (rows_of w) → length (f (take n (rows_of w))) ≡ n
    → p ≡ flat (f (rows_of (take (n * 4) w))) (rest_of (take (n * 4) w)) → p ++ drop (n * 4) w ≡ over (words_of (f (take n (rows_of w)))) w
done_front f n w p h k done =
    let t : take (n * 4) w ≡ words_of (take n (rows_of w)) = ap (take (n * 4)) (sym (rows_flat w)) ∙ take_words (rest_of w) (rows_of w) n h in
    let q : p ≡ words_of (f (take n (rows_of w))) = done ∙ rw (t, words_rows (take n (rows_of w)), words_rest (take n (rows_of w))) (append-nil _) in
    let m : length (words_of (f (take n (rows_of w)))) ≡ n * 4 = length_words (f (take n (rows_of w))) ∙ ap (λ (i : ℕ). i * 4) k in
    rw (q, m)

pub front_rows : (n : ℕ) (w : List ℕ) → n ≤ length (rows_of w) → rows_of (take (n * 4) w) ≡ take n (rows_of w)
front_rows n w h = ap (λ r. rows_of (take (n * 4) r)) (sym (rows_flat w)) ∙ ap rows_of (take_words (rest_of w) (rows_of w) n h) ∙ words_rows (take n (rows_of w))

-- ---- a row less

-- words of rows alone
pub take_rows : (rs : List Row) (h : ℕ) → h ≤ length rs → take (h * 4) (words_of rs) ≡ words_of (take h rs)
take_rows rs h k = ap (take (h * 4)) (sym (append-nil (words_of rs))) ∙ take_words [] rs h k

pub drop_rows : (rs : List Row) (h : ℕ) → h ≤ length rs → drop (h * 4) (words_of rs) ≡ words_of (drop h rs)
drop_rows rs h k = ap (drop (h * 4)) (sym (append-nil (words_of rs))) ∙ drop_words [] rs h k ∙ append-nil (words_of (drop h rs))

words_over : (ks l : List Row) → length ks ≤ length l → over (words_of ks) (words_of l) ≡ words_of (over ks l)
words_over ks l h =
    ap (λ (n : ℕ). words_of ks ++ drop n (words_of l)) (length_words ks) ∙ ap (λ (r : List ℕ). words_of ks ++ r) (drop_rows l (length ks) h)
    ∙ sym (words_both ks (drop (length ks) l))

-- the four words of row i go
pub shut_words : (l : List Row) (i : ℕ) → i < length l → shut (i * 4) 4 (words_of l) ≡ words_of (over (cut_at i l) l)
shut_words l i h =
    let e : i * 4 + 4 ≡ suc i * 4 = omega arith in
    let f : take (i * 4) (words_of l) ++ drop (i * 4 + 4) (words_of l) ≡ words_of (cut_at i l) =
    ap₂ (λ (x y : List ℕ). x ++ y) (take_rows l i (omega arith)) (ap (λ (n : ℕ). drop n (words_of l)) e ∙ drop_rows l (suc i) (omega arith))
    ∙ sym (words_both (take i l) (drop (suc i) l)) in
    ap (λ (x : List ℕ). over x (words_of l)) f ∙ words_over (cut_at i l) l (omega (arith, length_cut i l h))

-- of the first m rows, and all else stays
pub rows_shut : (w : List ℕ) (i m : ℕ) (l : List Row) → l ≡ take m (rows_of w) → i < m → m ≤ length (rows_of w)
    → shut (i * 4) 4 (words_of l) ++ drop (m * 4) w ≡ flat (over (cut_at i l) (rows_of w)) (rest_of w)
rows_shut w i m l e h b =
    let n : length l ≡ m = ap length e ∙ simp length-take (omega arith) in
    let k : length (cut_at i l) ≤ length l = omega (arith, length_cut i l (omega arith)) in
    let d : drop (m * 4) w ≡ flat (drop m (rows_of w)) (rest_of w) = ap (drop (m * 4)) (sym (rows_flat w)) ∙ drop_words (rest_of w) (rows_of w) m b in
    let j : l ++ drop m (rows_of w) ≡ rows_of w = ap (λ (x : List Row). x ++ drop m (rows_of w)) e ∙ take-append-drop m (rows_of w) in
    let o : over (cut_at i l) l ++ drop m (rows_of w) ≡ over (cut_at i l) (rows_of w) =
    append_assoc (cut_at i l) (drop (length (cut_at i l)) l) (drop m (rows_of w))
    ∙ ap (λ (x : List Row). cut_at i l ++ x) (sym (drop-append-le (length (cut_at i l)) l (drop m (rows_of w)) k) ∙ ap (drop (length (cut_at i l))) j) in
    ap₂ (λ (x y : List ℕ). x ++ y) (shut_words l i (omega arith)) d
    ∙ sym (words_append (over (cut_at i l) l) (drop m (rows_of w)) (rest_of w)) ∙ ap (λ (x : List Row). flat x (rest_of w)) o
