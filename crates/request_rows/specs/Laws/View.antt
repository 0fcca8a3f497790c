-- The whole slice as a view: where a row stands in it, what a store in a row or in the head leaves, and the requests that count, as rows and as
-- words. Assumes nothing.
use Rattle.std.specs.Prelude.{ℕ, suc, ◌+◌, ◌*◌, ◌-◌, ◌/◌, ◌<◌, ◌≤◌, min, ◌≡◌, refl, Bool, List, [], ◌∷◌, ◌++◌, eqb, leb, ltb, length, take, drop, get_or, set, map, filter, position, Some, None}
use Rattle.std.proofs.Common.{sym, ap, ap₂, ◌∙◌, arith, length-append, length-take, length-drop, get_or-take, take_all, leb-true, leb-false}
use Rattle.std.proofs.lemmas.List.{length-map, take-map}
use Rattle.std.proofs.Math.ListN.{get_or-eq_default, get_or-map}
use Rattle.std.proofs.Math.Seq.{set_out}
use Rattle.std.specs.List.{list_any}
use Rattle.std.specs.Simd.{first_chunks}
use borrow.Rule.Slice.PartMut.{put_mid}
use Rattle.base.specs.Choice.{pick}
use Rattle.base.specs.Lists.{keep, any, first_at, over, cut_at}
use Rattle.base.specs.Laws.Tests.{by_test}
use Rattle.base.specs.Laws.Cut.{length_cut}
use Rattle.base.specs.Laws.Library.{any_of, keep_of, position_of}
use Rattle.base.specs.Laws.Maps.{any_map, keep_map, first_at_map}
use Rattle.base.specs.Laws.Over.{over_put}
use Rattle.base.specs.Laws.Scans.{take_least}
use Rattle.base.specs.Laws.Seeking.{Sought, seeks_start}
use Rattle.words.specs.Rows.{column, shut}
use Rattle.request_rows.specs.declared.Phase.{Phase}
use Rattle.request_rows.specs.Rows.{Row, row, no_row, row_of, rows_of, rest_of, words_of, flat, phase_word, in_phase, named, decode}
use Rattle.request_rows.specs.Table.{Requests, view_of, live, with_live, with_row}
use Rattle.request_rows.specs.Laws.Words.{rows_flat, flat_rows, flat_rest, chunks_rows, length_rows, row_read, row_put, chunk_put, phase_put, take_words, rows_shut}

-- ---- how many rows there are, and where one stands

pub rows_in_lem : (w : List ℕ) → length (view_of w).rows ≡ (length w - 2) / 4
rows_in_lem w = length_rows (drop 2 w) ∙ ap (λ (n : ℕ). n / 4) (length-drop 2 w)

-- the words behind the head, where there is one
past_head : (w : List ℕ) (k : ℕ) → k ≡ min 2 (length w) → drop k w ≡ drop 2 w
past_head [] k e = rw e
past_head (a ∷ []) k e = rw e
past_head (a ∷ b ∷ l) k e = let d : k ≡ 2 = omega arith in rw d

-- chunk by chunk
pub rows_read : (w : List ℕ) (k : ℕ) → k ≡ min 2 (length w) → (x : List (List ℕ))
    → x ≡ first_chunks 4 (length (take (length w - k) (drop k w)) / 4) (take (length w - k) (drop k w)) → map row_of x ≡ (view_of w).rows
rows_read w k e x f =
    let d : take (length w - k) (drop k w) ≡ drop 2 w = take_all (length w - k) (drop k w) (simp length-drop (omega arith)) ∙ past_head w k e in
    ap (map row_of) f ∙ ap (λ (l : List ℕ). map row_of (first_chunks 4 (length l / 4) l)) d ∙ chunks_rows (drop 2 w)

-- a row each
pub rows_size : (w : List ℕ) (x : List (List ℕ)) → map row_of x ≡ (view_of w).rows → length x ≡ length (view_of w).rows
rows_size w x e = sym (length-map x row_of) ∙ ap (λ (l : List Row). length l) e

-- those that count
pub live_read : (w : List ℕ) (n : ℕ) (x y : List (List ℕ)) → map row_of x ≡ (view_of w).rows → n ≡ (view_of w).count → y ≡ take n x → map row_of y ≡ live (view_of w)
live_read w n x y e h f = ap (map row_of) f ∙ sym (take-map row_of n x) ∙ ap₂ (λ (i : ℕ) (l : List Row). take i l) h e

-- behind the head
behind : (n : ℕ) → 2 + n ≡ suc (suc n)
behind n = omega arith

behind_on : (n k : ℕ) → 2 + n + k ≡ suc (suc (n + k))
behind_on n k = omega arith

-- other words behind the head
pub view_behind : (a b : ℕ) (l s : List ℕ) (rs : List Row) → s ≡ flat rs (rest_of l)
    → view_of (a ∷ b ∷ s) ≡ record { register = (view_of (a ∷ b ∷ l)).register; count = b; rows = rs; past = rest_of l }
view_behind a b l s rs e = rw (e, flat_rows rs l, flat_rest rs l)

-- ---- a row that is there

pub row_within : (w : List ℕ) (i : ℕ) → i < length (view_of w).rows → 2 + i * 4 + 4 ≤ length w
row_within w i h = omega (arith, rows_in_lem w)

-- read
pub view_read : (w : List ℕ) (i : ℕ) → i < length (view_of w).rows
    → row (get_or w (2 + i * 4) 0) (get_or w (2 + i * 4 + 1) 0) (get_or w (2 + i * 4 + 2) 0) (get_or w (2 + i * 4 + 3) 0) ≡ get_or (view_of w).rows i no_row
view_read [] i h = absurd (omega arith)
view_read (a ∷ []) i h = absurd (omega arith)
view_read (a ∷ b ∷ l) i h =
    rw (behind_on (i * 4) 1, behind_on (i * 4) 2, behind_on (i * 4) 3, behind (i * 4)) (row_read l i (omega (arith, length_rows l)))

-- stored
pub view_put : (w : List ℕ) (i : ℕ) (q : Row) → i < length (view_of w).rows
    → view_of (set (set (set (set w (2 + i * 4) q.name) (2 + i * 4 + 1) q.who) (2 + i * 4 + 2) q.phase) (2 + i * 4 + 3) q.rest) ≡ with_row (view_of w) i q
view_put [] i q h = absurd (omega arith)
view_put (a ∷ []) i q h = absurd (omega arith)
view_put (a ∷ b ∷ l) i q h =
    rw (behind_on (i * 4) 1, behind_on (i * 4) 2, behind_on (i * 4) 3, behind (i * 4))
    (view_behind a b l _ (set (rows_of l) i q) (row_put l i (omega (arith, length_rows l)) q))

pub view_chunk : (w : List ℕ) (i : ℕ) (q : Row) → i < length (view_of w).rows
    → view_of (put_mid (2 + i * 4) (2 + i * 4 + 4 - (2 + i * 4)) w (words_of (q ∷ []))) ≡ with_row (view_of w) i q
view_chunk [] i q h = absurd (omega arith)
view_chunk (a ∷ []) i q h = absurd (omega arith)
view_chunk (a ∷ b ∷ l) i q h =
    let n : 2 + i * 4 + 4 - (2 + i * 4) ≡ 4 = omega arith in
    rw (n, behind (i * 4)) (view_behind a b l _ (set (rows_of l) i q) (chunk_put l i (omega (arith, length_rows l)) q))

-- its phase
pub view_phase : (w : List ℕ) (i : ℕ) (p : Phase) → i < length (view_of w).rows
    → view_of (set w (2 + i * 4 + 2) (phase_word p)) ≡ with_row (view_of w) i (in_phase p (get_or (view_of w).rows i no_row))
view_phase [] i p h = absurd (omega arith)
view_phase (a ∷ []) i p h = absurd (omega arith)
view_phase (a ∷ b ∷ l) i p h =
    rw (behind_on (i * 4) 2)
    (view_behind a b l _ (set (rows_of l) i (in_phase p (get_or (rows_of l) i no_row))) (phase_put l i (omega (arith, length_rows l)) p))

-- past the last row
pub view_out : (w : List ℕ) (i : ℕ) (q : Row) → length (view_of w).rows ≤ i → with_row (view_of w) i q ≡ view_of w
view_out w i q h = rw (set_out (rows_of (drop 2 w)) i q h)

-- ---- the requests that count

-- in a look at each, in order: none of those before i passes
abbrev pub Seeks : (Row → Bool) → List ℕ → ℕ → ℕ → Type 0
Seeks p w m i = Sought p (view_of w).rows (view_of w).count (length (view_of w).rows) m i

module _ (w : List ℕ) where
  pub live_count : length (live (view_of w)) ≡ min (view_of w).count (length (view_of w).rows)
  live_count = length-take (view_of w).count (view_of w).rows

  -- they are the first
  pub live_first : take (length (live (view_of w))) (view_of w).rows ≡ live (view_of w)
  live_first = ap (λ (n : ℕ). take n (view_of w).rows) live_count ∙ take_least (view_of w).count (view_of w).rows

  -- one of them
  pub live_at : (i : ℕ) → i < length (live (view_of w)) → get_or (view_of w).rows i no_row ≡ get_or (live (view_of w)) i no_row
  live_at i h = let c = live_count in sym (get_or-take (view_of w).count (view_of w).rows i no_row (omega arith))

  pub live_past : (i : ℕ) → length (live (view_of w)) ≤ i → get_or (live (view_of w)) i no_row ≡ no_row
  live_past i h = get_or-eq_default (live (view_of w)) no_row {n = i} h

  pub live_sought : (p : Row → Bool) (m : ℕ) → m ≡ length (live (view_of w)) → Seeks p w m 0
  live_sought p m e = seeks_start p (view_of w).rows (view_of w).count (length (view_of w).rows) m (e ∙ live_count) refl

-- ---- their words: behind the head, where there is one

abbrev firsts : List ℕ → ℕ → ℕ → List ℕ
firsts w k m = take (k + m * 4 - k) (drop k w)

module _ (w : List ℕ) (k m : ℕ) (e : m ≡ length (live (view_of w))) where
  pub live_words : k ≡ min 2 (length w) → firsts w k m ≡ words_of (live (view_of w))
  live_words h =
      let c = live_count w in
      let n : k + m * 4 - k ≡ length (live (view_of w)) * 4 = omega arith in
      by_test (leb 2 (length w))
      (λ t.
      let d : k ≡ 2 = omega (arith, leb-true 2 (length w) t) in
      ap₂ (λ (i j : ℕ). take i (drop j w)) n d ∙ ap (take (length (live (view_of w)) * 4)) (sym (rows_flat (drop 2 w)))
      ∙ take_words (rest_of (drop 2 w)) (view_of w).rows (length (live (view_of w))) (omega arith) ∙ ap words_of (live_first w))
      (λ t.
      let z : length (live (view_of w)) ≡ 0 = omega (arith, leb-false 2 (length w) t, rows_in_lem w) in
      ap (λ (i : ℕ). take i (drop k w)) (n ∙ ap (λ (i : ℕ). i * 4) z) ∙ sym (ap words_of (sym (live_first w) ∙ ap (λ (i : ℕ). take i (view_of w).rows) z)))

  pub live_within : k ≡ min 2 (length w) → k + m * 4 ≤ length w
  live_within h = omega (arith, rows_in_lem w, live_count w)

-- the names, in the words
pub names_first : (n : ℕ) (l : List Row) → first_at (λ x. eqb x n) (column 3 (words_of l)) ≡ first_at (named n) l
names_first n [] = refl
names_first n (q ∷ l) = ap (λ (k : ℕ). pick (eqb q.name n) 0 (suc k)) (names_first n l)

-- ---- another count, and other rows that count

abbrev pub with_count : Requests → ℕ → Requests
with_count t n = record { register = t.register; count = n; rows = t.rows; past = t.past }

pub view_count : (w : List ℕ) (n : ℕ) → 0 < length (view_of w).rows → view_of (set w 1 n) ≡ with_count (view_of w) n
view_count [] n h = absurd (omega arith)
view_count (a ∷ []) n h = absurd (omega arith)
view_count (a ∷ b ∷ l) n h = refl

-- one more, behind them
pub live_more : (t : Requests) (m : ℕ) (q : Row) → m ≡ length (live t) → m < length t.rows → with_count (with_row t m q) (m + 1) ≡ with_live t (live t ++ (q ∷ []))
live_more t m q e h =
    let c = length-take t.count t.rows in
    let n : m + 1 ≡ length (live t ++ (q ∷ [])) = simp length-append (omega arith) in
    let k : m ≡ min t.count (length t.rows) = e ∙ c in
    let f : take m t.rows ≡ live t = ap (λ (i : ℕ). take i t.rows) k ∙ take_least t.count t.rows in
    let r : set t.rows m q ≡ over (live t ++ (q ∷ [])) t.rows = over_put m t.rows q h ∙ ap (λ (l : List Row). over (l ++ (q ∷ [])) t.rows) f in
    ap₂ (λ (i : ℕ) (l : List Row). record { register = t.register; count = i; rows = l; past = t.past }) n r

-- one less
pub view_shut : (w : List ℕ) (i m : ℕ) (p : List ℕ) → m ≡ length (live (view_of w)) → i < m → p ≡ shut (i * 4) 4 (firsts w 2 m)
    → view_of (set (put_mid 2 (2 + m * 4 - 2) w p) 1 (m - 1)) ≡ with_live (view_of w) (cut_at i (live (view_of w)))
view_shut [] i m p e h d = absurd (omega (arith, live_count []))
view_shut (a ∷ []) i m p e h d = absurd (omega (arith, live_count (a ∷ [])))
view_shut (a ∷ b ∷ l) i m p e h d =
    let v = view_of (a ∷ b ∷ l) in
    let c = live_count (a ∷ b ∷ l) in
    let n : 2 + m * 4 - 2 ≡ m * 4 = omega arith in
    let q : p ≡ shut (i * 4) 4 (words_of (live v)) = d ∙ ap (shut (i * 4) 4) (live_words (a ∷ b ∷ l) 2 m e (omega arith)) in
    let k : m - 1 ≡ length (cut_at i (live v)) = omega (arith, length_cut i (live v) (omega arith)) in
    let s : p ++ drop (2 + m * 4 - 2) l ≡ flat (over (cut_at i (live v)) (rows_of l)) (rest_of l) =
    ap₂ (λ (x : List ℕ) (j : ℕ). x ++ drop j l) q n
    ∙ rows_shut l i m (live v) (sym (ap (λ (j : ℕ). take j (rows_of l)) e ∙ live_first (a ∷ b ∷ l))) h (omega arith) in
    ap (λ (j : ℕ). view_of (a ∷ j ∷ (p ++ drop (2 + m * 4 - 2) l))) k ∙ view_behind a (length (cut_at i (live v))) l _ _ s

-- ---- rows as they are lent, and the requests that they hold

module _ (w : List (List ℕ)) (l : List Row) (e : map row_of w ≡ l) where
  -- the request in one of them
  pub read_rows : (i : ℕ) → decode (row_of (get_or w i [])) ≡ decode (get_or l i no_row)
  read_rows i = ap decode (sym (get_or-map row_of w i []) ∙ ap (λ (r : List Row). get_or r i no_row) e)

  pub any_rows : (p : Row → Bool) → list_any (λ x. p (row_of x)) w ≡ any p l
  any_rows p = any_of (λ x. p (row_of x)) w ∙ sym (any_map row_of (λ x. p (row_of x)) p (λ x. refl) w) ∙ ap (any p) e

  pub keep_rows : (p : Row → Bool) → length (filter (λ x. p (row_of x)) w) ≡ length (keep p l)
  keep_rows p =
      ap (λ (r : List (List ℕ)). length r) (keep_of (λ x. p (row_of x)) w) ∙ sym (length-map (keep (λ x. p (row_of x)) w) row_of)
      ∙ ap (λ (r : List Row). length r) (sym (keep_map row_of (λ x. p (row_of x)) p (λ x. refl) w) ∙ ap (keep p) e)

  pub position_rows : (p : Row → Bool) → position (λ x. p (row_of x)) w ≡ position p l
  position_rows p =
      let f : first_at (λ x. p (row_of x)) w ≡ first_at p l = sym (first_at_map row_of (λ x. p (row_of x)) p (λ x. refl) w) ∙ ap (first_at p) e in
      let n : length w ≡ length l = sym (length-map w row_of) ∙ ap (λ (r : List Row). length r) e in
      position_of (λ x. p (row_of x)) w ∙ ap₂ (λ (i j : ℕ). pick (ltb i j) (Some i) None) f n ∙ sym (position_of p l)
