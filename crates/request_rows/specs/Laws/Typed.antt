-- What slices of words hold is typed as names, and as requests. Assumes nothing.
use Rattle.std.specs.Prelude.{ℕ, ◌^◌, ◌<◌, ◌≡◌, refl, true, List, [], ◌∷◌, length, drop, get_or}
use Rattle.std.proofs.Common.{arith, length-drop, ltb-true}
use Rattle.base.specs.Lists.{all}
use Rattle.base.specs.Laws.Tests.{and_i, both}
use Rattle.base.specs.Laws.Keep.{all_take, all_drop, all_get_d_or}
use Rattle.names.specs.Names as names
use Rattle.request_rows.specs.Rows.{row, rows_of, rest_of}
use Rattle.request_rows.specs.Table.{view_of}
use Rattle.request_rows.specs.Typed.{word, typed_row, TypedNames, TypedRequests}
use Rattle.request_rows.specs.Laws.Words.{length_rows}

-- ---- words as rows

head_typed : (a b c d : ℕ) (w : List ℕ) → all word (a ∷ b ∷ c ∷ d ∷ w) ≡ true → (typed_row (row a b c d) ≡ true) × (all word w ≡ true)
head_typed a b c d w h =
    let p1 = both (word a) (all word (b ∷ c ∷ d ∷ w)) h in
    let p2 = both (word b) (all word (c ∷ d ∷ w)) p1.1 in
    let p3 = both (word c) (all word (d ∷ w)) p2.1 in
    let p4 = both (word d) (all word w) p3.1 in
    (and_i (and_i (and_i p1.0 p2.0) p3.0) p4.0, p4.1)

rows_typed : (w : List ℕ) → all word w ≡ true → all typed_row (rows_of w) ≡ true
rows_typed [] h = refl
rows_typed (a ∷ []) h = refl
rows_typed (a ∷ b ∷ []) h = refl
rows_typed (a ∷ b ∷ c ∷ []) h = refl
rows_typed (a ∷ b ∷ c ∷ d ∷ w) h = let p = head_typed a b c d w h in and_i p.0 (rows_typed w p.1)

rest_typed : (w : List ℕ) → all word w ≡ true → all word (rest_of w) ≡ true
rest_typed [] h = refl
rest_typed (a ∷ []) h = h
rest_typed (a ∷ b ∷ []) h = h
rest_typed (a ∷ b ∷ c ∷ []) h = h
rest_typed (a ∷ b ∷ c ∷ d ∷ w) h = rest_typed w (head_typed a b c d w h).1

-- ---- a slice

module _ (w : List ℕ) (h : all word w ≡ true) (size : length w < 2 ^ 64) where
  at_typed : (i : ℕ) → get_or w i 0 < 2 ^ 64
  at_typed i = ltb-true (get_or w i 0) (2 ^ 64) (all_get_d_or word w i 0 refl h)

  pub names_typed : TypedNames (names.view_of w)
  names_typed = record { count = at_typed 0; size = omega (arith, length-drop 1 w); each = all_drop word 1 w h }

  pub requests_typed : TypedRequests (view_of w)
  requests_typed = record {
    register = all_take word 1 w h;
    count = at_typed 1;
    size = omega (arith, length_rows (drop 2 w), length-drop 2 w);
    each = rows_typed (drop 2 w) (all_drop word 2 w h);
    past = rest_typed (drop 2 w) (all_drop word 2 w h);
  }
