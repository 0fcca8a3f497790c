-- What the library's methods say of the live rows and entries, in the words of Table. Assumes nothing.
use Rattle.std.specs.Prelude.{◌≡◌, refl, ℕ, suc, ◌+◌, ◌-◌, ◌≤◌, ◌<◌, min, Bool, true, false, ◌&&◌, List, [], ◌∷◌, length, take, drop, get_or, eqb, leb, zip, position, slice_get, Option, Some, None, is_some}
use Rattle.std.specs.List.{list_all}
use Rattle.std.proofs.Common.{sym, ap, ap₂, ◌∙◌, arith, add-one, drop-cons, length-take, eq-eqb, ne_eqb}
use Rattle.base.specs.Choice.{pick}
use Rattle.base.specs.Lists.{has, copies}
use Rattle.base.specs.Laws.Tests.{by_test}
use Rattle.base.specs.Laws.Keep.{first_at_any, first_at_lt}
use Rattle.base.specs.Laws.Library.{position_of}
use Rattle.queues.specs.declared.Queues.{Queues}
use Rattle.queues.specs.Table.{rows_in, names_of, row_of, slots_of}
use Rattle.queues.specs.Sound.{pointed}

module _ (q : Queues) (n : ℕ) where
  -- the row that the search gives
  row_found : position (λ m. eqb m n) (names_of q) ≡ pick (has n (names_of q)) (Some (row_of q n)) None
  row_found = position_of (λ m. eqb m n) (names_of q) ∙ ap (λ (b : Bool). pick b (Some (row_of q n)) None) (sym (first_at_any (λ m. eqb m n) (names_of q)))

  pub row_some : (r : ℕ) → position (λ m. eqb m n) (names_of q) ≡ Some r → (has n (names_of q) ≡ true) × (r ≡ row_of q n)
  row_some r e =
      let f = sym row_found ∙ e in
      by_test (has n (names_of q)) (λ h. let g = rw h at f in (h, (cc))) (λ h. absurd (let g = rw h at f in cc))

  pub row_none : position (λ m. eqb m n) (names_of q) ≡ None → has n (names_of q) ≡ false
  row_none e =
      let f = sym row_found ∙ e in
      by_test (has n (names_of q)) (λ h. absurd (let g = rw h at f in cc)) (λ h. h)

  pub row_is_some : is_some (position (λ m. eqb m n) (names_of q)) ≡ has n (names_of q)
  row_is_some = ap is_some row_found ∙ by_test (has n (names_of q)) (λ h. rw h) (λ h. rw h)

  -- and it is one of the rows
  pub row_within : (r : ℕ) → length q.names ≡ 16 → position (λ m. eqb m n) (names_of q) ≡ Some r → r < rows_in q
  row_within r l e =
      let f = row_some r e in
      omega (arith, f.1, first_at_lt (λ m. eqb m n) (names_of q) f.0, length-take q.count q.names)

-- fronts of lists that are as long
pub fronts_long : (n : ℕ) (os ss : List ℕ) → length os ≡ length ss → length (take n os) ≡ length (take n ss)
fronts_long n os ss e = length-take n os ∙ ap (min n) e ∙ sym (length-take n ss)

-- ---- the search for the slot behind k others, from entry i on

module _ (m : ℕ) (os ss : List ℕ) (i k : ℕ) where
  abbrev pub seek : Option ℕ
  seek = slice_get (slots_of m (drop i os) (drop i ss)) k

  abbrev rest : List ℕ
  rest = slots_of m (drop (i + 1) os) (drop (i + 1) ss)

  module _ (h : i < length os) (g : i < length ss) where
    opened : slots_of m (drop i os) (drop i ss) ≡ pick (eqb (get_or os i 0) m) (get_or ss i 0 ∷ rest) rest
    opened =
        ap₂ (slots_of m) (drop-cons os i 0 h) (drop-cons ss i 0 g)
        ∙ ap (λ (j : ℕ). pick (eqb (get_or os i 0) m) (get_or ss i 0 ∷ slots_of m (drop j os) (drop j ss)) (slots_of m (drop j os) (drop j ss))) (sym (add-one i))

    pub seek_miss : (get_or os i 0 ≡ m → ⊥) → slice_get rest k ≡ seek
    seek_miss d = rw (opened, ne_eqb (get_or os i 0) m d)

    pub seek_past : get_or os i 0 ≡ m → (k ≡ 0 → ⊥) → slice_get rest (k - 1) ≡ seek
    seek_past e d =
        let p : k ≡ suc (k - 1) = omega arith in
        let s : seek ≡ slice_get (slots_of m (drop i os) (drop i ss)) (suc (k - 1)) = ap (slice_get (slots_of m (drop i os) (drop i ss))) p in
        sym (s ∙ rw (opened, eq-eqb (get_or os i 0) m e))

-- ---- the pointers of the rows

pub pointed_is : (os ns ps : List ℕ) → list_all (λ x. leb x.1 (copies x.0 os)) (zip ns ps) ≡ pointed os ns ps
pointed_is os [] ps = refl
pointed_is os (n ∷ ns) [] = refl
pointed_is os (n ∷ ns) (p ∷ ps) = ap (λ b. leb p (copies n os) && b) (pointed_is os ns ps)

-- ---- how many items there are

copies_le : (n : ℕ) (l : List ℕ) → copies n l ≤ length l
copies_le n [] = omega arith
copies_le n (m ∷ l) = by_test (eqb m n) (λ e. rw e (omega (arith, copies_le n l))) (λ e. rw e (omega (arith, copies_le n l)))

pub few_copies : (n e : ℕ) (l : List ℕ) → copies n (take e l) ≤ length l
few_copies n e l = omega (arith, copies_le n (take e l), length-take e l)
