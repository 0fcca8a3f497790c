-- A column by a test and a value, each value looked for among those before it, and the whole from what is found of each part: the specs have an Option in
-- place of the test and the value, and one word for the parts, and nothing cites these. Assumes nothing.
use Rattle.std.specs.Prelude.{◌≡◌, refl, ℕ, suc, ◌+◌, ◌<◌, ◌≤◌, Bool, true, false, ◌&&◌, List, [], ◌∷◌, ◌++◌, Option, Some, None, is_some, unwrap_or, map, length, take, drop, ◌==◌, nat_eq, nat_le, slice_index, slice_index_or}
use Rattle.std.specs.Int.{w64}
use Rattle.std.specs.List.{cons_option}
use Rattle.std.proofs.Common.{ap, ap₂, ◌∙◌, append-nil, add-one, arith, length-take, take-suc, get_or-take, take-take, Fits}
use Rattle.std.proofs.lemmas.List.{map-append}
use Rattle.std.proofs.Math.Seq.{split_at}
use Rattle.base.specs.Choice.{pick}
use Rattle.base.specs.Lists.{all, keep, any, has, copies, once}
use Rattle.base.specs.Bytes.{is_bytes}
use Rattle.base.specs.Laws.Tests.{by_test, and_l, and_r, eqb_same}
use Rattle.base.specs.Laws.Keep.{any_keep, keep_append}
use Rattle.base.specs.Laws.Counting.{has_map, has_some, copies_append, once_copies, once_snoc}
use Rattle.names.specs.Names.{Names, sound_names}
use Rattle.request_rows.specs.Rows.{Row}
use Rattle.request_rows.specs.Table.{view_of, live, slots_in}
use Rattle.request_rows.specs.Stands.{memory, sound_r}
use Rattle.request_sound.specs.declared.columns.Column.{Column}
use Rattle.request_sound.specs.Sound.{sound_in, apart, checked, key_in, key_among, column, seen}
use Rattle.request_sound.specs.Laws.Whole as now

module _ {A : Type 0} (f : A → ℕ) (p : A → Bool) where
  pub has_column : (k : ℕ) (l : List A) → has k (map f (keep p l)) ≡ any (λ x. p x && f x == k) l
  has_column k l = has_map f k (keep p l) ∙ any_keep (λ x. nat_eq (f x) k) p l

  abbrev col : List A → List ℕ
  col l = map f (keep p l)

  abbrev among : A → List A → Bool
  among x l = p x && has (f x) (map f (keep p l))

  col_append : (l m : List A) → col (l ++ m) ≡ col l ++ col m
  col_append l m = ap (map f) (keep_append p l m) ∙ map-append f (keep p l) (keep p m)

  more_once : (l : List A) (x : A) → among x l ≡ false → once (col l) ≡ true → once (col (l ++ (x ∷ []))) ≡ true
  more_once l x s o =
      rw (col_append l (x ∷ []))
      (by_test (p x) (λ t. rw t (once_snoc (f x) (col l) (rw t at s) o)) (λ t. rw (t, append-nil (col l)) o))

  two : (l m : List A) (x : A) → among x l ≡ true → 2 ≤ copies (f x) (col (l ++ x ∷ m))
  two l m x s =
      rw (col_append l (x ∷ m), and_l (p x) _ s, copies_append (f x) (col l) (f x ∷ col m), eqb_same (f x))
      (omega (arith, has_some (f x) (col l) (and_r (p x) _ s)))

  -- in a scan of the first n, at place i
  module _ (l : List A) (n i : ℕ) (d : A) (h : i < n) (b : i < length l) where
    pub once_more : among (slice_index_or l i d) (take i l) ≡ false → once (map f (keep p (take i l))) ≡ true → once (map f (keep p (take (i + 1) l))) ≡ true
    once_more s o = rw (add-one i, take-suc l i d b) (more_once (take i l) (slice_index_or l i d) s o)

    -- it stands before and at i
    pub once_not : among (slice_index_or l i d) (take i l) ≡ true → once (map f (keep p (take n l))) ≡ false
    once_not s =
        let r : List A = drop (suc i) (take n l) in
        let e : take n l ≡ take i l ++ slice_index_or l i d ∷ drop (suc i) (take n l) =
        split_at (take n l) i d (rw length-take (omega arith)) ∙ ap₂ (λ (y : A) (k : List A). k ++ y ∷ r) (get_or-take n l i d h) (take-take i n l (omega arith)) in
        rw e
        (by_test (once (col (take i l ++ slice_index_or l i d ∷ r)))
        (λ o. absurd (omega (arith, two (take i l) r (slice_index_or l i d) s, once_copies (col (take i l ++ slice_index_or l i d ∷ r)) o (f (slice_index_or l i d)))))
        (λ o. o))

-- ---- the test and the value of a row in a column

abbrev pub is_in : Column → Row → Bool
is_in which q = is_some (key_in which q)

abbrev pub value_in : Column → Row → ℕ
value_in which q = unwrap_or (key_in which q) 0

pub column_is : (which : Column) (l : List Row) → column which l ≡ map (value_in which) (keep (is_in which) l)
column_is which [] = refl
column_is which (q ∷ l) = one (key_in which q) (column which l) (keep (is_in which) l) (column_is which l) refl
  where
    one : (k : Option ℕ) (r : List ℕ) (s : List Row) → r ≡ map (value_in which) s → k ≡ key_in which q
        → cons_option k r ≡ map (value_in which) (pick (is_some k) (q ∷ s) s)
    one None r s e f = e
    one (Some v) r s e f = let g : v ≡ value_in which q = ap (λ (x : Option ℕ). unwrap_or x 0) f in ap₂ (λ (x : ℕ) (y : List ℕ). x ∷ y) g e

pub seen_is : (which : Column) (q : Row) (l : List Row) → seen which q l ≡ (is_in which q && has (value_in which q) (column which l))
seen_is which q l = one (key_in which q)
  where
    one : (k : Option ℕ) → key_among k (column which l) ≡ (is_some k && has (unwrap_or k 0) (column which l))
    one None = refl
    one (Some v) = refl

-- ---- the whole, from what is found of the parts

pub whole : (p e : Names) (w area : List ℕ) → is_bytes area ≡ true → ((i : ℕ) → Fits w64 (slice_index w i))
    → (slots : ℕ) (a b c d u r : Bool) → slots ≡ slots_in area
    → r ≡ (a && b && c && d && u)
    → a ≡ sound_names p
    → b ≡ sound_names e
    → c ≡ (length (view_of w).register == 1 && nat_le (view_of w).count (length (view_of w).rows))
    → d ≡ all (sound_in p e (view_of w) slots) (live (view_of w))
    → u ≡ apart (live (view_of w))
    → r ≡ sound_r (memory p e (view_of w) area)
whole p e w area bytes words slots a b c d u r hs h ha hb hc hd hu =
    let found : r ≡ checked p e (view_of w) slots = h ∙ rw (ha, hb, hc, hd, hu) in
    now.whole p e w area bytes words slots r hs found
