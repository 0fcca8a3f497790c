-- The soundness check, part by part: names, the phase of a row, a row, and what a row has in a column. Assumes nothing.
use Rattle.std.proofs.Common.{◌≡◌, ℕ, suc, ◌+◌, ◌^◌, ◌<◌, ◌≤◌, Bool, true, false, not, ◌&&◌, ◌||◌, Option, Some, None, List, [], ◌∷◌, ◌++◌, map, length, get_or, take, drop, eqb, ltb, leb, sym, refl, ap, ◌∙◌, arith, add-one, add_comm, zero-add, append-nil, length-take-le, take-suc, w8, Fits, lt-ltb, ne_eqb, leb-true}
use Rattle.std.proofs.Math.Seq.{take-length, split_at}
use Rattle.std.specs.List.{list_any}
use Rattle.base.specs.Lists.{keep, all, has, copies, once}
use Rattle.base.specs.Bytes.{is_byte, is_bytes, blank, is_name}
use Rattle.base.specs.Laws.Tests.{by_test, is_false, and_i, eqb_same, leb_add, ltb_add}
use Rattle.base.specs.Laws.Bytes.{is_bytes_take}
use Rattle.base.specs.Laws.Keep.{keep_append, all_append, any_keep, all_by_get_d}
use Rattle.base.specs.Laws.Counting.{copies_append, has_some, once_copies, once_snoc, has_map}
use Rattle.base.specs.Laws.Maps.{map-append}
use Rattle.base.specs.Laws.Scans.{once_miss}
use Rattle.base.specs.Laws.Library.{any_of}
use Rattle.model.specs.Limits.{cabinet, is_data}
use Rattle.model.specs.Interval as model
use Rattle.interval.specs.declared.Phase.{Phase}
use Rattle.interval.specs.declared.Phase.TheVariants.{Waiting, Expired, Active}
use Rattle.interval.specs.declared.Request.{Request}
use Rattle.interval.specs.declared.sound.Column.{Column}
use Rattle.interval.specs.Circle.{to_go}
use Rattle.interval.specs.Stands.{phase_at}
use Rattle.interval.specs.Rows.{data_of, out_row}
use Rattle.interval.specs.Sound.{phase_fits, sound_row, is_in, value_in, key_of, column}

and_true : (a : Bool) → a ≡ (a && true)
and_true true = refl
and_true false = refl

-- ---- names: at most so many, none twice, none blank

pub name_hit : (x : ℕ) → x < 2 ^ 32 → (x ≡ blank 4 → ⊥) → is_name 4 x ≡ true
name_hit x h n = and_i (lt-ltb x (256 ^ 4) h) (ap not (ne_eqb x (blank 4) n))

module _ (known : List ℕ) (i : ℕ) (h : i < length known) where
  abbrev name_here : ℕ
  name_here = get_or known i 0

  pub name_once : has name_here (take i known) ≡ false → once (take i known) ≡ true → once (take (i + 1) known) ≡ true
  name_once n o = rw (add-one i, take-suc known i 0 h) (once_snoc name_here (take i known) n o)

  pub name_named : is_name 4 name_here ≡ true → all (is_name 4) (take i known) ≡ true → all (is_name 4) (take (i + 1) known) ≡ true
  name_named n o =
      rw (add-one i, take-suc known i 0 h, all_append (is_name 4) (take i known) (name_here ∷ [])) (and_i o (and_i n refl))

  pub name_twice : has name_here (take i known) ≡ true → (a b : Bool) → false ≡ (a && once known && b)
  name_twice n a b =
      let e : once known ≡ false = sym (ap once (take-length known)) ∙ once_miss known (length known) i h h n in
      rw e (by_test a (λ t. rw t) (λ t. rw t))

-- ---- the phase of a row

-- the register's tick and those ahead of it
ltb_ahead : (r g : ℕ) → ltb r (r + g) ≡ leb 1 g
ltb_ahead r g = rw (add_comm r g) (rw (zero-add r) at (ltb_add r 0 g))

leb_ahead : (r g k : ℕ) → leb (r + g) (r + k) ≡ leb g k
leb_ahead r g k = rw (add_comm r g, add_comm r k) (leb_add r g k)

pub phase_is : (r : ℕ) (b : List ℕ) (p : Phase) → model.sound_phase cabinet r b (phase_at r r p) ≡ phase_fits r (length b) p
phase_is r b (Waiting d) = rw (ltb_ahead r (to_go d r), leb_ahead r (to_go d r) 359_999_000)
phase_is r b Expired = refl
phase_is r b (Active t) = refl

-- ---- a row

pub byte : {n : ℕ} → Fits w8 n → n < 256
byte f = f.fits

pub bytes_are : (l : List ℕ) → ((i : ℕ) → get_or l i 0 < 256) → is_bytes l ≡ true
bytes_are l h = all_by_get_d is_byte 0 l (λ i. lt-ltb (get_or l i 0) 256 (h i))

module _ (r : ℕ) (program terminal : Bool) (q : Request)
    (long : length q.bytes ≡ 64) (bytes : is_bytes q.bytes ≡ true) (word : q.name < 2 ^ 64) where
  abbrev row : Bool
  row = leb q.len 64 && not (eqb q.name (blank 8)) && program && (eqb q.terminal (blank 4) || terminal) && phase_fits r q.len q.phase

  row_is : row ≡ sound_row r program terminal q
  unfolding sound_row
  row_is =
      by_test (leb q.len 64)
      (λ e.
      let n : length (data_of q) ≡ q.len = length-take-le q.len q.bytes (omega (arith, leb-true q.len 64 e)) in
      let d : is_data cabinet (data_of q) ≡ true = and_i (ap (λ (k : ℕ). leb k 64) n ∙ e) (is_bytes_take q.len q.bytes bytes) in
      let p : model.sound_phase cabinet r (data_of q) (phase_at r r q.phase) ≡ phase_fits r q.len q.phase =
      phase_is r (data_of q) q.phase ∙ ap (λ (k : ℕ). phase_fits r k q.phase) n in
      rw (e, lt-ltb q.name (256 ^ 8) word, d, p)
      (ap (λ (x : Bool). x && phase_fits r q.len q.phase)
      (and_true (not (eqb q.name (blank 8)) && program && (eqb q.terminal (blank 4) || terminal)))))
      (λ e. rw e)

  pub row_answer : (z : Bool) → z ≡ row → z ≡ sound_row r program terminal q
  row_answer z h = h ∙ row_is

-- ---- what rows have in a column

module _ (c : Column) (l : List Request) where
  pub taken_is : (k : ℕ) → list_any (λ (q : Request). is_in c q && eqb (value_in c q) k) l ≡ has k (column c l)
  taken_is k =
      any_of (λ (q : Request). is_in c q && eqb (value_in c q) k) l
      ∙ sym (has_map (value_in c) k (keep (is_in c) l) ∙ any_keep (λ (q : Request). eqb (value_in c q) k) (is_in c) l)

  module _ (i : ℕ) (h : i < length l) where
    abbrev passed : List ℕ
    passed = column c (take i l)

    abbrev row_here : Request
    row_here = get_or l i out_row

    column_more : column c (take (i + 1) l) ≡ passed ++ map (value_in c) (keep (is_in c) (row_here ∷ []))
    column_more =
        ap (λ (k : ℕ). column c (take k l)) (add-one i)
        ∙ ap (column c) (take-suc l i out_row h)
        ∙ ap (map (value_in c)) (keep_append (is_in c) (take i l) (row_here ∷ []))
        ∙ map-append (value_in c) (keep (is_in c) (take i l)) (keep (is_in c) (row_here ∷ []))

    pub nothing_here : None ≡ key_of c row_here → once passed ≡ true → once (column c (take (i + 1) l)) ≡ true
    nothing_here e o =
        by_test (is_in c row_here)
        (λ t. let f : ◌≡◌ {A = Option ℕ} None (Some (value_in c row_here)) = rw t at e in absurd cc)
        (λ t. rw (column_more, t, append-nil passed) o)

    module _ (k : ℕ) (e : Some k ≡ key_of c row_here) where
      key_here : (is_in c row_here ≡ true) × (value_in c row_here ≡ k)
      key_here =
          by_test (is_in c row_here)
          (λ t. let f : Some k ≡ Some (value_in c row_here) = rw t at e in (t, cc))
          (λ t. let f : ◌≡◌ {A = Option ℕ} (Some k) None = rw t at e in absurd cc)

      pub key_new : has k passed ≡ false → once passed ≡ true → once (column c (take (i + 1) l)) ≡ true
      key_new n o = rw (column_more, key_here.0, key_here.1) (once_snoc k passed n o)

      -- it stands before and here
      pub key_twice : has k passed ≡ true → once (column c l) ≡ false
      key_twice n =
          let rest : List Request = drop (suc i) l in
          let cut : l ≡ take i l ++ (row_here ∷ rest) = split_at l i out_row h in
          let is : column c l ≡ passed ++ (k ∷ column c rest) =
          ap (column c) cut ∙ ap (map (value_in c)) (keep_append (is_in c) (take i l) (row_here ∷ rest))
          ∙ map-append (value_in c) (keep (is_in c) (take i l)) (keep (is_in c) (row_here ∷ rest))
          ∙ rw (key_here.0, key_here.1) in
          let two : 2 ≤ copies k (column c l) = rw (is, copies_append k passed (k ∷ column c rest), eqb_same k) (omega (arith, has_some k passed n)) in
          is_false (once (column c l)) (λ o. omega (arith, two, once_copies (column c l) o k))
