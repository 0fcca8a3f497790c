-- The columns of the words: what is lent of them, a word read, and what is seen where a word is stored or a part comes back: one column is
-- changed, and no other. Assumes nothing.
use Rattle.std.specs.Prelude.{ℕ, ◌+◌, ◌-◌, ◌<◌, ◌≤◌, min, ◌≡◌, List, ◌++◌, leb, length, take, drop, get_or, set}
use Rattle.std.proofs.Common.{sym, ap, ap₂, ◌∙◌, subst, append_assoc, arith, length-append, length-take, length-drop, length-set, take-take, take-add, drop-drop, get_or-take, get_or-drop, get_or-set_same, get_or-set_other, take_at, drop_at, leb-true, leb-false}
use Rattle.std.proofs.Math.Seq.{take-set-lt}
use Rattle.std.proofs.lemmas.List.{drop-set-add}
use borrow.Rule.Slice.PartMut.{put_mid}
use Rattle.base.specs.Laws.Tests.{by_test}
use Rattle.slots.specs.declared.Used.{Used}
use Rattle.queue_rows.specs.declared.Columns.{Columns}
use Rattle.queue_rows.specs.Table.{Queues, columns, view_of}
use Rattle.queue_rows.specs.Layout.{Laid, Sized, seen}
use Rattle.queue_rows.specs.Laws.Apart.{Apart, word_before, word_behind, part_before, part_behind, left_behind, set_apart, left_put, put_apart, part_put}

-- ---- queues with one field another

abbrev pub with_count : ℕ → Queues → Queues
with_count n q = record { count = n; used = q.used; names = q.names; pointers = q.pointers; owner = q.owner; slot = q.slot; len = q.len; past = q.past }

abbrev pub with_used : Used → Queues → Queues
with_used u q = record { count = q.count; used = u; names = q.names; pointers = q.pointers; owner = q.owner; slot = q.slot; len = q.len; past = q.past }

abbrev pub with_names : List ℕ → Queues → Queues
with_names l q = record { count = q.count; used = q.used; names = l; pointers = q.pointers; owner = q.owner; slot = q.slot; len = q.len; past = q.past }

abbrev pub with_pointers : List ℕ → Queues → Queues
with_pointers l q = record { count = q.count; used = q.used; names = q.names; pointers = l; owner = q.owner; slot = q.slot; len = q.len; past = q.past }

abbrev pub with_owner : List ℕ → Queues → Queues
with_owner l q = record { count = q.count; used = q.used; names = q.names; pointers = q.pointers; owner = l; slot = q.slot; len = q.len; past = q.past }

abbrev pub with_slot : List ℕ → Queues → Queues
with_slot l q = record { count = q.count; used = q.used; names = q.names; pointers = q.pointers; owner = q.owner; slot = l; len = q.len; past = q.past }

abbrev pub with_len : List ℕ → Queues → Queues
with_len l q = record { count = q.count; used = q.used; names = q.names; pointers = q.pointers; owner = q.owner; slot = q.slot; len = l; past = q.past }

-- ---- what is seen in words that differ in one column alone

-- the head is the same; the columns of the rows; those of the entries, and what stands past them
record Heads (p q : Queues) : Type 0 where
  count : p.count ≡ q.count
  used : p.used ≡ q.used

record Rows (p q : Queues) : Type 0 where
  names : p.names ≡ q.names
  pointers : p.pointers ≡ q.pointers

record Entries (p q : Queues) : Type 0 where
  owner : p.owner ≡ q.owner
  slot : p.slot ≡ q.slot
  len : p.len ≡ q.len
  past : p.past ≡ q.past

module _ (Q S : ℕ) {a k : ℕ} {w v : List ℕ} (s : Apart a k w v) where
  abbrev old : Queues
  old = columns Q S w

  abbrev new : Queues
  new = columns Q S v

  heads : 3 ≤ a → Heads new old
  heads h = record { count = word_before s 0 (omega arith); used = cc (word_before s 1 (omega arith), word_before s 2 (omega arith)) }

  rows_before : 3 + Q + Q ≤ a → Rows new old
  rows_before h = record { names = part_before s 3 Q (omega arith); pointers = part_before s (3 + Q) Q (omega arith) }

  rows_behind : a + k ≤ 3 → Rows new old
  rows_behind h = record { names = part_behind s 3 Q (omega arith); pointers = part_behind s (3 + Q) Q (omega arith) }

  past_same : a + k ≤ 3 + Q + Q + S + S + S → new.past ≡ old.past
  past_same h = left_behind s (3 + Q + Q + S + S + S) h

  entries_behind : a + k ≤ 3 + Q + Q → Entries new old
  entries_behind h = record {
    owner = part_behind s (3 + Q + Q) S h;
    slot = part_behind s (3 + Q + Q + S) S (omega arith);
    len = part_behind s (3 + Q + Q + S + S) S (omega arith);
    past = past_same (omega arith);
  }

module _ (Q S : ℕ) {w v : List ℕ} where
  count_only : Apart 0 1 w v → columns Q S v ≡ with_count (get_or v 0 0) (columns Q S w)
  count_only s =
      let r = rows_behind Q S s (omega arith) in
      let e = entries_behind Q S s (omega arith) in
      cc (word_behind s 1 (omega arith), word_behind s 2 (omega arith))

  used_only : Apart 1 2 w v → columns Q S v ≡ with_used (record { lo = get_or v 1 0; hi = get_or v 2 0 }) (columns Q S w)
  used_only s =
      let r = rows_behind Q S s (omega arith) in
      let e = entries_behind Q S s (omega arith) in
      cc (word_before s 0 (omega arith))

  names_only : Apart 3 Q w v → columns Q S v ≡ with_names (take Q (drop 3 v)) (columns Q S w)
  names_only s =
      let h = heads Q S s (omega arith) in
      let e = entries_behind Q S s (omega arith) in
      cc (part_behind s (3 + Q) Q (omega arith))

  pointers_only : Apart (3 + Q) Q w v → columns Q S v ≡ with_pointers (take Q (drop (3 + Q) v)) (columns Q S w)
  pointers_only s =
      let h = heads Q S s (omega arith) in
      let e = entries_behind Q S s (omega arith) in
      cc (part_before s 3 Q (omega arith))

  owner_only : Apart (3 + Q + Q) S w v → columns Q S v ≡ with_owner (take S (drop (3 + Q + Q) v)) (columns Q S w)
  owner_only s =
      let h = heads Q S s (omega arith) in
      let r = rows_before Q S s (omega arith) in
      let p = past_same Q S s (omega arith) in
      cc (part_behind s (3 + Q + Q + S) S (omega arith), part_behind s (3 + Q + Q + S + S) S (omega arith))

  slot_only : Apart (3 + Q + Q + S) S w v → columns Q S v ≡ with_slot (take S (drop (3 + Q + Q + S) v)) (columns Q S w)
  slot_only s =
      let h = heads Q S s (omega arith) in
      let r = rows_before Q S s (omega arith) in
      let p = past_same Q S s (omega arith) in
      cc (part_before s (3 + Q + Q) S (omega arith), part_behind s (3 + Q + Q + S + S) S (omega arith))

  len_only : Apart (3 + Q + Q + S + S) S w v → columns Q S v ≡ with_len (take S (drop (3 + Q + Q + S + S) v)) (columns Q S w)
  len_only s =
      let h = heads Q S s (omega arith) in
      let r = rows_before Q S s (omega arith) in
      let p = past_same Q S s (omega arith) in
      cc (part_before s (3 + Q + Q) S (omega arith), part_before s (3 + Q + Q + S) S (omega arith))

  -- or in two
  entries_only : Apart (3 + Q + Q) (S + S) w v
      → columns Q S v ≡ with_owner (take S (drop (3 + Q + Q) v)) (with_slot (take S (drop (3 + Q + Q + S) v)) (columns Q S w))
  entries_only s =
      let h = heads Q S s (omega arith) in
      let r = rows_before Q S s (omega arith) in
      let p = past_same Q S s (omega arith) in
      cc (part_behind s (3 + Q + Q + S + S) S (omega arith))

-- ---- a column of k words, behind x words of other columns: the code has it from a on, the definition from t on

record Place (w : List ℕ) (x k a t : ℕ) : Type 0 where
  from : a ≡ min 3 (length w) + x
  fits : a + k ≤ length w
  to : t ≡ 3 + x

module _ {w : List ℕ} {x k a t : ℕ} (p : Place w x k a t) where
  -- where it has a word, or there is a head, the two are one
  column_here : {i : ℕ} → i < k → a ≡ t
  column_here h = omega arith

  column_at : 3 ≤ length w → a ≡ t
  column_at h = omega arith

  column_lent : (e m : ℕ) → e ≡ a + m → m ≤ k → take (e - a) (drop a w) ≡ take m (take k (drop t w))
  column_lent e m f h =
      let n : e - a ≡ m = omega arith in
      ap (λ (j : ℕ). take j (drop a w)) n
      ∙ by_test (leb 1 m)
      (λ b.
      let some : 0 < k = omega (arith, leb-true 1 m b) in
      ap (λ (j : ℕ). take m (drop j w)) (column_here some) ∙ sym (take-take m k (drop t w) h))
      (λ b. let z : m ≡ 0 = omega (arith, leb-false 1 m b) in rw z)

  column_word : (i : ℕ) → i < k → get_or w (a + i) 0 ≡ get_or (take k (drop t w)) i 0
  column_word i h =
      ap (λ (j : ℕ). get_or w (j + i) 0) (column_here h) ∙ sym (get_or-drop t w i 0) ∙ sym (get_or-take k (drop t w) i 0 h)

  -- a word of it stored
  module _ (i y : ℕ) (h : i < k) where
    column_set : take k (drop t (set w (a + i) y)) ≡ set (take k (drop t w)) i y
    column_set =
        ap (λ (j : ℕ). take k (drop t (set w (j + i) y))) (column_here h) ∙ ap (take k) (drop-set-add t w i y) ∙ take-set-lt k (drop t w) i y h

    column_apart : Apart t k w (set w (a + i) y)
    column_apart = set_apart t k w (a + i) y (omega (arith, column_here h)) (omega (arith, column_here h))

  -- its first m words put
  module _ (long : 3 ≤ length w) (m : ℕ) (ys : List ℕ) (b : m ≤ k) (e : length ys ≡ m) where
    column_put : take k (drop t (put_mid a m w ys)) ≡ ys ++ drop m (take k (drop t w))
    column_put =
        subst (λ (j : ℕ). take k (drop j (put_mid a m w ys)) ≡ ys ++ drop m (take k (drop j w))) (column_at long) (part_put a m w ys (omega arith) e k b)

    column_put_apart : Apart t k w (put_mid a m w ys)
    column_put_apart = put_apart a m w ys (omega arith) e t k (omega (arith, column_at long)) (omega (arith, column_at long))

-- how the k words from a on are a column
pub record Lies (w : List ℕ) (a k : ℕ) (c : List ℕ) : Type 0 where
  pub long : length c ≡ k
  pub inside : a + k ≤ length w
  -- its first m words lent, all of it lent, a word of it
  pub lent : (e m : ℕ) → e ≡ a + m → m ≤ k → take (e - a) (drop a w) ≡ take m c
  pub whole : (e : ℕ) → e ≡ a + k → take (e - a) (drop a w) ≡ c
  pub word : (i : ℕ) → i < k → get_or w (a + i) 0 ≡ get_or c i 0

lies : {w : List ℕ} {x k a t : ℕ} → Place w x k a t → Lies w a k (take k (drop t w))
lies {w} {x} {k} {a} {t} p = record {
  long = simp (length-take, length-drop) (omega arith);
  inside = p.fits;
  lent = column_lent p;
  whole = λ e f. column_lent p e k f (omega arith) ∙ take-take k k (drop t w) (omega arith);
  word = column_word p;
}

-- ---- of words that are laid out

module _ (l : Columns) (w : List ℕ) (h : Laid (length w) l) where
  abbrev Q : ℕ
  Q = l.rows

  abbrev S : ℕ
  S = l.slots

  names_at : Place w 0 Q l.names 3
  names_at = record { from = omega arith; fits = omega arith; to = omega arith }

  pointers_at : Place w Q Q l.pointers (3 + Q)
  pointers_at = record { from = omega arith; fits = omega arith; to = omega arith }

  owner_at : Place w (Q + Q) S l.owner (3 + Q + Q)
  owner_at = record { from = omega arith; fits = omega arith; to = omega arith }

  slot_at_lem : Place w (Q + Q + S) S l.slot (3 + Q + Q + S)
  slot_at_lem = record { from = omega arith; fits = omega arith; to = omega arith }

  len_at : Place w (Q + Q + S + S) S l.len (3 + Q + Q + S + S)
  len_at = record { from = omega arith; fits = omega arith; to = omega arith }

  pub names_lies : Lies w l.names l.rows (seen l w).names
  names_lies = lies names_at

  pub pointers_lies : Lies w l.pointers l.rows (seen l w).pointers
  pointers_lies = lies pointers_at

  pub owner_lies : Lies w l.owner l.slots (seen l w).owner
  owner_lies = lies owner_at

  pub slot_lies : Lies w l.slot l.slots (seen l w).slot
  slot_lies = lies slot_at_lem

  pub len_lies : Lies w l.len l.slots (seen l w).len
  len_lies = lies len_at

  -- the columns of the entries stand side by side
  pub entries_lent : take (l.len - l.owner) (drop l.owner w) ≡ (seen l w).owner ++ (seen l w).slot
  entries_lent =
      let size : l.len - l.owner ≡ S + S = omega arith in
      let one : l.slot - l.owner ≡ S = omega arith in
      let two : l.len - l.slot ≡ S = omega arith in
      ap (λ (k : ℕ). take k (drop l.owner w)) size ∙ take-add S S (drop l.owner w)
      ∙ ap₂ (λ (x y : List ℕ). x ++ y)
      (ap (λ (k : ℕ). take k (drop l.owner w)) (sym one) ∙ owner_lies.whole l.slot h.slot)
      (ap (take S) (drop-drop S l.owner w ∙ ap (λ (k : ℕ). drop k w) (sym h.slot))
      ∙ ap (λ (k : ℕ). take k (drop l.slot w)) (sym two) ∙ slot_lies.whole l.len h.len)

  -- ---- a word stored

  module _ (i y : ℕ) where
    pub names_stored : i < l.rows → seen l (set w (l.names + i) y) ≡ with_names (set (seen l w).names i y) (seen l w)
    names_stored b = names_only Q S (column_apart names_at i y b) ∙ ap (λ (c : List ℕ). with_names c (seen l w)) (column_set names_at i y b)

    pub pointers_stored : i < l.rows → seen l (set w (l.pointers + i) y) ≡ with_pointers (set (seen l w).pointers i y) (seen l w)
    pointers_stored b =
        pointers_only Q S (column_apart pointers_at i y b) ∙ ap (λ (c : List ℕ). with_pointers c (seen l w)) (column_set pointers_at i y b)

    pub owner_stored : i < l.slots → seen l (set w (l.owner + i) y) ≡ with_owner (set (seen l w).owner i y) (seen l w)
    owner_stored b = owner_only Q S (column_apart owner_at i y b) ∙ ap (λ (c : List ℕ). with_owner c (seen l w)) (column_set owner_at i y b)

    pub slot_stored : i < l.slots → seen l (set w (l.slot + i) y) ≡ with_slot (set (seen l w).slot i y) (seen l w)
    slot_stored b = slot_only Q S (column_apart slot_at_lem i y b) ∙ ap (λ (c : List ℕ). with_slot c (seen l w)) (column_set slot_at_lem i y b)

    pub len_stored : i < l.slots → seen l (set w (l.len + i) y) ≡ with_len (set (seen l w).len i y) (seen l w)
    len_stored b = len_only Q S (column_apart len_at i y b) ∙ ap (λ (c : List ℕ). with_len c (seen l w)) (column_set len_at i y b)

  pub count_stored : (y : ℕ) → 0 < length w → seen l (set w 0 y) ≡ with_count y (seen l w)
  count_stored y b =
      count_only Q S (set_apart 0 1 w 0 y (omega arith) (omega arith)) ∙ ap (λ (n : ℕ). with_count n (seen l w)) (get_or-set_same w 0 y 0 b)

  pub used_stored : (u : Used) → 2 < length w → seen l (set (set w 1 u.lo) 2 u.hi) ≡ with_used u (seen l w)
  used_stored u b =
      let v : List ℕ = set w 1 u.lo in
      let one = set_apart 1 2 w 1 u.lo (omega arith) (omega arith) in
      let two = set_apart 1 2 v 2 u.hi (omega arith) (omega arith) in
      let low : get_or (set v 2 u.hi) 1 0 ≡ u.lo =
      get_or-set_other v 2 1 u.hi 0 (λ e. omega arith) ∙ get_or-set_same w 1 u.lo 0 (omega arith) in
      let high : get_or (set v 2 u.hi) 2 0 ≡ u.hi = get_or-set_same v 2 u.hi 0 (simp length-set b) in
      used_only Q S (record { before = two.before ∙ one.before; behind = two.behind ∙ one.behind })
      ∙ ap₂ (λ (x y : ℕ). with_used (record { lo = x; hi = y }) (seen l w)) low high

  -- ---- the first words of a column put, and both columns of the entries

  module _ (long : 3 ≤ length w) where
    module _ (m : ℕ) (ys : List ℕ) (b : m ≤ l.rows) (e : length ys ≡ m) where
      pub names_put : seen l (put_mid l.names m w ys) ≡ with_names (ys ++ drop m (seen l w).names) (seen l w)
      names_put =
          names_only Q S (column_put_apart names_at long m ys b e) ∙ ap (λ (c : List ℕ). with_names c (seen l w)) (column_put names_at long m ys b e)

      pub pointers_put : seen l (put_mid l.pointers m w ys) ≡ with_pointers (ys ++ drop m (seen l w).pointers) (seen l w)
      pointers_put =
          pointers_only Q S (column_put_apart pointers_at long m ys b e)
          ∙ ap (λ (c : List ℕ). with_pointers c (seen l w)) (column_put pointers_at long m ys b e)

    pub entries_put : (os ss : List ℕ) → length os ≡ l.slots → length ss ≡ l.slots
        → seen l (put_mid l.owner (l.slots + l.slots) w (os ++ ss)) ≡ with_owner os (with_slot ss (seen l w))
    entries_put os ss eo es =
        let t : ℕ = 3 + Q + Q in
        let v : List ℕ = put_mid l.owner (S + S) w (os ++ ss) in
        let rest : List ℕ = drop (S + S) (drop l.owner w) in
        let n : length (os ++ ss) ≡ S + S = simp length-append (omega arith) in
        let at : l.owner ≡ t = column_at owner_at long in
        let both : drop t v ≡ os ++ (ss ++ rest) =
        ap (λ (j : ℕ). drop j v) (sym at) ∙ left_put l.owner (S + S) w (os ++ ss) (omega arith) n ∙ append_assoc os ss rest in
        let first : take S (drop t v) ≡ os = ap (take S) both ∙ take_at os (ss ++ rest) S eo in
        let second : take S (drop (t + S) v) ≡ ss =
        ap (take S) (sym (drop-drop S t v) ∙ ap (drop S) both ∙ drop_at os (ss ++ rest) S eo) ∙ take_at ss rest S es in
        entries_only Q S (put_apart l.owner (S + S) w (os ++ ss) (omega arith) n t (S + S) (omega arith) (omega arith))
        ∙ ap₂ (λ (x y : List ℕ). with_owner x (with_slot y (seen l w))) first second

-- ---- as many words are laid out alike, and the view is what is seen where the layout has its sizes

pub laid_as : {l : Columns} {m n : ℕ} → m ≡ n → Laid n l → Laid m l
laid_as {l} e h = subst (λ (k : ℕ). Laid k l) (sym e) h

pub sees : (l : Columns) (w : List ℕ) (n bytes : ℕ) → length w ≡ n → Sized n bytes l → view_of w bytes ≡ seen l w
sees l w n bytes e z = rw (e, ← z.rows, ← z.slots)
