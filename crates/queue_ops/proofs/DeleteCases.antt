-- The cases of a delete, and what is left where a row goes. Assumes nothing.
use mathlib.Core.Path.{◌≡◌, refl, sym, ap, ap₂, ◌∙◌}
use mathlib.Core.Bool.{true, false}
use mathlib.Core.List.{List, ◌++◌, append_assoc}
use Prim.Native.Nat.{ℕ, ◌+◌, ◌-◌, ◌<◌, ◌≤◌, min}
use native.Mathlib.Numerals.{add-one}
use native.Mathlib.Omega.{arith}
use lib.ListN.{length, take, drop, get_or, set, length-take, length-append, length-drop, take-append-drop}
use lib.Seq.{take_at, drop_at, drop-append-le, length-take-le}
use borrow.Author.Tests.{eq-eqb, ne_eqb}
use borrow.Rule.Slice.PartMut.{put_mid, same_len_mid}
use Rattle.base.specs.Lists.{has, over, copies}
use Rattle.base.specs.Bytes.{blank}
use Rattle.base.specs.Laws.Over.{length_over}
use Rattle.slots.specs.Bits.{held}
use Rattle.slots.specs.declared.Used.{Used}
use Rattle.model.specs.Plans.{unknown_queue, invalid_request, fault, done}
use Rattle.words.specs.Rows.{shut}
use Rattle.words.specs.Laws.Shut.{length_shut}
use Rattle.queue_rows.specs.declared.Columns.{Columns}
use Rattle.queue_rows.specs.Table.{Queues, names_of, pointers_of, row_of, entries, owners, places, slots_of, slots_named}
use Rattle.queue_rows.specs.Delete.{less, shut_row, others_than, slots_but, clear_all, emptied, delete_from}
use Rattle.queue_rows.specs.Layout.{Laid, seen}
use Rattle.queue_rows.specs.Laws.DeleteLists.{less_le, but_long, others_long}
use Rattle.queue_rows.specs.Laws.Columns.{with_count, with_used, with_names, with_pointers, Lies, names_lies, pointers_lies, owner_lies, slot_lies, names_put, pointers_put, entries_lent, entries_put, count_stored, used_stored, laid_as}
use Rattle.queue_ops.specs.Row.{less_row}
use Rattle.queue_ops.specs.Sweep.{Swept}
use Rattle.queue_ops.proofs.SweepLaws.{swept_in}
use Rattle.queue_ops.proofs.Seeks.{take_at_most}

-- ---- a row less in a column

-- what is laid over the first m, with what stands behind them, is laid over all
over_live : (x c : List ℕ) (m : ℕ) → length x ≤ m → m ≤ length c → over x (take m c) ++ drop m c ≡ over x c
over_live x c m h g =
    let k : length (take m c) ≡ m = length-take-le m c g in
    append_assoc x (drop (length x) (take m c)) (drop m c)
    ∙ ap (λ (r : List ℕ). x ++ r)
    (sym (drop-append-le (length x) (take m c) (drop m c) (omega arith)) ∙ ap (drop (length x)) (take-append-drop m c))

module _ (c part ys : List ℕ) (m row : ℕ) (g : m ≤ length c) (lent : part ≡ take m c) (is : ys ≡ shut row 1 part) where
  pub shut_long : length ys ≡ m
  shut_long = ap length is ∙ length_shut row 1 part ∙ ap length lent ∙ length-take-le m c g

  pub shut_column : (count : ℕ) → take m c ≡ take count c → ys ++ drop m c ≡ over (less row (take count c)) c
  shut_column count e =
      let l : List ℕ = take m c in
      let k : length (less row l) ≤ m = omega (arith, less_le row l, length-take-le m c g) in
      ap (λ (r : List ℕ). r ++ drop m c) (is ∙ ap (shut row 1) lent ∙ ap (λ (j : ℕ). over (take row l ++ drop j l) l) (add-one row))
      ∙ over_live (less row l) c m k g ∙ ap (λ (r : List ℕ). over (less row r) c) e

-- ---- a row less in the words: the names lent, then the pointers, m of each

module _ (l : Columns) (w : List ℕ) (h : Laid (length w) l) (row m : ℕ) (em : m ≡ min (get_or w 0 0) l.rows) (b : row < m)
    (e f : ℕ) (ee : e ≡ l.names + m) (ef : f ≡ l.pointers + m) (ys : List ℕ) (iy : ys ≡ shut row 1 (take (e - l.names) (drop l.names w))) where
  abbrev once : List ℕ
  once = put_mid l.names (e - l.names) w ys

  abbrev q : Queues
  q = seen l w

  size : e - l.names ≡ m
  size = omega arith

  size2 : f - l.pointers ≡ m
  size2 = omega arith

  few : m ≤ l.rows
  few = omega arith

  long : 3 ≤ length w
  long = omega arith

  names_long : length ys ≡ m
  names_long = shut_long q.names _ ys m row (omega (arith, (names_lies l w h).long)) ((names_lies l w h).lent e m ee few) iy

  pub once_long : length (put_mid l.names (e - l.names) w ys) ≡ length w
  once_long =
      same_len_mid l.names (e - l.names) w ys
      (names_long ∙ sym (ap length ((names_lies l w h).lent e m ee few) ∙ length-take-le m q.names (omega (arith, (names_lies l w h).long))))

  names_less : seen l once ≡ with_names (over (less row (names_of q)) q.names) q
  names_less =
      ap (λ (k : ℕ). seen l (put_mid l.names k w ys)) size ∙ names_put l w h long m ys few names_long
      ∙ ap (λ (c : List ℕ). with_names c q)
      (shut_column q.names _ ys m row (omega (arith, (names_lies l w h).long)) ((names_lies l w h).lent e m ee few) iy q.count
      (take_at_most q.names l.rows q.count m (names_lies l w h).long em))

  pub row_shut : (zs : List ℕ) → zs ≡ shut row 1 (take (f - l.pointers) (drop l.pointers (put_mid l.names (e - l.names) w ys)))
      → seen l (set (put_mid l.pointers (f - l.pointers) (put_mid l.names (e - l.names) w ys) zs) 0 (m - 1)) ≡ less_row (seen l w) row
  row_shut zs iz =
      let h1 : Laid (length once) l = laid_as once_long h in
      let p : Lies once l.pointers l.rows (seen l once).pointers = pointers_lies l once h1 in
      let same : (seen l once).pointers ≡ q.pointers = ap (λ (x : Queues). x.pointers) names_less in
      let lent = p.lent f m ef few in
      let zs-long : length zs ≡ m = shut_long (seen l once).pointers _ zs m row (omega (arith, p.long)) lent iz in
      let twice : List ℕ = put_mid l.pointers (f - l.pointers) once zs in
      let mid : length zs ≡ length (take (f - l.pointers) (drop l.pointers once)) =
      zs-long ∙ sym (ap length lent ∙ length-take-le m (seen l once).pointers (omega (arith, p.long))) in
      let twice-long : length twice ≡ length w = same_len_mid l.pointers (f - l.pointers) once zs mid ∙ once_long in
      let counted : m - 1 ≡ length (names_of q) - 1 = omega (arith, length-take q.count q.names, (names_lies l w h).long) in
      let column : zs ++ drop m (seen l once).pointers ≡ over (less row (pointers_of q)) q.pointers =
      shut_column (seen l once).pointers _ zs m row (omega (arith, p.long)) lent iz q.count
      (take_at_most (seen l once).pointers l.rows q.count m p.long em)
      ∙ ap (λ (c : List ℕ). over (less row (take q.count c)) c) same in
      count_stored l twice (laid_as twice-long h) (m - 1) (omega arith)
      ∙ ap₂ (λ (n : ℕ) (x : Queues). with_count n x) counted
      (ap (λ (k : ℕ). seen l (put_mid l.pointers k once zs)) size2 ∙ pointers_put l once h1 (omega (arith, once_long)) m zs few zs-long
      ∙ ap₂ with_pointers column names_less)

-- ---- the entries of the name gone

part_long : (a k : ℕ) (w : List ℕ) → a + k ≤ length w → length (take k (drop a w)) ≡ k
part_long a k w h = simp (length-take, length-drop) (omega arith)

module _ (l : Columns) (w : List ℕ) (h : Laid (length w) l) (long : 3 ≤ length w) (name n : ℕ) (u v : Used) (j : ℕ) (t : List ℕ)
    (eu : u ≡ (seen l w).used) (en : n ≡ min (held u) l.slots)
    (g : let part = take (l.len - l.owner) (drop l.owner w) in Swept name (take l.slots part) (drop l.slots part) u n v j (take l.slots t) (drop l.slots t)) where
  abbrev p : Queues
  p = seen l w

  swept : Swept name p.owner p.slot u n v j (take l.slots t) (drop l.slots t)
  swept =
      let part : List ℕ = take (l.len - l.owner) (drop l.owner w) in
      let o : take l.slots part ≡ p.owner =
      ap (take l.slots) (entries_lent l w h) ∙ take_at p.owner p.slot l.slots (owner_lies l w h).long in
      let s : drop l.slots part ≡ p.slot =
      ap (drop l.slots) (entries_lent l w h) ∙ drop_at p.owner p.slot l.slots (owner_lies l w h).long in
      swept_in o s refl g

  entries_is : held u ≡ entries p
  entries_is = ap (λ (x : Used). held x) eu

  owners_is : take n p.owner ≡ owners p
  owners_is = take_at_most p.owner l.slots (held u) n (owner_lies l w h).long en ∙ ap (λ (k : ℕ). take k p.owner) entries_is

  places_is : take n p.slot ≡ places p
  places_is = take_at_most p.slot l.slots (held u) n (slot_lies l w h).long en ∙ ap (λ (k : ℕ). take k p.slot) entries_is

  owners_long : length (take n p.owner) ≡ n
  owners_long = length-take-le n p.owner (omega (arith, (owner_lies l w h).long))

  pub stays : j ≤ n
  stays = omega (arith, swept.kept, others_long name (take n p.owner), owners_long)

  pub freed : n - j ≡ copies name (owners p)
  freed =
      let c : copies name (take n p.owner) ≡ copies name (owners p) = ap (copies name) owners_is in
      omega (arith, swept.kept, others_long name (take n p.owner), owners_long)

  -- the columns that are left, as long as they were
  abbrev os : List ℕ
  os = over (others_than name (owners p)) p.owner

  abbrev ss : List ℕ
  ss = over (slots_but name (owners p) (places p)) p.slot

  some_left : length (others_than name (owners p)) ≤ l.slots
  some_left = omega (arith, others_long name (owners p), length-take (entries p) p.owner, (owner_lies l w h).long)

  os_long : length os ≡ l.slots
  os_long = length_over (others_than name (owners p)) p.owner (omega (arith, some_left, (owner_lies l w h).long)) ∙ (owner_lies l w h).long

  ss_long : length ss ≡ l.slots
  ss_long =
      let same : length (owners p) ≡ length (places p) =
      length-take (entries p) p.owner ∙ ap (min (entries p)) ((owner_lies l w h).long ∙ sym (slot_lies l w h).long) ∙ sym (length-take (entries p) p.slot) in
      length_over (slots_but name (owners p) (places p)) p.slot (omega (arith, some_left, but_long name (owners p) (places p) same, (slot_lies l w h).long))
      ∙ (slot_lies l w h).long

  left : t ≡ os ++ ss
  left =
      sym (take-append-drop l.slots t) ∙ ap₂ (λ (x y : List ℕ). x ++ y) swept.owners swept.slots
      ∙ ap₂ (λ (x y : List ℕ). over (others_than name x) p.owner ++ over (slots_but name x y) p.slot) owners_is places_is

  left_used : v ≡ clear_all p.used (slots_named p name)
  left_used =
      swept.used ∙ ap (λ (y : Used). clear_all y (slots_of name (take n p.owner) (take n p.slot))) eu
      ∙ ap₂ (λ (y z : List ℕ). clear_all p.used (slots_of name y z)) owners_is places_is

  pub emptied_left : seen l (set (set (put_mid l.owner (l.len - l.owner) w t) 1 v.lo) 2 v.hi) ≡ emptied (seen l w) name
  unfolding emptied
  emptied_left =
      let size : l.len - l.owner ≡ l.slots + l.slots = omega arith in
      let x : List ℕ = put_mid l.owner (l.slots + l.slots) w (os ++ ss) in
      let mid : length (os ++ ss) ≡ length (take (l.slots + l.slots) (drop l.owner w)) =
      length-append os ss ∙ ap₂ (λ (x y : ℕ). x + y) os_long ss_long ∙ sym (part_long l.owner (l.slots + l.slots) w (omega arith)) in
      let x-long : length x ≡ length w = same_len_mid l.owner (l.slots + l.slots) w (os ++ ss) mid in
      ap₂ (λ (k : ℕ) (y : List ℕ). seen l (set (set (put_mid l.owner k w y) 1 v.lo) 2 v.hi)) size left
      ∙ used_stored l x (laid_as x-long h) v (omega arith)
      ∙ ap₂ with_used left_used (entries_put l w h long os ss os_long ss_long)

-- ---- the cases

module _ (q : Queues) (n : ℕ) where
  pub delete_blank : n ≡ blank 8 → fault q invalid_request ≡ delete_from q n
  unfolding delete_from
  delete_blank e = rw (eq-eqb n (blank 8) e)

  module _ (d : n ≡ blank 8 → ⊥) where
    pub delete_unknown : has n (names_of q) ≡ false → fault q unknown_queue ≡ delete_from q n
    unfolding delete_from
    delete_unknown f = rw (ne_eqb n (blank 8) d, f)

    pub delete_done : has n (names_of q) ≡ true → (p r : Queues) (row freed : ℕ) → row ≡ row_of q n → p ≡ less_row q row → r ≡ emptied p n
        → freed ≡ copies n (owners p) → done r freed ≡ delete_from q n
    unfolding delete_from shut_row
    delete_done t p r row freed er ep ee ef = rw (ne_eqb n (blank 8) d, t, ee, ef, ep, er)
