-- The cases of a read, and the item that is given. Assumes nothing.
use mathlib.Core.Path.{◌≡◌, refl, sym, ap, ap₂, ◌∙◌}
use mathlib.Core.Bool.{true, false}
use mathlib.Core.List.{List}
use Rattle.std.specs.Prelude.{Option, Some, None, MatchOption, position}
use Prim.Native.Nat.{ℕ, ◌+◌, ◌*◌, ◌<◌, ◌≤◌, min}
use native.Mathlib.Omega.{arith}
use lib.Dec.{eqb, leb, ltb}
use lib.ListN.{length, take, drop, get_or, set, length-take, get_or-eq_default}
use lib.Seq.{get_or-take}
use borrow.Author.Tests.{eq-eqb, ne_eqb, le-leb, lt-leb, leb-true, leb-false}
use Rattle.base.specs.Choice.{pick}
use Rattle.base.specs.Lists.{has, over}
use Rattle.base.specs.Bytes.{blank}
use Rattle.base.specs.Laws.Tests.{by_test}
use Rattle.base.specs.Laws.Library.{position_none}
use Rattle.model.specs.Plans.{normal, unknown_queue, no_such_item, wrong_length, invalid_request, Outcome, fault, cut}
use Rattle.words.specs.declared.said.Condition.{Condition}
use Rattle.words.specs.Said.{code_of, saying, gave, handed}
use Rattle.queue_rows.specs.declared.Columns.{Columns}
use Rattle.queue_rows.specs.Table.{Queues, slots_in, names_of, pointers_of, row_of, contents, slots_named}
use Rattle.queue_rows.specs.Place.{slot_in}
use Rattle.queue_rows.specs.Read.{point_to, pointer_of, read_in}
use Rattle.queue_rows.specs.Layout.{Laid, seen}
use Rattle.queue_rows.specs.Laws.Place.{at_found}
use Rattle.queue_rows.specs.Laws.Columns.{with_pointers, names_lies, pointers_lies, slot_lies, len_lies, pointers_stored}
use Rattle.queue_ops.proofs.Seeks.{Named, Lying, row_known, named_few}
use Rattle.queue_ops.proofs.Answers.{item_given}

module _ (q : Queues) (b : List ℕ) (n p room : ℕ) where
  pub read_blank : n ≡ blank 8 → fault q invalid_request ≡ read_in q b n p room
  unfolding read_in
  read_blank e = rw (eq-eqb n (blank 8) e)

  module _ (d : n ≡ blank 8 → ⊥) where
    pub read_unknown : has n (names_of q) ≡ false → fault q unknown_queue ≡ read_in q b n p room
    unfolding read_in
    read_unknown f = rw (ne_eqb n (blank 8) d, f)

    module _ (t : has n (names_of q) ≡ true) where
      pub read_none : slots_in q ≤ slot_in q n p → fault q no_such_item ≡ read_in q b n p room
      unfolding read_in
      read_none h = rw (ne_eqb n (blank 8) d, t, le-leb (slots_in q) (slot_in q n p) h)

      pub read_done : slot_in q n p < slots_in q → cut (point_to q n p) room (contents q b (slot_in q n p)) ≡ read_in q b n p room
      unfolding read_in
      read_done h = rw (ne_eqb n (blank 8) d, t, lt-leb (slots_in q) (slot_in q n p) h)

-- ---- the item at a place is in slot s

-- what the reads ask
pub record Lasts (l : Columns) (w items : List ℕ) (s : ℕ) : Type 0 where
  pub short : get_or w (l.len + s) 0 ≤ 64
  pub ends : s * 64 + 64 ≤ length items

module _ (l : Columns) (w items : List ℕ) (n row p room s : ℕ) (laid : Laid (length w) l) (lent : l.slots * 64 ≤ length items)
    (k : Named (seen l w) n row) (f : Lying (seen l w) n p s) where
  abbrev q : Queues
  q = seen l w

  here : s < l.slots
  here = omega (arith, f.below, (slot_lies l w laid).long)

  pub lasts : Lasts l w items s
  lasts =
      let d = len_lies l w laid in
      let a = at_found q.len (slots_named q n) p (omega (arith, here, f.at, d.long)) in
      let short : get_or q.len s 0 ≤ 64 = rw f.at a.short in
      record { short = omega (arith, d.word s here, short); ends = omega (arith, here) }

  pub row_below : row < l.rows
  row_below = omega (arith, k.below, length-take q.count q.names, (names_lies l w laid).long)

  pointed : seen l (set w (l.pointers + row) p) ≡ point_to q n p
  unfolding point_to
  pointed = pointers_stored l w laid row p row_below ∙ ap (λ (r : ℕ). with_pointers (set q.pointers r p) q) k.at

  pub given : (n ≡ blank 8 → ⊥) → (m : ℕ) (c : Condition) (few : m ≤ 64) (part a b : List ℕ) → m ≡ min (get_or w (l.len + s) 0) room
      → code_of c ≡ pick (ltb room (get_or w (l.len + s) 0)) wrong_length normal
      → part ≡ take m (drop (s * 64) items) → a ≡ over (take (length b) part) b
      → gave (saying c (get_or w (l.len + s) 0) m few) (seen l (set w (l.pointers + row) p)) a ≡ handed (read_in (seen l w) items n p room) b
  given named m c few part a b e fc g o =
      let full : ℕ = get_or w (l.len + s) 0 in
      let item : contents q items s ≡ take full (drop (s * 64) items) = ap (λ (j : ℕ). take j (drop (s * 64) items)) (sym ((len_lies l w laid).word s here)) in
      let at : slot_in q n p < slots_in q = omega (arith, f.at, f.below) in
      item_given items (s * 64) full room m (omega (arith, lasts.short, lasts.ends)) e (seen l (set w (l.pointers + row) p)) c few part a b fc g o
      ∙ ap₂ (λ (x : Queues) (y : List ℕ). handed (cut x room y) b) pointed (sym item ∙ ap (contents q items) f.at)
      ∙ ap (λ (x : Outcome Queues). handed x b) (read_done q items n p room named k.known at)

-- ---- the pointer, and the place behind it

module _ (l : Columns) (w : List ℕ) (h : Laid (length w) l) (n : ℕ) where
  pub pointer_read : (row : Option ℕ) → row ≡ position (λ m. eqb m n) (names_of (seen l w)) → (m : ℕ)
      → MatchOption row (m ≡ 0) (λ r. m ≡ get_or (seen l w).pointers r 0) → m ≡ pointer_of (seen l w) n
  pointer_read None is m e =
      let q = seen l w in
      let none = position_none (λ m. eqb m n) (names_of q) (sym is) in
      let past : length (pointers_of q) ≤ row_of q n =
      omega (
        arith,
        none,
        length-take q.count q.names,
        length-take q.count q.pointers,
        (names_lies l w h).long,
        (pointers_lies l w h).long,
      ) in
      e ∙ sym (get_or-eq_default (pointers_of q) 0 past)
  pointer_read (Some r) is m e =
      let q = seen l w in
      let k = row_known q n (Some r) is r refl in
      let counted : r < q.count = omega (arith, k.below, length-take q.count q.names) in
      e ∙ sym (get_or-take q.count q.pointers r 0 counted) ∙ ap (λ (i : ℕ). get_or (pointers_of q) i 0) k.at

  -- no item stands at a place past as many as there are slots
  past : (p : ℕ) → l.slots < p → slots_in (seen l w) ≤ slot_in (seen l w) n p
  past p b =
      let q = seen l w in
      by_test (leb (slots_in q) (slot_in q n p)) (leb-true (slots_in q) (slot_in q n p))
      (λ e.
      let less : slot_in q n p < slots_in q = leb-false (slots_in q) (slot_in q n p) e in
      let f = at_found q.len (slots_named q n) p (omega (arith, less, (slot_lies l w h).long, (len_lies l w h).long)) in
      absurd (omega (arith, f.to, named_few l w h n)))

  pub read_past : (b : List ℕ) (p r room : ℕ) → l.slots < p → l.slots < r → read_in (seen l w) b n p room ≡ read_in (seen l w) b n r room
  unfolding read_in
  read_past b p r room hp hr =
      let q = seen l w in
      rw (le-leb (slots_in q) (slot_in q n p) (past p hp), le-leb (slots_in q) (slot_in q n r) (past r hr))

  -- the place behind a pointer, or the greatest that there can be
  pub read_behind : l.slots ≤ 128 → (b : List ℕ) (m p room : ℕ) → p ≡ min (m + 1) 18446744073709551615
      → read_in (seen l w) b n p room ≡ read_in (seen l w) b n (m + 1) room
  read_behind few b m p room e =
      by_test (leb (m + 1) 18446744073709551615)
      (λ t.
      let f = leb-true (m + 1) 18446744073709551615 t in
      let g : p ≡ m + 1 = omega arith in
      ap (λ (i : ℕ). read_in (seen l w) b n i room) g)
      (λ t.
      let f = leb-false (m + 1) 18446744073709551615 t in
      read_past b p (m + 1) room (omega arith) (omega arith))
