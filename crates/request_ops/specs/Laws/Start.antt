-- A start, as the code finds it out: what is refused, and what is left. Assumes nothing.
use Rattle.std.specs.Prelude.{◌≡◌, ℕ, ◌+◌, ◌*◌, ◌/◌, ◌<◌, ◌≤◌, Bool, true, false, List, [], ◌∷◌, ◌++◌, length, nat_lt, position, slice_set, refl}
use Rattle.std.specs.Option.{is_some}
use Rattle.std.proofs.Common.{sym, ap, ap₂, ◌∙◌, arith, length-set, lt-ltb, le-ltb}
use Rattle.base.specs.Choice.{pick}
use Rattle.base.specs.Lists.{any}
use Rattle.base.specs.Bytes.{stored}
use Rattle.base.specs.Laws.Tests.{and_none}
use Rattle.model.specs.Plans.{not_unique, no_space, Outcome, fault, done}
use Rattle.model.specs.Interval.{Asked}
use Rattle.names.specs.Names.{Names}
use Rattle.request_rows.specs.declared.Phase.{Phase}
use Rattle.request_rows.specs.Rows.{Row, named, encode}
use Rattle.request_rows.specs.Table.{Requests, view_of, register_of, live, with_live, with_row, slots_in}
use Rattle.request_rows.specs.Start.{begun_at, free_slot, Kept, kept, begin, start_in}
use Rattle.request_rows.specs.Laws.View.{with_count, view_count, live_more}
use Rattle.request_ops.specs.Start.{checked, roomed}
use Rattle.request_ops.specs.Laws.Found.{some_found}

-- ---- the tests in their order

module _ (ps ts : Names) (t : Requests) (area : List ℕ) (a : Asked) where
  abbrev here : Kept
  here = kept t area

  abbrev pub begun : Outcome Kept
  begun = done (begin t area a (free_slot (live t))) 0

  parts : checked ps ts a here (pick (any (named a.name) (live t)) (fault here not_unique) (roomed t area here begun)) ≡ start_in ps ts t area a
  unfolding start_in checked roomed
  parts = refl

  -- before the requests are looked at
  pub start_refused : (x : Outcome Kept) → ((o : Outcome Kept) → x ≡ checked ps ts a here o) → x ≡ start_in ps ts t area a
  start_refused x h = h _ ∙ parts

  module _ (h : (o : Outcome Kept) → o ≡ checked ps ts a here o) (b : Bool) (e : b ≡ is_some (position (named a.name) (live t))) where
    known : b ≡ any (named a.name) (live t)
    known = e ∙ some_found (named a.name) (live t)

    pub start_taken : b ≡ true → fault here not_unique ≡ start_in ps ts t area a
    start_taken f = let k : any (named a.name) (live t) ≡ true = sym known ∙ f in rw k at (h _ ∙ parts)

    pub start_on : b ≡ false → (x : Outcome Kept) → x ≡ roomed t area here begun → x ≡ start_in ps ts t area a
    start_on f x g = let k : any (named a.name) (live t) ≡ false = sym known ∙ f in g ∙ rw k at (h _ ∙ parts)

-- ---- whether there is room

module _ (t : Requests) (area : List ℕ) where
  pub room_there : (k : ℕ) → k ≡ free_slot (live t) → k < length area / 64 → k < 128 → length (live t) < length t.rows → (s : Kept) (o : Outcome Kept) → o ≡ roomed t area s o
  unfolding roomed
  room_there k e a b h s o = rw (lt-ltb (length (live t)) (length t.rows) h, sym e, lt-ltb k (slots_in area) (omega arith))

  pub no_row_left : length t.rows ≤ length (live t) → (s : Kept) (o : Outcome Kept) → fault s no_space ≡ roomed t area s o
  unfolding roomed
  no_row_left h s o = rw (le-ltb (length (live t)) (length t.rows) h)

  pub no_slot_left : slots_in area ≤ free_slot (live t) → (s : Kept) (o : Outcome Kept) → fault s no_space ≡ roomed t area s o
  unfolding roomed
  no_slot_left h s o = rw (le-ltb (free_slot (live t)) (slots_in area) h, sym (and_none (nat_lt (length (live t)) (length t.rows))))

-- ---- what is left

-- one row more: stored, and counted
pub row_more : (w w' : List ℕ) (m : ℕ) (q : Row) → m ≡ length (live (view_of w)) → m < length (view_of w).rows → view_of w' ≡ with_row (view_of w) m q
    → view_of (slice_set w' 1 (m + 1)) ≡ with_live (view_of w) (live (view_of w) ++ (q ∷ []))
row_more w w' m q e h f =
    let n : length (view_of w').rows ≡ length (view_of w).rows = ap (λ (t : Requests). length t.rows) f ∙ length-set (view_of w).rows m q in
    view_count w' (m + 1) (omega arith) ∙ ap (λ (t : Requests). with_count t (m + 1)) f ∙ live_more (view_of w) m q e h

pub begun_with : (w w' area area' : List ℕ) (a : Asked) (m k : ℕ) (p : Phase) → m ≡ length (live (view_of w)) → m < length (view_of w).rows
    → p ≡ begun_at (register_of (view_of w)) a.interval
    → view_of w' ≡ with_row (view_of w) m (encode (record { name = a.name; program = a.program; terminal = a.terminal; phase = p; len = length a.bytes; slot = k }))
    → area' ≡ stored area (k * 64) a.bytes → kept (view_of (slice_set w' 1 (m + 1))) area' ≡ begin (view_of w) area a k
begun_with w w' area area' a m k p e h ep f g = ap₂ kept (row_more w w' m _ e h (f ∙ rw ep)) g
