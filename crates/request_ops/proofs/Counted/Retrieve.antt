-- A retrieve by how many bytes of data there are and by the number of the row that serves: the code has slices and an Option now, and nothing cites
-- these. Assumes nothing.
use Rattle.std.specs.Prelude.{◌≡◌, ℕ, ◌+◌, ◌-◌, ◌*◌, ◌<◌, ◌≤◌, min, Bool, true, false, ◌&&◌, ltb, List, length, take, drop, ◌==◌, nat_le, nat_lt, slice_index_or}
use Rattle.std.proofs.Math.Path.{sym, ap}
use Rattle.std.proofs.Common.{ap₂, ◌∙◌, arith, length-take, length-drop, drop_of_length-le, take-take}
use borrow.Author.Tests.{lt-ltb, le-ltb, leb-true, leb-false}
use Rattle.base.specs.Choice.{pick}
use Rattle.base.specs.Lists.{any, first_at, over}
use Rattle.base.specs.Laws.Tests.{by_test}
use Rattle.base.specs.Laws.Keep.{first_at_any}
use Rattle.base.specs.Laws.Scans.{take_least}
use Rattle.model.specs.Plans.{normal, wrong_length, end_of_data, fault, cut, Outcome}
use Rattle.words.specs.declared.said.Condition.{Condition}
use Rattle.words.specs.declared.said.Said.{Said}
use Rattle.words.specs.Said.{code_of, saying, gave, handed}
use Rattle.words.specs.Laws.Said.{gave_told}
use Rattle.request_rows.specs.declared.Phase.TheVariants.{Active}
use Rattle.request_rows.specs.declared.Request.{Request}
use Rattle.request_rows.specs.Rows.{Row, no_row, is_expired, not_taken, decode, program_of, terminal_of, in_phase}
use Rattle.request_rows.specs.Table.{Requests, view_of, live, with_row}
use Rattle.request_rows.specs.Remove.{remove_at}
use Rattle.request_rows.specs.Retrieve.{has_own, serves, row_at, retrieve_at}
use Rattle.request_rows.specs.Laws.View.{live_at}
use Rattle.request_ops.specs.Retrieve as now
use Rattle.request_ops.specs.Retrieve.{data_in}
use Rattle.request_ops.specs.Laws.Retrieve as laws

-- how many bytes they are, of so many that are lent
abbrev pub size_in : ℕ → Request → ℕ
size_in lent q = min (min q.len 64) (lent - q.slot * 64)

abbrev pub owns : ℕ → Request → Bool
owns lent q = not_taken q.phase && nat_le 1 (size_in lent q)

abbrev pub serving : ℕ → ℕ → ℕ → Request → Bool
serving lent p m q = is_expired q.phase && q.program == p && q.terminal == m && nat_le 1 (size_in lent q)

-- ---- numbers

behind : (at len : ℕ) → at + len - at ≡ len
behind at len = omega arith

lesser : (len full room n : ℕ) → len ≡ min full room → full ≡ n → len ≡ min room n
lesser len full room n e f = omega arith

no_longer : (room n : ℕ) (l : List ℕ) → min room (length (take n l)) ≤ n
no_longer room n l = omega (arith, length-take n l)

-- ---- the data of a request

module _ (area : List ℕ) (q : Request) where
  pub data_size : size_in (length area) q ≡ length (data_in area q)
  data_size = sym (length-take (min q.len 64) (drop (q.slot * 64) area) ∙ ap (min (min q.len 64)) (length-drop (q.slot * 64) area))

  own_size : owns (length area) q ≡ now.owns area q
  own_size = rw data_size

  -- where they begin, or the end
  data_from : (at : ℕ) → at ≡ min (q.slot * 64) (length area) → drop at area ≡ drop (q.slot * 64) area
  data_from at e =
      by_test (nat_le (q.slot * 64) (length area))
      (λ t. let f : at ≡ q.slot * 64 = omega (arith, leb-true (q.slot * 64) (length area) t) in ap (λ (k : ℕ). drop k area) f)
      (λ t.
      let h = leb-false (q.slot * 64) (length area) t in
      drop_of_length-le area {i = at} (omega arith) ∙ sym (drop_of_length-le area {i = q.slot * 64} (omega arith)))

  -- the first of them, as many as there is room for
  pub data_part : (full at len room : ℕ) → full ≡ size_in (length area) q → at ≡ min (q.slot * 64) (length area) → len ≡ min full room
      → take (at + len - at) (drop at area) ≡ take room (data_in area q)
  data_part full at len room ef ea el =
      let n : at + len - at ≡ min room (length (data_in area q)) = behind at len ∙ lesser len full room (length (data_in area q)) el (ef ∙ data_size) in
      let k = no_longer room (min q.len 64) (drop (q.slot * 64) area) in
      ap₂ (λ (i : ℕ) (l : List ℕ). take i l) n (data_from at ea)
      ∙ sym (take-take (min room (length (data_in area q))) (min q.len 64) (drop (q.slot * 64) area) k)
      ∙ take_least room (data_in area q)

  pub at_most : (full len room : ℕ) → full ≡ size_in (length area) q → len ≡ min full room → len ≤ 64
  at_most full len room ef el = omega arith

  -- what is said with them
  pub given : (full at len room : ℕ) → (ef : full ≡ size_in (length area) q) → at ≡ min (q.slot * 64) (length area) → (el : len ≡ min full room)
      → (c : Condition) → code_of c ≡ pick (nat_lt room full) wrong_length normal
      → (b b' : List ℕ) → b' ≡ over (take (length b) (take (at + len - at) (drop at area))) b
      → (s : Requests) → gave (saying c full len (at_most full len room ef el)) s b' ≡ handed (cut s room (data_in area q)) b
  given full at len room ef ea el c ec b b' eb s =
      let k = data_part full at len room ef ea el in
      let d = ef ∙ data_size in
      let n : len ≡ length (take room (data_in area q)) = lesser len full room _ el d ∙ sym (length-take room (data_in area q)) in
      gave_told (saying c full len (at_most full len room ef el)) s (cut s room (data_in area q)) (take room (data_in area q)) b' b
      (rw (ec, d)) n (eb ∙ ap (λ (x : List ℕ). over (take (length b) x) b) k)

-- ---- a row that was read

module _ (area : List ℕ) (r : Row) where
  pub own_row : owns (length area) (decode r) ≡ has_own area r
  own_row = own_size area (decode r)

  pub serves_row : (p m : ℕ) → serving (length area) p m (decode r) ≡ serves area p m r
  serves_row p m = rw (data_size area (decode r))

-- ---- what is said and left

module _ (w area : List ℕ) (i room : ℕ) (q : Request) (e : q ≡ decode (row_at (view_of w) i)) (b : Bool) (eb : b ≡ owns (length area) q) where
  -- by one that gives what there is room for, whatever is left
  abbrev pub Gives : Said → List ℕ → List ℕ → Request → Type 0
  Gives r x y p = (s : Requests) → gave r s x ≡ handed (cut s room (data_in area p)) y

  abbrev pub Retrieved : Said → Requests → List ℕ → List ℕ → Type 0
  Retrieved r t x y = gave r t x ≡ handed (retrieve_at (view_of w) area i room) y

  its_own : b ≡ has_own area (row_at (view_of w) i)
  its_own = eb ∙ ap (owns (length area)) e ∙ own_row area (row_at (view_of w) i)

  pub retrieve_own : b ≡ true → (t : Requests) → t ≡ with_row (view_of w) i (in_phase (Active true) (slice_index_or (view_of w).rows i no_row))
      → (r : Said) (x y : List ℕ) → Gives r x y q → Retrieved r t x y
  retrieve_own = laws.retrieve_own w area i room q e b (eb ∙ own_size area q)

  module _ (f : b ≡ false) (j : ℕ) (ej : j ≡ first_at (serves area q.program q.terminal) (live (view_of w))) where
    abbrev serves_it : Row → Bool
    serves_it = serves area (program_of (row_at (view_of w) i)) (terminal_of (row_at (view_of w) i))

    served : j ≡ first_at serves_it (live (view_of w))
    served = ej ∙ ap (λ (x : Request). first_at (serves area x.program x.terminal) (live (view_of w))) e

    there : any serves_it (live (view_of w)) ≡ nat_lt j (length (live (view_of w)))
    there = first_at_any serves_it (live (view_of w)) ∙ ap (λ (k : ℕ). ltb k (length (live (view_of w)))) (sym served)

    pub retrieve_none : length (live (view_of w)) ≤ j → fault (view_of w) end_of_data ≡ retrieve_at (view_of w) area i room
    unfolding retrieve_at
    retrieve_none h = rw (sym its_own ∙ f, there ∙ le-ltb j (length (live (view_of w))) h)

    module _ (h : j < length (live (view_of w))) (p : Request) (ep : p ≡ decode (slice_index_or (view_of w).rows j no_row)) where
      served_cut : cut (remove_at (view_of w) j) room (data_in area p) ≡ retrieve_at (view_of w) area i room
      unfolding retrieve_at
      served_cut =
          rw (sym its_own ∙ f, there ∙ lt-ltb j (length (live (view_of w))) h, sym served)
          (ap (λ (x : Request). cut (remove_at (view_of w) j) room (data_in area x)) (ep ∙ ap decode (live_at w j h)))

      pub retrieve_served : (t : Requests) → t ≡ remove_at (view_of w) j → (r : Said) (x y : List ℕ) → Gives r x y p → Retrieved r t x y
      retrieve_served t et r x y g = g t ∙ ap (λ (s : Requests). handed (cut s room (data_in area p)) y) et ∙ ap (λ (o : Outcome Requests). handed o y) served_cut
