-- A retrieve, as the code finds it out: who serves, and what is said and left. Assumes nothing.
use Rattle.std.specs.Prelude.{◌≡◌, ℕ, ◌<◌, Bool, true, false, List, length, ◌≢◌, nat_lt, Some, None, position, slice_index_or}
use Rattle.std.proofs.Common.{sym, ap, ap₂, ◌∙◌}
use borrow.Author.Tests.{ltb-true, ltb-false}
use Rattle.base.specs.Laws.Tests.{by_test, no}
use Rattle.model.specs.Plans.{end_of_data, fault, cut, Outcome}
use Rattle.words.specs.declared.said.Said.{Said}
use Rattle.words.specs.Said.{gave, handed}
use Rattle.request_rows.specs.declared.Phase.TheVariants.{Active}
use Rattle.request_rows.specs.declared.Request.{Request}
use Rattle.request_rows.specs.Rows.{Row, no_row, decode, phase_of, program_of, terminal_of, in_phase}
use Rattle.request_rows.specs.Table.{Requests, view_of, live, with_row}
use Rattle.request_rows.specs.Remove.{remove_at}
use Rattle.request_rows.specs.Retrieve.{has_own, serves, row_at, retrieve_at}
use Rattle.request_rows.specs.Laws.View.{live_at, live_past}
use Rattle.request_ops.specs.Retrieve.{data_in, owns}
use Rattle.request_ops.specs.Laws.Found.{found_at, found, not_found}

-- where there is no request there is nothing of its own
own_live : (t : Requests) (area : List ℕ) (i : ℕ) → has_own area (row_at t i) ≡ true → row_at t i ≢ no_row
unfolding phase_of
own_live t area i h e = no (sym (ap (has_own area) e) ∙ h)

-- ---- what is said and left

module _ (w area : List ℕ) (i room : ℕ) (q : Request) (e : q ≡ decode (row_at (view_of w) i)) (b : Bool) (eb : b ≡ owns area q) where
  -- by one that gives what there is room for, whatever is left
  abbrev pub Gives : Said → List ℕ → List ℕ → Request → Type 0
  Gives r x y p = (s : Requests) → gave r s x ≡ handed (cut s room (data_in area p)) y

  abbrev pub Retrieved : Said → Requests → List ℕ → List ℕ → Type 0
  Retrieved r t x y = gave r t x ≡ handed (retrieve_at (view_of w) area i room) y

  its_own : b ≡ has_own area (row_at (view_of w) i)
  its_own = eb ∙ ap (owns area) e

  module _ (f : b ≡ true) where
    in_use_lem : i < length (live (view_of w))
    in_use_lem =
        by_test (nat_lt i (length (live (view_of w)))) (ltb-true i (length (live (view_of w))))
        (λ t. let k = ltb-false i (length (live (view_of w))) t in absurd (own_live (view_of w) area i (sym its_own ∙ f) (live_past w i k)))

    own_cut : cut (with_row (view_of w) i (in_phase (Active true) (slice_index_or (view_of w).rows i no_row))) room (data_in area q) ≡ retrieve_at (view_of w) area i room
    unfolding retrieve_at
    own_cut =
        rw (sym its_own ∙ f)
        (ap₂ (λ (x : Row) (y : Request). cut (with_row (view_of w) i (in_phase (Active true) x)) room (data_in area y)) (live_at w i in_use_lem) e)

    pub retrieve_own : (t : Requests) → t ≡ with_row (view_of w) i (in_phase (Active true) (slice_index_or (view_of w).rows i no_row))
        → (r : Said) (x y : List ℕ) → Gives r x y q → Retrieved r t x y
    retrieve_own t et r x y g = g t ∙ ap (λ (s : Requests). handed (cut s room (data_in area q)) y) et ∙ ap (λ (o : Outcome Requests). handed o y) own_cut

  module _ (f : b ≡ false) where
    abbrev serves_it : Row → Bool
    serves_it = serves area (program_of (row_at (view_of w) i)) (terminal_of (row_at (view_of w) i))

    sought : position (serves area q.program q.terminal) (live (view_of w)) ≡ position serves_it (live (view_of w))
    sought = ap (λ (x : Request). position (serves area x.program x.terminal) (live (view_of w))) e

    pub retrieve_none : position (serves area q.program q.terminal) (live (view_of w)) ≡ None → fault (view_of w) end_of_data ≡ retrieve_at (view_of w) area i room
    unfolding retrieve_at
    retrieve_none h = rw (sym its_own ∙ f, not_found serves_it (live (view_of w)) (sym sought ∙ h))

    module _ (j : ℕ) (h : position (serves area q.program q.terminal) (live (view_of w)) ≡ Some j)
        (p : Request) (ep : p ≡ decode (slice_index_or (live (view_of w)) j no_row)) where
      served_cut : cut (remove_at (view_of w) j) room (data_in area p) ≡ retrieve_at (view_of w) area i room
      unfolding retrieve_at
      served_cut =
          let k = sym sought ∙ h in
          rw (sym its_own ∙ f, found serves_it (live (view_of w)) j k, found_at serves_it (live (view_of w)) j k)
          (ap (λ (x : Request). cut (remove_at (view_of w) j) room (data_in area x)) ep)

      pub retrieve_served : (t : Requests) → t ≡ remove_at (view_of w) j → (r : Said) (x y : List ℕ) → Gives r x y p → Retrieved r t x y
      retrieve_served t et r x y g = g t ∙ ap (λ (s : Requests). handed (cut s room (data_in area p)) y) et ∙ ap (λ (o : Outcome Requests). handed o y) served_cut
