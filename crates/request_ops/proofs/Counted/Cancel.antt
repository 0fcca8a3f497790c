-- What a cancel comes to, case by case, by the number of the row that has the name, which is past all rows where none has it: the code has an Option
-- now, and nothing cites these. Assumes nothing.
use Rattle.std.specs.Prelude.{◌≡◌, ℕ, ◌<◌, ◌≤◌, Bool, true, false, List, length, slice_index_or}
use Rattle.std.proofs.Common.{sym, ap, ◌∙◌, arith}
use borrow.Author.Tests.{ne_eqb, lt-ltb, le-ltb}
use Rattle.base.specs.Bytes.{blank}
use Rattle.base.specs.Lists.{any}
use Rattle.base.specs.Laws.Keep.{first_at_any}
use Rattle.model.specs.Plans.{not_found, fault, done}
use Rattle.request_rows.specs.declared.Request.{Request}
use Rattle.request_rows.specs.Rows.{no_row, decode, is_active, active, named}
use Rattle.request_rows.specs.Table.{Requests, view_of, live}
use Rattle.request_rows.specs.Remove.{remove_at, place_of}
use Rattle.request_rows.specs.Cancel.{cancel_in}
use Rattle.request_rows.specs.Laws.View.{live_at}

module _ (t : Requests) (n : ℕ) where
  module _ (ne : n ≡ blank 8 → ⊥) (i : ℕ) (e : i ≡ place_of t n) where
    pub cancel_none : length (live t) ≤ i → fault t not_found ≡ cancel_in t n
    unfolding cancel_in
    cancel_none h = rw (ne_eqb n (blank 8) ne, first_at_any (named n) (live t), le-ltb (place_of t n) (length (live t)) (omega arith))

    module _ (h : i < length (live t)) (b : Bool) (eb : active (slice_index_or (live t) i no_row) ≡ b) where
      found : any (named n) (live t) ≡ true
      found = first_at_any (named n) (live t) ∙ lt-ltb (place_of t n) (length (live t)) (omega arith)

      there : active (slice_index_or (live t) (place_of t n) no_row) ≡ b
      there = ap (λ (k : ℕ). active (slice_index_or (live t) k no_row)) (sym e) ∙ eb

      pub cancel_active : b ≡ true → fault t not_found ≡ cancel_in t n
      unfolding cancel_in
      cancel_active f = rw (ne_eqb n (blank 8) ne, found, there ∙ f)

      pub cancelled : b ≡ false → done (remove_at t i) 0 ≡ cancel_in t n
      unfolding cancel_in
      cancelled f = rw (ne_eqb n (blank 8) ne, found, there ∙ f, e)

-- of a live row that was read, whether it is active
pub seen : (w : List ℕ) (i : ℕ) → i < length (live (view_of w)) → (q : Request) → q ≡ decode (slice_index_or (view_of w).rows i no_row)
    → (b : Bool) → b ≡ is_active q.phase → active (slice_index_or (live (view_of w)) i no_row) ≡ b
seen w i h q e b f = sym (f ∙ ap (λ (x : Request). is_active x.phase) e ∙ ap active (live_at w i h))
