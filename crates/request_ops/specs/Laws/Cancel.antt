-- What a cancel comes to, case by case, as the code finds it. Assumes nothing.
use Rattle.std.specs.Prelude.{◌≡◌, ℕ, true, false, Some, None, position, slice_index_or}
use Rattle.std.proofs.Common.{sym, ap, ◌∙◌}
use borrow.Author.Tests.{eq-eqb, ne_eqb}
use Rattle.base.specs.Bytes.{blank}
use Rattle.model.specs.Plans.{invalid_request, not_found, fault, done}
use Rattle.request_rows.specs.declared.Request.{Request}
use Rattle.request_rows.specs.Rows.{no_row, decode, is_active, active, named}
use Rattle.request_rows.specs.Table.{Requests, live}
use Rattle.request_rows.specs.Remove.{remove_at, place_of}
use Rattle.request_rows.specs.Cancel.{cancel_in}
use Rattle.request_ops.specs.Laws.Found as laws

module _ (t : Requests) (n : ℕ) where
  pub cancel_blank : n ≡ blank 8 → fault t invalid_request ≡ cancel_in t n
  unfolding cancel_in
  cancel_blank e = rw (eq-eqb n (blank 8) e)

  module _ (ne : n ≡ blank 8 → ⊥) where
    pub cancel_none : position (named n) (live t) ≡ None → fault t not_found ≡ cancel_in t n
    unfolding cancel_in
    cancel_none e = rw (ne_eqb n (blank 8) ne, laws.not_found (named n) (live t) e)

    module _ (i : ℕ) (e : position (named n) (live t) ≡ Some i) (q : Request) (eq : q ≡ decode (slice_index_or (live t) i no_row)) where
      there : is_active q.phase ≡ active (slice_index_or (live t) (place_of t n) no_row)
      there =
          ap (λ (x : Request). is_active x.phase) eq
          ∙ ap (λ (k : ℕ). active (slice_index_or (live t) k no_row)) (sym (laws.found_at (named n) (live t) i e))

      pub cancel_active : is_active q.phase ≡ true → fault t not_found ≡ cancel_in t n
      unfolding cancel_in
      cancel_active f = rw (ne_eqb n (blank 8) ne, laws.found (named n) (live t) i e, sym there ∙ f)

      pub cancelled : is_active q.phase ≡ false → done (remove_at t i) 0 ≡ cancel_in t n
      unfolding cancel_in
      cancelled f = rw (ne_eqb n (blank 8) ne, laws.found (named n) (live t) i e, sym there ∙ f, laws.found_at (named n) (live t) i e)
