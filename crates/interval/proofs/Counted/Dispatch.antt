-- A dispatch's ends, by what `pick_in` comes to: the code has an Option and a count of its own now, and nothing cites these. Assumes nothing.
use Rattle.std.specs.Prelude.{◌≡◌, ℕ, false, get_or, slice_index_or, Some, None}
use Rattle.std.proofs.Common.{sym, ap, ◌∙◌}
use Rattle.interval.specs.declared.Phase.TheVariants.{Active}
use Rattle.interval.specs.declared.Request.{Request}
use Rattle.interval.specs.declared.Requests.{Requests}
use Rattle.interval.specs.declared.answers.Dispatched.{Dispatched}
use Rattle.interval.specs.Table.{live, in_phase}
use Rattle.interval.specs.Rows.{out_row, with_row}
use Rattle.interval.specs.Dispatch.{At, Nothing, pick_in, dispatched, dispatch_in}

module _ (t : Requests) where
  -- q starts, and k stood before it
  abbrev starts : Requests → ℕ → Request → Dispatched
  starts u k q = record { requests = u; passed = k; started = Some (record { name = q.name; program = q.program; terminal = q.terminal }) }

  pub dispatch_hit : (i k : ℕ) → pick_in (live t) ≡ At i k → (p : Request) → p ≡ in_phase (Active false) (slice_index_or t.rows i out_row)
      → starts (with_row t i p) k (get_or t.rows i out_row) ≡ dispatch_in t
  unfolding dispatch_in
  dispatch_hit i k e p ep = ap (λ (x : Request). starts (with_row t i x) k (get_or t.rows i out_row)) ep ∙ sym (ap (dispatched t) e)

  pub dispatch_none : (k : ℕ) → pick_in (live t) ≡ Nothing k → record { requests = t; passed = k; started = None } ≡ dispatch_in t
  unfolding dispatch_in
  dispatch_none k e = sym (ap (dispatched t) e)
