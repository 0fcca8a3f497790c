-- What is said and left, of the row that dispatch takes. Assumes nothing.
use Rattle.std.specs.Prelude.{◌≡◌, ℕ, ◌%◌, ◌<◌, false, List, [], length, take, Some, position, slice_index_or}
use Rattle.std.specs.Prelude as std
use Rattle.std.proofs.Common.{sym, ap, ap₂, ◌∙◌, arith}
use Rattle.std.proofs.Math.Seq.{take_all}
use Rattle.base.specs.Lists.{keep, over}
use Rattle.model.specs.Plans.{normal, Outcome}
use Rattle.words.specs.declared.said.Condition.TheVariants.{NotFound}
use Rattle.words.specs.Said.{plainly, handed, told}
use Rattle.request_rows.specs.declared.Phase.TheVariants.{Active}
use Rattle.request_rows.specs.declared.Request.{Request}
use Rattle.request_rows.specs.Rows.{Row, no_row, decode, in_phase, expired}
use Rattle.request_rows.specs.Table.{Requests, view_of, live, with_row}
use Rattle.request_rows.specs.Dispatch.{ready, At, None, pick_in, bytes_for, dispatched, dispatch_in}
use Rattle.request_rows.specs.Laws.View.{live_at}
use Rattle.request_ops.specs.declared.dispatch.Choice.{Choice}
use Rattle.request_ops.specs.Dispatch.{chosen, sixteen}
use Rattle.request_ops.specs.Laws.Found.{found_at, found_in, found, not_found}

module _ (t : Requests) (c : Choice) (e : c ≡ chosen (live t)) where
  pub dispatch_none : c.started ≡ std.None → told (plainly NotFound (c.passed % 4_294_967_296)) [] t ≡ dispatch_in t
  unfolding dispatch_in pick_in
  dispatch_none h =
      let l = live t in
      let p = sym (ap (λ (x : Choice). x.started) e) ∙ h in
      rw (not_found (ready l) l p, e, p) (ap (λ (r : List Row). dispatched t (None (length (keep expired r)))) (take_all (length l) l (omega arith)))

  module _ (at : ℕ) (h : c.started ≡ Some at) where
    taken : position (ready (live t)) (live t) ≡ Some at
    taken = sym (ap (λ (x : Choice). x.started) e) ∙ h

    pub dispatch_in_at : at < length (live t)
    dispatch_in_at = found_in (ready (live t)) (live t) at taken

    pub dispatch_at : dispatched t (At at c.passed) ≡ dispatch_in t
    unfolding dispatch_in pick_in
    dispatch_at = let l = live t in rw (found (ready l) l at taken, found_at (ready l) l at taken, e, taken)

module _ (w : List ℕ) (c : Choice) (e : c ≡ chosen (live (view_of w))) (at : ℕ) (h : c.started ≡ Some at) where
  abbrev taken_row : Row
  taken_row = slice_index_or (live (view_of w)) at no_row

  pub dispatch_hit : (q : Request) → q ≡ decode taken_row
      → (t' : Requests) → t' ≡ with_row (view_of w) at (in_phase (Active false) (slice_index_or (view_of w).rows at no_row))
      → (b b' : List ℕ) → b' ≡ over (take (length b) (sixteen q)) b
      → record { condition = normal; number = c.passed % 4_294_967_296; len = 16; state = t'; body = b' } ≡ handed (dispatch_in (view_of w)) b
  dispatch_hit q eq t' et b b' eb =
      let k : sixteen q ≡ bytes_for taken_row = ap sixteen eq in
      let s = et ∙ ap (λ (x : Row). with_row (view_of w) at (in_phase (Active false) x)) (live_at w at (dispatch_in_at (view_of w) c e at h)) in
      let f : b' ≡ over (take (length b) (bytes_for taken_row)) b = eb ∙ ap (λ (x : List ℕ). over (take (length b) x) b) k in
      ap₂ (λ (x : Requests) (y : List ℕ). record { condition = normal; number = c.passed % 4_294_967_296; len = 16; state = x; body = y }) s f
      ∙ ap (λ (o : Outcome Requests). handed o b) (dispatch_at (view_of w) c e at h)
