-- The search for an active task, a row a turn: the code has the library's `position` now, and nothing cites these. Assumes nothing.
use Rattle.std.specs.Prelude.{◌≡◌, ℕ, ◌+◌, ◌<◌, ◌≤◌, Bool, true, false, ◌&&◌, List, ◌≢◌, Some, None, slice_index_or}
use Rattle.std.proofs.Math.Path.{sym}
use Rattle.std.proofs.Common.{ap, ◌∙◌, eq-eqb, ne_eqb}
use Rattle.base.specs.Laws.Tests.{and_i, and_none}
use Rattle.base.specs.Laws.Seeking.{seeks_hit, seeks_on, seeks_some, seeks_none}
use Rattle.request_rows.specs.declared.Request.{Request}
use Rattle.request_rows.specs.Rows.{Row, no_row, decode, is_active, active, named}
use Rattle.request_rows.specs.Table.{view_of}
use Rattle.request_rows.specs.Active.{task, task_in}
use Rattle.request_rows.specs.Laws.View.{Seeks}

module _ (w : List ℕ) (n m i : ℕ) (s : Seeks (task n) w m i) where
  pub task_none : m ≤ i → None ≡ task_in (view_of w) n
  unfolding task_in
  task_none h = rw (seeks_none s h)

  module _ (h : i < m) (q : Request) (e : q ≡ decode (slice_index_or (view_of w).rows i no_row)) where
    abbrev here : Row
    here = slice_index_or (view_of w).rows i no_row

    read_name : q.name ≡ here.name
    read_name = ap (λ (x : Request). x.name) e

    module _ (b : Bool) (eb : b ≡ is_active q.phase) where
      read_active : b ≡ active here
      read_active = eb ∙ ap (λ (x : Request). is_active x.phase) e

      pub task_hit : q.name ≡ n → b ≡ true → Some i ≡ task_in (view_of w) n
      unfolding task_in
      task_hit f t =
          let k : task n here ≡ true = and_i (sym read_active ∙ t) (eq-eqb here.name n (sym read_name ∙ f)) in
          rw (seeks_some s h no_row k, sym (seeks_hit s h no_row k))

      pub task_idle : b ≡ false → Seeks (task n) w m (i + 1)
      task_idle t = let a : active here ≡ false = sym read_active ∙ t in seeks_on s h no_row (rw a)

    pub task_other : (q.name ≢ n) → Seeks (task n) w m (i + 1)
    task_other f =
        let k : named n here ≡ false = ne_eqb here.name n (λ z. f (read_name ∙ z)) in
        seeks_on s h no_row (ap (λ (x : Bool). active here && x) k ∙ sym (and_none (active here)))
