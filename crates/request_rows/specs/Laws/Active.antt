-- Who is an active task is what the model says, at any clock; and what is known of its row. Assumes nothing.
use Rattle.std.specs.Prelude.{ℕ, ◌<◌, ◌≡◌, refl, Bool, true, false, length, get_or, Some, None}
use Rattle.std.proofs.Math.Path.{sym}
use Rattle.std.proofs.Common.{ap, ◌∙◌, arith, eqb-true}
use mathlib.Core.List.{List}
use Rattle.base.specs.Choice.{pick}
use Rattle.base.specs.Lists.{any, first, first_at}
use Rattle.base.specs.Laws.Tests.{and_l, and_r}
use Rattle.base.specs.Laws.Keep.{first_at_lt, first_passes, get_d_first_at}
use Rattle.model.specs.Interval as model
use Rattle.request_rows.specs.Rows.{Row, no_row, active, named}
use Rattle.request_rows.specs.Table.{Requests, live}
use Rattle.request_rows.specs.Active.{task, active_in, task_in}
use Rattle.request_rows.specs.Stands.{Memory, interval_at}
use Rattle.request_rows.specs.Laws.Standing.{task_at}

-- ---- a row, or none

at_row : (b : Bool) (x i : ℕ) → pick b (Some x) None ≡ Some i → (b ≡ true) × (x ≡ i)
at_row true x i e = (refl, cc)
at_row false x i e = absurd (let z : ◌≡◌ {A = ℕ} 0 1 = cc in omega arith)

no_row_lem : (b : Bool) (x : ℕ) → pick b (Some x) None ≡ None → b ≡ false
no_row_lem true x e = absurd (let z : ◌≡◌ {A = ℕ} 0 1 = cc in omega arith)
no_row_lem false x e = refl

-- ---- in the words of the model

module _ (c : ℕ) (m : Memory) (n : ℕ) where
  pub active_stands : active_in m.requests n ≡ model.active_task (interval_at c m) n
  unfolding active_in
  active_stands = sym (task_at c m n)

  -- nobody exactly where the model knows no such task
  pub nobody_stands : (task_in m.requests n ≡ None → model.active_task (interval_at c m) n ≡ false)
      × (model.active_task (interval_at c m) n ≡ false → task_in m.requests n ≡ None)
  unfolding task_in
  nobody_stands =
      let l : List Row = live m.requests in
      (λ e. task_at c m n ∙ no_row_lem (any (task n) l) (first_at (task n) l) e, λ e. rw (sym (task_at c m n) ∙ e))

-- ---- its row

pub record There (t : Requests) (n i : ℕ) : Type 0 where
  pub place : i ≡ first_at (task n) (live t)
  pub within : i < length (live t)
  pub name : (get_or (live t) i no_row).name ≡ n
  pub runs : active (get_or (live t) i no_row) ≡ true

pub task_there : (t : Requests) (n i : ℕ) → task_in t n ≡ Some i → There t n i
unfolding task_in
task_there t n i e =
    let l : List Row = live t in
    let p = at_row (any (task n) l) (first_at (task n) l) i e in
    let q : get_or (live t) i no_row ≡ first (task n) no_row (live t) = ap (λ (k : ℕ). get_or l k no_row) (sym p.1) ∙ get_d_first_at (task n) no_row l in
    let s : task n (get_or (live t) i no_row) ≡ true = ap (task n) q ∙ first_passes (task n) no_row l p.0 in
    record {
      place = sym p.1;
      within = omega (arith, first_at_lt (task n) l p.0, p.1);
      name = eqb-true (get_or l i no_row).name n (and_r (active (get_or l i no_row)) (named n (get_or l i no_row)) s);
      runs = and_l (active (get_or l i no_row)) (named n (get_or l i no_row)) s;
    }
