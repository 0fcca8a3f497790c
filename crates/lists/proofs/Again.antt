-- A row of fresh tables that is written again with what a row of them holds is as it was: all rows are alike. Assumes nothing.
use mathlib.Core.Path.{◌≡◌, refl, ap, ◌∙◌}
use mathlib.Core.List.{List, ◌∷◌}
use Prim.Native.Nat.{ℕ, suc, zero}
use lib.ListN.{set, get_or, replicate}
use Rattle.interval.specs.Fresh.{fresh_at}
use Rattle.interval.specs.Rows as requests
use Rattle.interval.specs.declared.Request.{Request}
use Rattle.interval.specs.declared.Requests.{Requests}
use Rattle.handlers.specs.Fresh.{no_tasks}
use Rattle.handlers.specs.Rows as tasks
use Rattle.handlers.specs.declared.Task.{Task}
use Rattle.handlers.specs.declared.Tasks.{Tasks}

alike : {A : Type 0} (n k : ℕ) (a : A) → set (replicate n a) k a ≡ replicate n a
alike zero k a = refl
alike (suc n) zero a = refl
alike (suc n) (suc k) a = ap (λ l. a ∷ l) (alike n k a)

pub requests_again : (v k : ℕ) (t : Requests) → t ≡ fresh_at v → requests.with_row t k (get_or t.rows 0 requests.out_row) ≡ fresh_at v
unfolding fresh_at
requests_again v k t e =
    ap (λ (x : Requests). requests.with_row x k (get_or x.rows 0 requests.out_row)) e
    ∙ ap (λ (l : List Request). record {
      register = v;
      pcount = 0;
      programs = replicate 16 0;
      tcount = 0;
      terminals = replicate 8 0;
      count = 0;
      rows = l;
    }) (alike 32 k requests.no_row)

pub tasks_again : (k : ℕ) (t : Tasks) → t ≡ no_tasks → tasks.with_row t k (get_or t.rows 0 tasks.out_row) ≡ no_tasks
unfolding no_tasks
tasks_again k t e =
    ap (λ (x : Tasks). tasks.with_row x k (get_or x.rows 0 tasks.out_row)) e ∙ ap (λ (l : List Task). record { count = 0; rows = l }) (alike 16 k (tasks.unset_row 0))
