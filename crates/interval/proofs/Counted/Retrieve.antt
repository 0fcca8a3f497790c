-- A retrieve's ends, by whether there are data and where the first that serves stands: the code has an Option now, and nothing cites these. Assumes
-- nothing.
use Rattle.std.specs.Prelude.{◌≡◌, ℕ, min, Bool, true, false, length, nat_lt, slice_index_or, Some}
use Rattle.std.proofs.Common.{sym, ◌∙◌, arith, lt-ltb, le-ltb, ltb-true, ltb-false}
use Rattle.base.specs.Choice.{pick}
use Rattle.base.specs.Lists.{any, first_at, cut_at}
use Rattle.base.specs.Laws.Tests.{by_test}
use Rattle.model.specs.Plans.{normal, wrong_length}
use Rattle.interval.specs.declared.Phase.TheVariants.{Active}
use Rattle.interval.specs.declared.Request.{Request}
use Rattle.interval.specs.declared.Requests.{Requests}
use Rattle.interval.specs.Table.{live, with_live, in_phase}
use Rattle.interval.specs.Rows.{named, data_of, out_row, with_row}
use Rattle.interval.specs.Retrieve.{retrieve_gives, has_own, retrieved, handed, nothing, retrieve_in}
use Rattle.interval.proofs.Laws.Retrieve as laws

module _ (t : Requests) (n room : ℕ) where
  abbrev task : Request
  task = laws.task t n room

  abbrev serving : Request → Bool
  serving = laws.serving t n room

  pub retrieve_own : has_own task ≡ true → (i : ℕ) → i ≡ first_at (named n) (live t) → (p : Request) → p ≡ in_phase (Active true) task
      → handed (with_row t i p) task room ≡ retrieve_in t n room
  unfolding retrieve_in
  retrieve_own h i ei p ep = rw (h, ei, ep)

  pub retrieve_served : has_own task ≡ false → any serving (live t) ≡ true → (j : ℕ) → j ≡ first_at serving (live t) → (u : Requests) → u ≡ with_live t (cut_at j (live t))
      → handed u (slice_index_or t.rows j out_row) room ≡ retrieve_in t n room
  unfolding retrieve_in
  retrieve_served h a j ej u eu = rw (h, a, eu, ej)

  pub retrieve_nothing : has_own task ≡ false → any serving (live t) ≡ false → nothing t ≡ retrieve_in t n room
  unfolding retrieve_in
  retrieve_nothing h a = rw (h, a)

-- the condition of data that are given or cut
abbrev pub cut_of : ℕ → ℕ → ℕ
cut_of full room = pick (nat_lt room full) wrong_length normal

cut_where : (full room : ℕ) → nat_lt (min full room) full ≡ nat_lt room full
cut_where full room =
    by_test (nat_lt room full)
    (λ t. lt-ltb (min full room) full (omega (arith, ltb-true room full t)) ∙ sym t)
    (λ t. le-ltb (min full room) full (omega (arith, ltb-false room full t)) ∙ sym t)

pub handing : (u : Requests) (q : Request) (room : ℕ) (o full len : ℕ) → full ≡ length (data_of q) → o ≡ cut_of full room → len ≡ min full room
    → (retrieved u (Some (record { full = full; len = len; bytes = q.bytes })) ≡ handed u q room) × (o ≡ retrieve_gives (handed u q room).outcome)
handing u q room o full len ef eo el = (rw (el, ef), rw (eo, ef, cut_where (length (data_of q)) room))
