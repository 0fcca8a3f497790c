-- Dispatching is what the model does: the first that is ready stands, in the line, behind those that were passed. Assumes nothing.
use Rattle.std.specs.Prelude.{ℕ, ◌%◌, ◌≡◌, refl, Bool, true, ◌&&◌, ◌||◌, eqb, take, get_or}
use Rattle.std.proofs.Math.Path.{sym, ap}
use Rattle.std.proofs.Common.{ap₂, ◌∙◌, arith, length-take}
use Rattle.std.proofs.Math.Bool.{false, not}
use mathlib.Core.List.{List, map}
use Rattle.std.proofs.Math.ListN.{length}
use Rattle.std.proofs.lemmas.List.{length-map}
use Rattle.base.specs.Lists.{keep, any, first, first_at}
use Rattle.base.specs.Bytes.{blank}
use Rattle.base.specs.Laws.Tests.{by_test}
use Rattle.base.specs.Laws.Keep.{length_keep, any_keep, any_same, first_in, first_at_lt, get_d_first_at, first_at_in}
use Rattle.base.specs.Laws.Maps.{any_map, keep_map, first_map, first_at_map, map_take}
use Rattle.model.specs.Plans.{normal, Outcome, outcome_in, Follows}
use Rattle.model.specs.Interval as model
use Rattle.model.proofs.Laws.SoundDispatch.{dispatch_sound}
use Rattle.request_rows.specs.Rows.{Row, no_row, phase_of, program_of, terminal_of, expired, active}
use Rattle.request_rows.specs.Table.{Requests, register_of, live}
use Rattle.request_rows.specs.declared.Phase.TheVariants.{Active}
use Rattle.request_rows.specs.Dispatch.{None, clash, ready, passed_by, pick_in, bytes_for, dispatched, dispatched_row, dispatch_in}
use Rattle.request_rows.specs.Stands.{Memory, with_requests, limits_of, interval_at, Fine}
use Rattle.request_rows.specs.Laws.Common.{any_or, any_and}
use Rattle.request_rows.specs.Laws.Bounds.{few_live, counted}
use Rattle.request_rows.specs.Laws.Ties.{stays_itself, finish}
use Rattle.request_rows.specs.Laws.Standing.{read_at, active_at, expired_at, turned, turned_stays}

-- ---- who is busy

-- one test of program and terminal is the two of the model
clash_split : (a y z b : Bool) → (a && (y || (not b && z))) ≡ ((a && y) || (not b && (a && z)))
clash_split true true z b = refl
clash_split true false z true = refl
clash_split true false z false = refl
clash_split false y z true = refl
clash_split false y z false = refl

free_split : (x y b : Bool) → not (x || (not b && y)) ≡ ((b || not y) && not x)
free_split true true true = refl
free_split true true false = refl
free_split true false true = refl
free_split true false false = refl
free_split false true true = refl
free_split false true false = refl
free_split false false true = refl
free_split false false false = refl

-- ---- in the words of the model

module _ (c : ℕ) (m : Memory) where
  abbrev at : Row → model.Request
  at q = read_at c m q

  abbrev i : model.Interval
  i = interval_at c m

  abbrev l : List Row
  l = live m.requests

  busy_at : (f : Row → ℕ) (g : model.Request → ℕ) → ((q : Row) → g (read_at c m q) ≡ f q) → (n : ℕ)
      → any (λ (a : model.Request). model.active a && eqb (g a) n) (map at l) ≡ any (λ (a : Row). active a && eqb (f a) n) l
  busy_at f g h n =
      any_map at (λ (a : Row). active a && eqb (f a) n) (λ (a : model.Request). model.active a && eqb (g a) n)
      (λ q. ap₂ (λ (b : Bool) (k : ℕ). b && eqb k n) (active_at c (register_of m.requests) (phase_of q.phase)) (h q)) l

  -- has the program an active task; does one hold the terminal
  abbrev running : ℕ → Bool
  running p = any (λ (a : Row). active a && eqb (program_of a) p) l

  abbrev held : ℕ → Bool
  held e = any (λ (a : Row). active a && eqb (terminal_of a) e) l

  clash_at : (p e : ℕ) → any (clash p e) l ≡ (running p || (not (eqb e (blank 4)) && held e))
  clash_at p e =
      any_same (clash p e) _ (λ (a : Row). clash_split (active a) (eqb (program_of a) p) (eqb (terminal_of a) e) (eqb e (blank 4))) l
      ∙ any_or (λ (a : Row). active a && eqb (program_of a) p) (λ (a : Row). not (eqb e (blank 4)) && (active a && eqb (terminal_of a) e)) l
      ∙ ap (λ (b : Bool). running p || b) (any_and (not (eqb e (blank 4))) (λ (a : Row). active a && eqb (terminal_of a) e) l)

  free_at : (q : Row) → model.startable i (at q) ≡ not (any (clash (program_of q) (terminal_of q)) l)
  unfolding interval_at
  free_at q =
      rw (
        busy_at terminal_of (λ (a : model.Request). a.terminal) (λ q. refl) (terminal_of q),
        busy_at program_of (λ (a : model.Request). a.program) (λ q. refl) (program_of q),
      )
      (sym (ap not (clash_at (program_of q) (terminal_of q)) ∙ free_split (running (program_of q)) (held (terminal_of q)) (eqb (terminal_of q) (blank 4))))

  -- ---- in the line

  abbrev ready_in : model.Request → Bool
  ready_in q = model.expired q && model.startable i q

  ready_at : (q : Row) → ready_in (at q) ≡ ready l q
  ready_at q = ap₂ (λ (a b : Bool). a && b) (expired_at c (register_of m.requests) (phase_of q.phase)) (free_at q)

  any_at : any (model.startable i) (model.line i) ≡ any (ready l) l
  unfolding interval_at
  any_at = any_keep (model.startable i) model.expired (map at l) ∙ any_map at (ready l) ready_in ready_at l

  first_at_lem : first (model.startable i) model.no_request (model.line i) ≡ at (first (ready l) no_row l)
  unfolding interval_at phase_of
  first_at_lem = first_in (model.startable i) model.expired model.no_request (map at l) ∙ first_map at (ready l) ready_in ready_at no_row l

  line_of_lem : (r : List Row) → length (keep model.expired (map at r)) ≡ length (keep expired r)
  line_of_lem r =
      ap length (keep_map at expired model.expired (λ q. expired_at c (register_of m.requests) (phase_of q.phase)) r) ∙ length-map (keep expired r) at

  line_at : length (model.line i) ≡ length (keep expired l)
  unfolding interval_at
  line_at = line_of_lem l

  passed_at : first_at (model.startable i) (model.line i) ≡ passed_by (first_at (ready l) l) l
  unfolding interval_at
  passed_at =
      first_at_in (model.startable i) model.expired (map at l)
      ∙ ap (λ (k : ℕ). length (keep model.expired (take k (map at l)))) (first_at_map at (ready l) ready_in ready_at l)
      ∙ ap (λ (r : List model.Request). length (keep model.expired r)) (sym (map_take at (first_at (ready l) l) l))
      ∙ line_of_lem (take (first_at (ready l) l) l)

  -- ---- the row that is picked

  abbrev j : ℕ
  j = first_at (ready l) l

  abbrev there : Row
  there = get_or l j no_row

  module _ (f : Fine c m) where
    abbrev Good : Outcome Requests → Type 0
    Good o = Follows (interval_at c) (Fine c) (outcome_in (with_requests m) o) i (model.dispatch i)

    few_passed : passed_by j l % 4_294_967_296 ≡ passed_by j l
    few_passed = counted (passed_by j l) (omega (arith, length_keep expired (take j l), length-take j l, few_live c m f))

    few_lined : length (keep expired l) % 4_294_967_296 ≡ length (keep expired l)
    few_lined = counted (length (keep expired l)) (omega (arith, length_keep expired l, few_live c m f))

    starts : any (ready l) l ≡ true → Good (dispatched_row m.requests j there (passed_by j l))
    unfolding model.dispatch
    starts h =
        let b = first_at_lt (ready l) l h in
        let o : Outcome Memory = outcome_in (with_requests m) (dispatched_row m.requests j there (passed_by j l)) in
        finish c c m o (model.dispatch i) f
        (rw (any_at, first_at_lem, passed_at, h, few_passed, sym (get_d_first_at (ready l) no_row l))
        (ap (λ (x : model.Interval). record { condition = normal; number = passed_by j l; bytes = bytes_for there; state = x }) (turned c m f j false b)))
        (λ s e. dispatch_sound (limits_of m) i s e) (turned_stays c m f j (Active false) b)

    nothing : any (ready l) l ≡ false → Good (dispatched m.requests (None (length (keep expired l))))
    unfolding model.dispatch
    nothing h =
        let o : Outcome Memory = outcome_in (with_requests m) (dispatched m.requests (None (length (keep expired l)))) in
        finish c c m o (model.dispatch i) f (rw (any_at, line_at, h, few_lined)) (λ s e. dispatch_sound (limits_of m) i s e) (stays_itself c m f)

    pub dispatch_follows : Follows (interval_at c) (Fine c) (outcome_in (with_requests m) (dispatch_in m.requests)) (interval_at c m) (model.dispatch (interval_at c m))
    unfolding dispatch_in pick_in
    dispatch_follows = by_test (any (ready l) l) (λ h. rw h (starts h)) (λ h. rw h (nothing h))
