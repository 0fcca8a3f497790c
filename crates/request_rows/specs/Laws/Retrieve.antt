-- Retrieving is what the model does: the own data once, else those of the first that serves, which goes. Assumes nothing.
use Rattle.std.specs.Prelude.{ℕ, ◌≡◌, refl, Bool, true, false, List, length, get_or, Some}
use Rattle.std.proofs.Common.{sym, ◌∙◌, arith, lt-ltb}
use Rattle.std.proofs.Math.Path.{ap}
use Rattle.std.proofs.Math.Dec.{eqb}
use Rattle.base.specs.Lists.{any, first, first_at}
use Rattle.base.specs.Laws.Tests.{by_test}
use Rattle.base.specs.Laws.Keep.{first_at_any, first_at_lt, get_d_first_at}
use Rattle.base.specs.Laws.Maps.{any_map, first_map}
use Rattle.base.specs.Laws.Counting.{first_named}
use Rattle.model.specs.Plans.{end_of_data, Outcome, fault, cut, outcome_in, Follows}
use Rattle.model.specs.Interval as model
use Rattle.model.proofs.Laws.SoundDispatch.{retrieve_sound}
use Rattle.request_rows.specs.declared.Phase.TheVariants.{Active}
use Rattle.request_rows.specs.Rows.{Row, no_row, phase_of, program_of, terminal_of, in_phase, data_of, named}
use Rattle.request_rows.specs.Table.{Requests, register_of, live, with_row}
use Rattle.request_rows.specs.Active.{task, task_in}
use Rattle.request_rows.specs.Remove.{remove_at}
use Rattle.request_rows.specs.Retrieve.{has_own, serves, row_at, retrieve_at}
use Rattle.request_rows.specs.Stands.{Memory, with_requests, limits_of, interval_at, Fine}
use Rattle.request_rows.specs.Laws.Active.{There, task_there}
use Rattle.request_rows.specs.Laws.Ties.{finish}
use Rattle.request_rows.specs.Laws.Standing.{name_of, read_at, expired_at, taken_at, names_once, turned, turned_stays}
use Rattle.request_rows.specs.Laws.Remove.{place_follows}

module _ (c : ℕ) (m : Memory) (f : Fine c m) (n i room : ℕ) where
  abbrev s : model.Interval
  s = interval_at c m

  abbrev t : Requests
  t = m.requests

  abbrev at : Row → model.Request
  at x = read_at c m x

  abbrev l : List Row
  l = live t

  -- the task's row
  abbrev q : Row
  q = row_at t i

  -- ---- what it asks of the others

  abbrev serve : Row → Bool
  serve x = serves m.area (program_of q) (terminal_of q) x

  own_at : model.has_own (at q) ≡ has_own m.area q
  own_at = rw (taken_at c (register_of t) (phase_of q.phase))

  serves_at : (x : Row) → model.serves (at q) (at x) ≡ serve x
  serves_at x = rw (expired_at c (register_of t) (phase_of x.phase))

  any_at : any (model.serves (at q)) s.requests ≡ any serve l
  unfolding interval_at
  any_at = any_map at serve (model.serves (at q)) serves_at l

  abbrev j : ℕ
  j = first_at serve l

  abbrev served : Row
  served = get_or l j no_row

  server_at : model.server s (at q) ≡ at served
  unfolding interval_at phase_of
  server_at = first_map at serve (model.serves (at q)) serves_at no_row l ∙ ap at (sym (get_d_first_at serve no_row l))

  module _ (there : There m.requests n i) where
    -- the first of its name is the task itself, since names stand once
    task_is : first (named n) no_row l ≡ q
    task_is =
        let e : get_or (live m.requests) i no_row ≡ first (task n) no_row (live m.requests) =
        ap (λ (k : ℕ). get_or l k no_row) there.place ∙ get_d_first_at (task n) no_row l in
        let some : any (task n) (live m.requests) ≡ true =
        first_at_any (task n) l ∙ lt-ltb (first_at (task n) l) (length l) (omega (arith, there.place, there.within)) in
        let name : (first (task n) no_row (live m.requests)).name ≡ n = ap name_of (sym e) ∙ there.name in
        ap (λ (k : ℕ). first (λ (x : Row). eqb x.name k) no_row l) (sym name)
        ∙ first_named name_of (task n) no_row l (names_once c m f) some ∙ sym e

    task_at : model.request_of s.requests n ≡ at q
    unfolding interval_at phase_of
    task_at = first_map at (named n) (λ (x : model.Request). eqb x.name n) (λ x. refl) no_row l ∙ ap at task_is

    -- ---- the three ends of the plan

    abbrev Good : Outcome Requests → Type 0
    Good o = Follows (interval_at c) (Fine c) (outcome_in (with_requests m) o) s (model.retrieve s n room)

    abbrev own : Requests
    own = with_row t i (in_phase (Active true) q)

    own_stands : interval_at c (with_requests m own) ≡ model.took_own s n
    own_stands =
        turned c m f i true there.within
        ∙ ap (λ (k : ℕ). model.with_requests s (model.at_request k (model.in_phase (model.Active true)) s.requests)) there.name

    own_given : has_own m.area q ≡ true → Good (cut own room (data_of m.area q))
    unfolding model.retrieve
    own_given h =
        finish c c m (cut (with_requests m own) room (data_of m.area q)) (model.retrieve s n room) f
        (rw (task_at, own_at, h) (ap (λ (x : model.Interval). cut x room (data_of m.area q)) own_stands))
        (λ k e. retrieve_sound (limits_of m) s k n room e) (turned_stays c m f i (Active true) there.within)

    other_given : has_own m.area q ≡ false → any serve l ≡ true → Good (cut (remove_at t j) room (data_of m.area served))
    unfolding model.retrieve
    other_given h a =
        let gone = place_follows c m f j (first_at_lt serve l a) in
        record {
          outcome = rw (task_at, own_at, any_at, server_at, h, a) (ap (λ (x : model.Interval). cut x room (data_of m.area served)) gone.0);
          soundly = gone.1;
        }

    none_given : has_own m.area q ≡ false → any serve l ≡ false → Good (fault t end_of_data)
    unfolding model.retrieve
    none_given h a = record { outcome = rw (task_at, own_at, any_at, h, a); soundly = f }

    given : Good (retrieve_at t m.area i room)
    unfolding retrieve_at
    given =
        by_test (has_own m.area q) (λ h. rw h (own_given h))
        (λ h. rw h (by_test (any serve l) (λ a. rw a (other_given h a)) (λ a. rw a (none_given h a))))

  pub retrieve_follows : task_in m.requests n ≡ Some i
      → Follows (interval_at c) (Fine c) (outcome_in (with_requests m) (retrieve_at m.requests m.area i room)) (interval_at c m) (model.retrieve (interval_at c m) n room)
  retrieve_follows e = given (task_there t n i e)
