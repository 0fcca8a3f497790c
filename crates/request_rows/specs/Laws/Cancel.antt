-- Cancelling is what the model does. Assumes nothing.
use Rattle.std.specs.Prelude.{ℕ, ◌≡◌, Bool, true, false, not, ◌||◌, List, [], ◌∷◌, eqb, get_or}
use Rattle.std.proofs.Math.Path.{refl, ap}
use Rattle.std.proofs.Common.{sym}
use Rattle.base.specs.Lists.{any}
use Rattle.base.specs.Bytes.{blank}
use Rattle.base.specs.Laws.Tests.{by_test, no}
use Rattle.base.specs.Laws.Keep.{get_d_first_at}
use Rattle.base.specs.Laws.Counting.{all_named}
use Rattle.model.specs.Plans.{Check, check, done, invalid_request, not_found, outcome_in, Follows}
use Rattle.model.specs.Interval as model
use Rattle.request_rows.specs.Rows.{Row, no_row, active, named}
use Rattle.request_rows.specs.Table.{live}
use Rattle.request_rows.specs.Remove.{remove_at, place_of}
use Rattle.request_rows.specs.Cancel.{cancel_in}
use Rattle.request_rows.specs.Stands.{Memory, with_requests, interval_at, Fine}
use Rattle.request_rows.specs.Laws.Plans.{part_follows}
use Rattle.request_rows.specs.Laws.Standing.{name_of, known_at, task_at, names_once}
use Rattle.request_rows.specs.Laws.Remove.{first_follows}

module _ (c : ℕ) (m : Memory) (f : Fine c m) (n : ℕ) where
  -- there is none of that name, or the first is active
  abbrev absent : Bool
  absent = not (any (named n) (live m.requests)) || active (get_or (live m.requests) (place_of m.requests n) no_row)

  absent_at : absent ≡ (not (model.known_request (interval_at c m).requests n) || model.active_task (interval_at c m) n)
  absent_at =
      let l : List Row = live m.requests in
      rw (known_at c m n, task_at c m n)
      (by_test (any (named n) l)
      (λ h. rw (h, get_d_first_at (named n) no_row l) (sym (all_named name_of n no_row active l (names_once c m f) h))) (λ h. rw h))

  there : absent ≡ false → any (named n) (live m.requests) ≡ true
  there e = by_test (any (named n) (live m.requests)) (λ h. h) (λ h. no (sym (rw h at e)))

  abbrev checks : List Check
  checks = check (eqb n (blank 8)) invalid_request ∷ check absent not_found ∷ []

  pub cancel_follows : Follows (interval_at c) (Fine c) (outcome_in (with_requests m) (cancel_in m.requests n)) (interval_at c m) (model.cancel (interval_at c m) n)
  unfolding cancel_in model.cancel
  cancel_follows =
      part_follows (interval_at c) (Fine c) (with_requests m) m.requests checks (done (remove_at m.requests (place_of m.requests n)) 0)
      (model.cancel (interval_at c m) n) f refl (ap (λ (b : Bool). check (eqb n (blank 8)) invalid_request ∷ check b not_found ∷ []) absent_at)
      (λ k. ap (λ (i : model.Interval). done i 0) (first_follows c m f n (there k.1.0)).0)
      (λ k. (first_follows c m f n (there k.1.0)).1)
