-- Removing by a place is what the model does by the name that stands there, where names stand once. Assumes nothing.
use Rattle.std.specs.Prelude.{ℕ, ◌<◌, ◌≡◌, refl, true, false, eqb, length, get_or, Some}
use Rattle.std.proofs.Common.{sym, ◌∙◌, subst, arith}
use Rattle.std.proofs.Math.Path.{ap}
use Rattle.std.proofs.Math.Bool.{not}
use mathlib.Core.List.{List, map}
use borrow.Author.Tests.{eqb-true, lt-ltb, le-ltb}
use Rattle.base.specs.Lists.{keep, any, first, first_at, cut_at}
use Rattle.base.specs.Laws.Tests.{by_test}
use Rattle.base.specs.Laws.Keep.{all_none, keep_all, first_at_lt, first_at_none, first_passes, get_d_first_at}
use Rattle.base.specs.Laws.Maps.{keep_map}
use Rattle.base.specs.Laws.Index.{cut_by_name}
use Rattle.model.specs.Interval as model
use Rattle.model.proofs.Laws.SoundInterval.{remove_sound}
use Rattle.request_rows.specs.Rows.{Row, no_row, named}
use Rattle.request_rows.specs.Table.{Requests, live, with_live}
use Rattle.request_rows.specs.Remove.{remove_at, place_of, remove_in}
use Rattle.request_rows.specs.Active.{task_in}
use Rattle.request_rows.specs.Stands.{Memory, with_requests, limits_of, interval_at, Fine}
use Rattle.request_rows.specs.Laws.Ties.{sound_here, fine_after}
use Rattle.request_rows.specs.Laws.Standing.{name_of, read_at, names_once, live_at, cut_stays}
use Rattle.request_rows.specs.Laws.Active.{task_there}

-- the requests t stand for the state without the request of that name, and are sound
abbrev pub Removed : ℕ → Memory → ℕ → Requests → Type 0
Removed c m n t = (interval_at c (with_requests m t) ≡ model.remove (interval_at c m) n) × Fine c (with_requests m t)

-- the model drops what the live rows drop
drop_at : (c : ℕ) (m : Memory) (n : ℕ) (l : List Row) → model.drop_request n (map (read_at c m) l) ≡ map (read_at c m) (keep (λ (q : Row). not (named n q)) l)
drop_at c m n l = keep_map (read_at c m) (λ (q : Row). not (named n q)) (λ (q : model.Request). not (eqb q.name n)) (λ q. refl) l

-- the name at the first place of a name
pub placed : (n : ℕ) (l : List Row) → any (named n) l ≡ true → (get_or l (first_at (named n) l) no_row).name ≡ n
placed n l h = ap name_of (get_d_first_at (named n) no_row l) ∙ eqb-true (first (named n) no_row l).name n (first_passes (named n) no_row l h)

module _ (c : ℕ) (m : Memory) (f : Fine c m) where
  cut_stands : (i : ℕ) → i < length (live m.requests)
      → interval_at c (with_requests m (with_live m.requests (cut_at i (live m.requests))))
      ≡ model.remove (interval_at c m) (get_or (live m.requests) i no_row).name
  unfolding interval_at
  cut_stands i h =
      let l : List Row = live m.requests in
      live_at c m (cut_at i l)
      ∙ ap (λ (r : List Row). model.with_requests (interval_at c m) (map (read_at c m) r)) (cut_by_name name_of l i no_row (names_once c m f) h)
      ∙ ap (model.with_requests (interval_at c m)) (sym (drop_at c m (get_or l i no_row).name l))

  -- of any live row
  pub place_follows : (i : ℕ) → i < length (live m.requests) → Removed c m (get_or (live m.requests) i no_row).name (remove_at m.requests i)
  unfolding remove_at
  place_follows i h =
      let e = cut_stands i h in
      rw (lt-ltb i (length (live m.requests)) h)
      (e, fine_after c m _ (cut_stays c m f i h) (ap (model.sound_interval (limits_of m)) e ∙ remove_sound (limits_of m) (interval_at c m) (sound_here m c f) _))

  -- the first of a name
  pub first_follows : (n : ℕ) → any (named n) (live m.requests) ≡ true → Removed c m n (remove_at m.requests (place_of m.requests n))
  first_follows n h =
      subst (λ (k : ℕ). Removed c m k (remove_at m.requests (place_of m.requests n))) (placed n (live m.requests) h)
      (place_follows (place_of m.requests n) (first_at_lt (named n) (live m.requests) h))

  none_follows : (n : ℕ) → any (named n) (live m.requests) ≡ false → Removed c m n (remove_at m.requests (place_of m.requests n))
  unfolding remove_at interval_at
  none_follows n h =
      let l : List Row = live m.requests in
      let k : keep (λ (q : Row). not (named n q)) (live m.requests) ≡ live m.requests =
      keep_all (λ (q : Row). not (named n q)) l (all_none (named n) l ∙ ap not h) in
      rw (first_at_none (named n) l h, le-ltb (length l) (length l) (omega arith))
      (ap (model.with_requests (interval_at c m)) (sym (drop_at c m n l ∙ ap (map (read_at c m)) k)), f)

  pub remove_follows : (n : ℕ)
      → (interval_at c (with_requests m (remove_in m.requests n)) ≡ model.remove (interval_at c m) n) × Fine c (with_requests m (remove_in m.requests n))
  unfolding remove_in
  remove_follows n = by_test (any (named n) (live m.requests)) (first_follows n) (none_follows n)

  -- the row of an active task
  pub remove_at_follows : (n : ℕ) {i : ℕ} → task_in m.requests n ≡ Some i
      → (interval_at c (with_requests m (remove_at m.requests i)) ≡ model.remove (interval_at c m) n) × Fine c (with_requests m (remove_at m.requests i))
  remove_at_follows n {i} e =
      let r = task_there m.requests n i e in
      subst (λ (k : ℕ). Removed c m k (remove_at m.requests i)) r.name (place_follows i r.within)
