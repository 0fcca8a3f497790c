-- What the parts of the struct stand for in the model: names, phases, other live rows, another row. Assumes nothing.
use Rattle.std.specs.Prelude.{◌≡◌, ℕ, suc, ◌<◌, ◌≤◌, Bool, true, false, ◌&&◌, List, map, length, get_or, take, drop, ◌==◌, slice_index_or, slice_set, refl}
use Rattle.std.proofs.Math.Path.{sym, ap}
use Rattle.std.proofs.Common.{◌∙◌, arith, get_or-take}
use Rattle.std.proofs.lemmas.Simd.{map-map}
use Rattle.std.proofs.Math.ListN.{length-take}
use Rattle.std.proofs.Math.Seq.{take-set-lt}
use Rattle.base.specs.Choice.{pick}
use Rattle.base.specs.Lists.{any, all, once, cut_at}
use Rattle.base.specs.Laws.Tests.{and_i, pick_map}
use Rattle.base.specs.Laws.Keep.{all_append, all_take, all_drop, all_set, all_get_d}
use Rattle.base.specs.Laws.Maps.{any_map, map_swap}
use Rattle.base.specs.Laws.Over.{take_over}
use Rattle.base.specs.Laws.Cut.{length_cut}
use Rattle.base.specs.Laws.Index.{set_by_name}
use Rattle.model.specs.Limits.{cabinet}
use Rattle.model.specs.Interval as model
use Rattle.model.proofs.Laws.SoundInterval.{view}
use Rattle.interval.specs.declared.Phase.{Phase}
use Rattle.interval.specs.declared.Phase.TheVariants.{Waiting, Expired, Active}
use Rattle.interval.specs.declared.Request.{Request}
use Rattle.interval.specs.declared.Requests.{Requests}
use Rattle.interval.specs.Table.{live, with_live, in_phase}
use Rattle.interval.specs.Stands.{phase_at, request_at, interval_at, Means, sound_r}
use Rattle.interval.specs.Rows.{is_expired, is_active, not_taken, active, named, out_row, with_row}
use Rattle.interval.specs.Laws.Ties.{short, Small, sound_here}

-- ---- phases

module _ (c register : ℕ) where
  pub active_at : (p : Phase) → model.is_active (phase_at c register p) ≡ is_active p
  active_at (Waiting d) = refl
  active_at Expired = refl
  active_at (Active t) = refl

  pub expired_at : (p : Phase) → model.is_expired (phase_at c register p) ≡ is_expired p
  expired_at (Waiting d) = refl
  expired_at Expired = refl
  expired_at (Active t) = refl

  pub taken_at : (p : Phase) → model.not_taken (phase_at c register p) ≡ not_taken p
  taken_at (Waiting d) = refl
  taken_at Expired = refl
  taken_at (Active t) = refl

-- ---- names

abbrev pub name_of : Request → ℕ
name_of q = q.name

module _ (c : ℕ) (t : Requests) where
  pub known_at : (n : ℕ) → model.known_request (interval_at c t).requests n ≡ any (named n) (live t)
  unfolding interval_at
  known_at n = any_map (request_at c t.register) (named n) (λ (q : model.Request). (q.name == n)) (λ q. refl) (live t)

  pub task_at : (n : ℕ) → model.active_task (interval_at c t) n ≡ any (λ (q : Request). active q && named n q) (live t)
  unfolding interval_at
  task_at n =
      any_map (request_at c t.register) (λ (q : Request). active q && named n q) (λ (q : model.Request). model.active q && q.name == n)
      (λ q. ap (λ (b : Bool). b && q.name == n) (active_at c t.register q.phase)) (live t)

  pub names_once : Means t c → sound_r t ≡ true → once (map name_of (live t)) ≡ true
  unfolding interval_at
  names_once m s =
      let o = (view {L = cabinet} {i = interval_at c t} (sound_here t c m s)).requests.unique in
      sym (ap once (map-map (λ (q : model.Request). q.name) (request_at c t.register) (live t))) ∙ o

  -- ---- other live rows
  pub live_at : (l : List Request) → interval_at c (with_live t l) ≡ model.with_requests (interval_at c t) (map (request_at c t.register) l)
  unfolding interval_at
  live_at l = rw (take_over l t.rows)

  pub row_at_lem : (i : ℕ) (q : Request) → i < t.count
      → interval_at c (with_row t i q) ≡ model.with_requests (interval_at c t) (map (request_at c t.register) (slice_set (live t) i q))
  unfolding interval_at
  row_at_lem i q h = rw (take-set-lt t.count t.rows i q h)

  -- ---- a request in another phase
  pub turn_at : (n : ℕ) (b : Bool)
      → model.at_request n (model.in_phase (model.Active b)) (map (request_at c t.register) (live t))
      ≡ map (request_at c t.register) (map (λ (q : Request). pick (q.name == n) (in_phase (Active b) q) q) (live t))
  turn_at n b =
      map_swap (request_at c t.register) (λ (q : Request). pick (q.name == n) (in_phase (Active b) q) q)
      (λ (q : model.Request). pick (q.name == n) (model.in_phase (model.Active b) q) q)
      (λ q. sym (pick_map (request_at c t.register) (q.name == n) (in_phase (Active b) q) q)) (live t)

  -- at its place, where its name is the only one
  pub turned : Means t c → sound_r t ≡ true → (i : ℕ) (b : Bool) → i < length (live t)
      → interval_at c (with_row t i (in_phase (Active b) (slice_index_or (live t) i out_row)))
      ≡ model.with_requests (interval_at c t) (model.at_request (get_or (live t) i out_row).name (model.in_phase (model.Active b)) (interval_at c t).requests)
  unfolding interval_at
  turned m s i b h =
      let k : i < t.count = omega (arith, length-take t.count t.rows) in
      row_at_lem i (in_phase (Active b) (slice_index_or (live t) i out_row)) k
      ∙ ap (λ (l : List Request). model.with_requests (interval_at c t) (map (request_at c t.register) l)) (set_by_name name_of (in_phase (Active b)) (live t) i out_row (names_once m s) h)
      ∙ ap (model.with_requests (interval_at c t)) (sym (turn_at (get_or (live t) i out_row).name b))

-- ---- their bounds

module _ (t : Requests) (s : Small t) where
  pub live_few : length (live t) ≤ 32
  live_few = omega (arith, length-take t.count t.rows, s.requests)

  pub live_small : (l : List Request) → length l ≤ 32 → all short l ≡ true → Small (with_live t l)
  live_small l n h = record { programs = s.programs; terminals = s.terminals; requests = n; shorts = rw (take_over l t.rows) h }

  pub cut_small : (i : ℕ) → i < length (live t) → Small (with_live t (cut_at i (live t)))
  cut_small i h =
      live_small (cut_at i (live t)) (omega (arith, live_few, length_cut i (live t) h))
      (rw (all_append short (take i (live t)) (drop (suc i) (live t)))
      (and_i (all_take short i (live t) s.shorts) (all_drop short (suc i) (live t) s.shorts)))

  pub row_small : (i : ℕ) (q : Request) → i < t.count → short q ≡ true → Small (with_row t i q)
  row_small i q h e = record {
    programs = s.programs;
    terminals = s.terminals;
    requests = s.requests;
    shorts = rw (take-set-lt t.count t.rows i q h) (all_set short (live t) i q s.shorts e);
  }

  -- a live row in another phase
  pub turned_small : (i : ℕ) (b : Bool) → i < length (live t) → Small (with_row t i (in_phase (Active b) (slice_index_or (live t) i out_row)))
  turned_small i b h =
      row_small i (in_phase (Active b) (slice_index_or (live t) i out_row)) (omega (arith, length-take t.count t.rows))
      (all_get_d short (live t) i out_row s.shorts h)

-- a live row, read in its array
pub read_row : (t : Requests) (i : ℕ) → i < length (live t) → slice_index_or t.rows i out_row ≡ slice_index_or (live t) i out_row
read_row t i h = sym (get_or-take t.count t.rows i out_row (omega (arith, length-take t.count t.rows)))

pub and_yes : (b : Bool) → (b && true) ≡ b
and_yes true = refl
and_yes false = refl
