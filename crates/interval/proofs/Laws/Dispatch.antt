-- Dispatching is what the model does: the first that is ready stands, in the line, behind those that were passed. Assumes nothing.
use Rattle.std.specs.Prelude.{◌≡◌, ℕ, ◌<◌, Bool, true, false, ◌&&◌, List, ◌++◌, map, length, get_or, take, ◌==◌, nat_eq, slice_index_or, refl, Some, None}
use Rattle.std.specs.List.{position, count_by}
use Rattle.std.proofs.Math.Path.{sym, ap}
use Rattle.std.proofs.Common.{ap₂, ◌∙◌, arith}
use Rattle.std.proofs.Math.ListN.{length-map}
use Rattle.base.specs.Lists.{keep, any, first, first_at, has}
use Rattle.base.specs.Bytes.{bytes_of}
use Rattle.base.specs.Laws.Tests.{by_test}
use Rattle.base.specs.Laws.Keep.{any_keep, first_in, first_at_lt, get_d_first_at, first_at_in, first_default}
use Rattle.base.specs.Laws.Maps.{any_map, keep_map, first_map, first_at_map, map_take}
use Rattle.base.specs.Laws.Counting.{has_map}
use Rattle.model.specs.Limits.{cabinet}
use Rattle.model.specs.Plans.{Outcome, first_of, obey}
use Rattle.model.specs.Interval as model
use Rattle.model.proofs.Laws.SoundDispatch.{dispatch_sound}
use Rattle.interval.specs.declared.Request.{Request}
use Rattle.interval.specs.declared.Requests.{Requests}
use Rattle.interval.specs.declared.Phase.TheVariants.{Active}
use Rattle.interval.specs.declared.answers.Dispatched.{Dispatched}
use Rattle.interval.specs.Table.{live, in_phase}
use Rattle.interval.specs.Stands.{request_at, interval_at, Means, sound_r, Done}
use Rattle.interval.specs.Rows.{expired, active, out_row, no_row, with_row}
use Rattle.interval.specs.Dispatch.{At, Nothing, dispatch_gives, dispatch_bytes, program_of, terminal_of, ready, passed_by, pick_in, dispatched, dispatched_row, dispatch_in}
use Rattle.interval.specs.Laws.Ties.{Small, small, finish}
use Rattle.interval.proofs.Busy.{line_is}
use Rattle.interval.proofs.Places.{placed, nowhere}
use Rattle.interval.proofs.Laws.Standing.{active_at, expired_at, turned, turned_small, read_row}

abbrev DispatchDone : ℕ → Requests → Dispatched → Type 0
DispatchDone c t r = Done c c t r.requests (model.dispatch (interval_at c t)) (dispatch_gives r.started) r.passed (dispatch_bytes r.started)

module _ (c : ℕ) (t : Requests) where
  abbrev at : Request → model.Request
  at q = request_at c t.register q

  abbrev i : model.Interval
  i = interval_at c t

  abbrev l : List Request
  l = live t

  -- ---- who is busy, who can start

  busy_at : (f : Request → ℕ) (g : model.Request → ℕ) → ((q : Request) → g (request_at c t.register q) ≡ f q) → (n : ℕ)
      → any (λ (a : model.Request). model.active a && g a == n) (map at l) ≡ has n (map f (keep active l))
  busy_at f g h n =
      any_map at (λ (a : Request). active a && f a == n) (λ (a : model.Request). model.active a && g a == n)
      (λ q. ap₂ (λ (b : Bool) (k : ℕ). b && k == n) (active_at c t.register q.phase) (h q)) l
      ∙ sym (has_map f n (keep active l) ∙ any_keep (λ (a : Request). nat_eq (f a) n) active l)

  abbrev ready_in : model.Request → Bool
  ready_in q = model.expired q && model.startable i q

  ready_at : (q : Request) → ready_in (at q) ≡ ready l q
  unfolding interval_at
  ready_at q =
      rw (
        expired_at c t.register q.phase,
        busy_at terminal_of (λ (a : model.Request). a.terminal) (λ q. refl) q.terminal,
        busy_at program_of (λ (a : model.Request). a.program) (λ q. refl) q.program,
      )

  -- ---- in the line

  any_at : any (model.startable i) (model.line i) ≡ any (ready l) l
  unfolding interval_at
  any_at = any_keep (model.startable i) model.expired (map at l) ∙ any_map at (ready l) ready_in ready_at l

  first_at_lem : first (model.startable i) model.no_request (model.line i) ≡ at (first (ready l) no_row l)
  unfolding interval_at
  first_at_lem = first_in (model.startable i) model.expired model.no_request (map at l) ∙ first_map at (ready l) ready_in ready_at no_row l

  line_at : length (model.line i) ≡ length (keep expired l)
  unfolding interval_at
  line_at =
      ap length (keep_map at expired model.expired (λ q. expired_at c t.register q.phase) l) ∙ length-map (keep expired l) at

  passed_at : first_at (model.startable i) (model.line i) ≡ passed_by (first_at (ready l) l) l
  unfolding interval_at
  passed_at =
      first_at_in (model.startable i) model.expired (map at l)
      ∙ ap (λ (k : ℕ). length (keep model.expired (take k (map at l)))) (first_at_map at (ready l) ready_in ready_at l)
      ∙ ap (λ (r : List model.Request). length (keep model.expired r)) (sym (map_take at (first_at (ready l) l) l))
      ∙ ap length (keep_map at expired model.expired (λ q. expired_at c t.register q.phase) (take (first_at (ready l) l) l))
      ∙ length-map (keep expired (take (first_at (ready l) l) l)) at

  -- ---- the row that is picked

  abbrev j : ℕ
  j = first_at (ready l) l

  abbrev there : Request
  there = slice_index_or l j out_row

  picked_row : any (ready l) l ≡ true → first (ready l) no_row l ≡ there
  picked_row h = first_default (ready l) no_row out_row l h ∙ sym (get_d_first_at (ready l) out_row l)

  dispatched_as : any (ready l) l ≡ true → dispatch_in t ≡ dispatched_row t j there (passed_by j l)
  unfolding dispatch_in pick_in
  dispatched_as h = rw h (ap (λ (q : Request). dispatched_row t j q (passed_by j l)) (read_row t j (first_at_lt (ready l) l h)))

  nothing_as : any (ready l) l ≡ false → dispatch_in t ≡ dispatched t (Nothing (length (keep expired l)))
  unfolding dispatch_in pick_in
  nothing_as h = rw h

  -- ---- the plan

  abbrev Told : Dispatched → Type 0
  Told r = ◌≡◌ {A = Outcome model.Interval}
      (record { condition = dispatch_gives r.started; number = r.passed; bytes = dispatch_bytes r.started; state = interval_at c r.requests })
      (obey i (first_of (model.dispatch i).checks) (model.dispatch i).effect)

  module _ (m : Means t c) (s : sound_r t ≡ true) where
    starts : any (ready l) l ≡ true → Told (dispatched_row t j there (passed_by j l))
    unfolding model.dispatch
    starts h =
        rw (any_at, first_at_lem, passed_at, picked_row h, h)
        (ap (λ (x : model.Interval). record {
          condition = 0;
          number = passed_by j l;
          bytes = bytes_of 8 there.name ++ bytes_of 4 there.program ++ bytes_of 4 there.terminal;
          state = x;
        }) (turned c t m s j false (first_at_lt (ready l) l h)))

    none_starts : any (ready l) l ≡ false → Told (dispatched t (Nothing (length (keep expired l))))
    unfolding model.dispatch
    none_starts h = rw (any_at, line_at, h)

    abbrev Good : Dispatched → Type 0
    Good r = DispatchDone c t r

    good : (r : Dispatched) → Told r → Means r.requests c → Small r.requests → Good r
    good r e m' h =
        finish c c t r.requests (model.dispatch i) (dispatch_gives r.started) r.passed (dispatch_bytes r.started) m s e
        (λ k f. dispatch_sound cabinet i k f) m' h

    dispatch_done : Good (dispatch_in t)
    dispatch_done =
        by_test (any (ready l) l)
        (λ h. rw (dispatched_as h)
        (good (dispatched_row t j there (passed_by j l)) (starts h) m (turned_small t (small t s) j false (first_at_lt (ready l) l h))))
        (λ h. rw (nothing_as h) (good (dispatched t (Nothing (length (keep expired l)))) (none_starts h) m (small t s)))

-- ---- both clauses

pub dispatch_both : (t : Requests) (r : Dispatched) → r ≡ dispatch_in t
    → (r ≡ dispatch_in t) × ((c : ℕ) → Means t c → sound_r t ≡ true → DispatchDone c t r)
dispatch_both t r e = (e, λ c m s. rw e (dispatch_done c t m s))

-- the picked row is there
pub pick_below : (t : Requests) (i k : ℕ) → pick_in (live t) ≡ At i k → i < length (live t)
unfolding pick_in
pick_below t i k e =
    by_test (any (ready (live t)) (live t))
    (λ h.
    let g : At (first_at (ready (live t)) (live t)) (passed_by (first_at (ready (live t)) (live t)) (live t)) ≡ At i k = rw h at e in
    let same : first_at (ready (live t)) (live t) ≡ i = cc in
    omega (arith, first_at_lt (ready (live t)) (live t) h))
    (λ h.
    let g : Nothing (length (keep expired (live t))) ≡ At i k = rw h at e in
    let z : ◌≡◌ {A = ℕ} 0 1 = cc in
    absurd (omega arith))

-- ---- the code's two ends

module _ (t : Requests) where
  abbrev here : ℕ → Requests → Request → Request → Dispatched
  here k u p q = record { requests = u; passed = k; started = Some (record { name = q.name; program = q.program; terminal = q.terminal }) }

  hit : (i : ℕ) → Some i ≡ position (ready (live t)) (live t)
      → dispatched_row t i (slice_index_or (live t) i out_row) (count_by expired (take i (live t))) ≡ dispatch_in t
  unfolding dispatch_in pick_in
  hit i ei =
      let h = placed (ready (live t)) (live t) i ei in
      let there : i < length (live t) = rw h.1 (first_at_lt (ready (live t)) (live t) h.0) in
      rw (h.0, sym h.1, line_is (take i (live t)), read_row t i there)

  module _ (rows : List Request) (er : rows ≡ live t) where
    pub dispatch_hit : (i : ℕ) → Some i ≡ position (ready rows) rows → (k : ℕ) → k ≡ count_by expired (take i rows)
        → (p : Request) → p ≡ in_phase (Active false) (get_or rows i out_row) → here k (with_row t i p) p (get_or rows i out_row) ≡ dispatch_in t
    dispatch_hit i ei k ek p ep =
        rw (ek, ep, er) (hit i (rw er at ei))

    pub dispatch_none : None ≡ position (ready rows) rows → (k : ℕ) → k ≡ count_by expired rows → record { requests = t; passed = k; started = None } ≡ dispatch_in t
    unfolding dispatch_in pick_in
    dispatch_none e k ek =
        let none : None ≡ position (ready (live t)) (live t) = rw er at e in
        rw (nowhere (ready (live t)) (live t) none, ek, er, line_is (live t))
