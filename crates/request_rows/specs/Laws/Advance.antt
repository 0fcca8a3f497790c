-- What advance makes of the requests is what the model's makes of its state, at every clock that the register can mean. Assumes nothing.
use Rattle.std.specs.Prelude.{ℕ, ◌+◌, ◌%◌, ◌^◌, ◌<◌, ◌≡◌, refl, Bool, true, false, not, ltb, set}
use Rattle.std.proofs.Common.{ap, ◌∙◌, arith, leb-false}
use Rattle.std.proofs.Math.Path.{ap₂, sym}
use mathlib.Core.List.{List, ◌++◌, map}
use Rattle.std.proofs.Math.ListN.{length, get_or, length-map}
use Rattle.std.proofs.Math.Seq.{get_or-set_same}
use Rattle.std.proofs.lemmas.Bool.{not-true}
use Rattle.base.specs.Choice.{pick}
use Rattle.base.specs.Lists.{keep}
use Rattle.base.specs.Sort.{sort}
use Rattle.base.specs.Laws.Tests.{by_test, leb_add}
use Rattle.base.specs.Laws.Keep.{length_keep, all_kept}
use Rattle.base.specs.Laws.Maps.{map-map, map-append, map_same, map_all_same, keep_map, sort_map}
use Rattle.base.specs.Laws.Over.{take_over}
use Rattle.model.specs.Plans.{invalid_request, fault, done, outcome_in, Follows}
use Rattle.model.specs.Interval as model
use Rattle.model.proofs.Laws.SoundAdvance.{advance_sound}
use Rattle.request_rows.specs.declared.Phase.{Phase}
use Rattle.request_rows.specs.declared.Phase.TheVariants.{Waiting, Expired, Active}
use Rattle.request_rows.specs.Circle.{after, to_go}
use Rattle.request_rows.specs.Rows.{Row, phase_of, slot_of, in_phase}
use Rattle.request_rows.specs.Table.{Requests, register_of, live, with_live}
use Rattle.request_rows.specs.Advance.{due_in, due, no_later, newly, lapse, passed, advance_in}
use Rattle.request_rows.specs.Stands.{Memory, with_requests, limits_of, phase_at, request_at, interval_at, Fine}
use Rattle.request_rows.specs.Laws.Circle.{to_go_falls, after_lt, after_means}
use Rattle.request_rows.specs.Laws.Ties.{short, inside, Laid, Stays, small, stays_itself, finish}
use Rattle.request_rows.specs.Laws.Standing.{phased, live_few, live_stays, register_stays}
use Rattle.request_rows.specs.Laws.Bounds.{few_live, counted}
use Rattle.request_rows.specs.Laws.Lapse.{stay, late, fallen, lapse_length, all_lapse, lapse_once}

module _ (c reg ticks : ℕ) where
  -- ---- a phase

  due_at : (p : Phase) → model.is_due (c + ticks) (phase_at c reg p) ≡ due_in reg ticks p
  due_at (Waiting d) =
      let e : c + to_go d reg ≡ to_go d reg + c = omega arith in
      let f : c + ticks ≡ ticks + c = omega arith in
      rw (e, f) (leb_add c (to_go d reg) ticks)
  due_at Expired = refl
  due_at (Active b) = refl

  later_at : (p q : Phase) → model.no_later (phase_at c reg p) (phase_at c reg q) ≡ no_later reg p q
  later_at (Waiting d) (Waiting e) =
      let f : c + to_go d reg ≡ to_go d reg + c = omega arith in
      let g : c + to_go e reg ≡ to_go e reg + c = omega arith in
      rw (f, g) (leb_add c (to_go d reg) (to_go e reg))
  later_at (Waiting d) Expired = refl
  later_at (Waiting d) (Active b) = refl
  later_at Expired q = refl
  later_at (Active b) q = refl

  -- of a row that stays due does not move
  stays_at : reg < 2 ^ 32 → (p : Phase) → due_in reg ticks p ≡ false → phase_at (c + ticks) (after reg ticks) p ≡ phase_at c reg p
  stays_at h (Waiting d) n =
      let far : ticks < to_go d reg = leb-false (to_go d reg) ticks n in
      let falls : to_go d (after reg ticks) + ticks ≡ to_go d reg = to_go_falls d reg ticks h (omega arith) in
      ap model.Waiting (omega arith)
  stays_at h Expired n = refl
  stays_at h (Active b) n = refl

  -- ---- the rows

  module _ (area : List ℕ) where
    abbrev before : Row → model.Request
    before q = request_at c reg area q

    abbrev behind : Row → model.Request
    behind q = request_at (c + ticks) (after reg ticks) area q

    abbrev fell : model.Request → Bool
    fell q = model.is_due (c + ticks) q.phase

    newly_at : (l : List Row) → model.newly (c + ticks) (map before l) ≡ map before (newly reg ticks l)
    newly_at l = keep_map before (due reg ticks) fell (λ q. due_at (phase_of q.phase)) l

    stays : reg < 2 ^ 32 → (l : List Row) → map behind (keep (stay reg ticks) l) ≡ keep (λ (q : model.Request). not (fell q)) (map before l)
    stays h l =
        map_all_same (stay reg ticks) behind before (λ q s. rw (stays_at h (phase_of q.phase) (not-true (due reg ticks q) s)))
        (keep (stay reg ticks) l) (all_kept (stay reg ticks) l)
        ∙ sym (keep_map before (stay reg ticks) (λ (q : model.Request). not (fell q)) (λ q. ap not (due_at (phase_of q.phase))) l)

    abbrev line : List model.Request → List model.Request
    line l = sort (λ (q p : model.Request). model.no_later q.phase p.phase) l

    falls : (l : List Row)
        → map behind (map (in_phase Expired) (fallen reg ticks l)) ≡ map (model.in_phase model.Expired) (line (model.newly (c + ticks) (map before l)))
    falls l =
        map-map behind (in_phase Expired) (fallen reg ticks l)
        ∙ map_same (λ (q : Row). behind (in_phase Expired q)) (λ (q : Row). model.in_phase model.Expired (before q))
        (phased (c + ticks) (after reg ticks) area Expired tt) (fallen reg ticks l)
        ∙ sym (map-map (model.in_phase model.Expired) before (fallen reg ticks l))
        ∙ ap (map (model.in_phase model.Expired))
        (sym (ap line (newly_at l)
        ∙ sort_map before (late reg ticks) (λ (q p : model.Request). model.no_later q.phase p.phase)
        (λ q p. later_at (phase_of q.phase) (phase_of p.phase)) (newly reg ticks l)))

    lapse_at : reg < 2 ^ 32 → (l : List Row) → map behind (lapse reg ticks l) ≡ model.lapse (c + ticks) (map before l)
    unfolding lapse
    lapse_at h l =
        map-append behind (keep (stay reg ticks) l) (map (in_phase Expired) (fallen reg ticks l))
        ∙ ap₂ (λ (x y : List model.Request). x ++ y) (stays h l) (falls l)

-- the clock that follows: where it is refused, the same
abbrev pub clock_after : ℕ → ℕ → ℕ
clock_after c ticks = pick (ltb 1_000_000_000 ticks) c (c + ticks)

-- ---- the memory

module _ (c : ℕ) (m : Memory) (f : Fine c m) where
  abbrev i : model.Interval
  i = interval_at c m

  abbrev t : Requests
  t = m.requests

  abbrev reg : ℕ
  reg = register_of m.requests

  module _ (ticks : ℕ) where
    -- the requests that follow, and the state in the model
    abbrev then : List Row
    then = lapse reg ticks (live t)

    abbrev next : model.Interval
    next = model.with_clock (model.with_requests i (model.lapse (i.clock + ticks) i.requests)) (i.clock + ticks)

    passed_stands : interval_at (c + ticks) (with_requests m (passed m.requests ticks)) ≡ next
    unfolding interval_at
    passed_stands =
        let lent = (small m f.soundly).register in
        let there : get_or (set m.requests.register 0 (after (register_of m.requests) ticks)) 0 0 ≡ after (register_of m.requests) ticks =
        get_or-set_same t.register 0 (after reg ticks) 0 (omega arith) in
        let back : after (register_of m.requests) ticks % 4_294_967_296 ≡ after (register_of m.requests) ticks = omega (arith, after_lt reg ticks) in
        rw (there, back, take_over then t.rows, lapse_at c reg ticks m.area (omega arith) (live t))

    -- the newly expired
    abbrev fell_due : List Row
    fell_due = newly reg ticks (live t)

    passed_number : length fell_due % 4_294_967_296 ≡ length (model.newly (i.clock + ticks) i.requests)
    unfolding interval_at
    passed_number =
        counted (length fell_due) (omega (arith, length_keep (due reg ticks) (live t), few_live c m f))
        ∙ sym (ap length (newly_at c reg ticks m.area (live t)) ∙ length-map fell_due (request_at c reg m.area))

    laid : Laid m.area (lapse (register_of m.requests) ticks (live m.requests))
    laid =
        let l = (small m f.soundly).laid in
        record {
          shorts = all_lapse reg ticks short (λ q h. h) (live t) l.shorts;
          insides = all_lapse reg ticks (inside m.area) (λ q h. h) (live t) l.insides;
          apart = lapse_once reg ticks slot_of (λ q. refl) (live t) l.apart;
        }

    passed_stays : Stays (c + ticks) m (with_requests m (passed m.requests ticks))
    passed_stays =
        register_stays c (c + ticks) m (with_live t then) (after reg ticks) (omega (arith, after_means reg c ticks f.means))
        (live_stays c m f then (omega (arith, lapse_length reg ticks (live t), live_few t)) laid)

    passes : ltb 1_000_000_000 ticks ≡ false
        → Follows (interval_at (c + ticks)) (Fine (c + ticks)) (done (with_requests m (passed t ticks)) (length fell_due % 4_294_967_296))
        (interval_at c m) (model.advance (limits_of m) (interval_at c m) ticks)
    unfolding model.advance
    passes fits =
        finish c (c + ticks) m (done (with_requests m (passed t ticks)) (length fell_due % 4_294_967_296)) (model.advance (limits_of m) i ticks) f
        (rw (fits, passed_stands, passed_number)) (λ s e. advance_sound (limits_of m) i s ticks e) passed_stays

    refuses : ltb 1_000_000_000 ticks ≡ true
        → Follows (interval_at c) (Fine c) (fault m invalid_request) (interval_at c m) (model.advance (limits_of m) (interval_at c m) ticks)
    unfolding model.advance
    refuses over =
        finish c c m (fault m invalid_request) (model.advance (limits_of m) i ticks) f (rw over) (λ s e. advance_sound (limits_of m) i s ticks e) (stays_itself c m f)

    pub advance_follows : Follows (interval_at (clock_after c ticks)) (Fine (clock_after c ticks))
        (outcome_in (with_requests m) (advance_in m.requests ticks)) (interval_at c m) (model.advance (limits_of m) (interval_at c m) ticks)
    unfolding advance_in
    advance_follows = by_test (ltb 1_000_000_000 ticks) (λ over. rw over (refuses over)) (λ fits. rw fits (passes fits))
