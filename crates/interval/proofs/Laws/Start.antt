-- Starting is what the model does: the due tick, reckoned on the circle, stands for the clock plus the interval. Assumes nothing.
use Rattle.std.specs.Prelude.{◌≡◌, ℕ, zero, suc, ◌+◌, ◌^◌, ◌<◌, ◌≤◌, Bool, true, false, not, ◌||◌, List, [], ◌∷◌, ◌++◌, map, length, replicate, ◌==◌, nat_le, nat_lt, ltb, slice_set, refl, is_some, Result, Ok, Err, is_ok}
use Rattle.std.specs.List.{position}
use Rattle.std.proofs.Common.{sym, ◌∙◌, ltb-false, leb-false, le-leb, ne_eqb}
use Rattle.std.proofs.Math.Path.{ap, ap₂}
use Rattle.std.proofs.lemmas.List.{map-append}
use native.Mathlib.Omega.{arith}
use Rattle.std.proofs.Math.ListN.{length-append, length-take, length-map}
use Rattle.base.specs.Choice.{pick}
use Rattle.base.specs.Lists.{any, first_at, has, over}
use Rattle.base.specs.Bytes.{blank, is_bytes}
use Rattle.base.specs.Laws.Tests.{by_test, no, and_i, pick_map, pick_elim}
use Rattle.base.specs.Laws.Keep.{all_append, first_at_any}
use Rattle.base.specs.Laws.Library.{position_of}
use Rattle.base.specs.Laws.Over.{take_over, over_put}
use Rattle.model.specs.Limits.{cabinet}
use Rattle.model.specs.Plans.{Outcome, first_of, obey, check, done, invalid_request, wrong_length, unknown_program, unknown_terminal, not_unique, no_space}
use Rattle.model.specs.Interval as model
use Rattle.base.specs.Laws.Tests.{or_false_r}
use Rattle.model.proofs.Laws.SoundStart.{start_sound}
use Rattle.interval.specs.declared.Request.{Request}
use Rattle.interval.specs.declared.Requests.{Requests}
use Rattle.interval.specs.declared.answers.StartError.{StartError}
use Rattle.interval.specs.declared.answers.StartError.TheVariants as answers
use Rattle.interval.specs.Answers.{Started}
use Rattle.interval.specs.Circle.{after, to_go}
use Rattle.interval.specs.Table.{programs_of, terminals_of, live, with_live}
use Rattle.interval.specs.Stands.{phase_at, request_at, interval_at, Means, sound_r, Done}
use Rattle.interval.specs.Rows.{named}
use Rattle.interval.specs.Start.{start_gives, ruling, ruled, begun_at, new_row, started, start_in}
use Rattle.interval.specs.Laws.Typed.{with_rows, counted}
use Rattle.interval.specs.Laws.Ties.{short, Small, small, finish}
use Rattle.interval.proofs.Laws.Standing.{known_at, live_at, live_small}

-- ---- what a ruling comes to

clear : (b : Bool) (e : StartError) (y : Result (Unit {0}) StartError) → is_ok (pick b (Err e) y) ≡ true → (b ≡ false) × (is_ok y ≡ true)
clear true e y h = no h
clear false e y h = (refl, h)

-- what a start that is done has found out
pub record Clear (i size count : ℕ) : Type 0 where
  pub soon : i ≤ 359_999_000
  pub fits : size ≤ 64
  pub room : count < 32

pub cleared : (n i size : ℕ) (program terminal taken : Bool) (count : ℕ) → is_ok (ruling n i size program terminal taken count) ≡ true → Clear i size count
unfolding ruling
cleared n i size program terminal taken count e =
    let a = clear (n == blank 8 || nat_lt 359_999_000 i) answers.Invalid _ e in
    let b = clear (nat_lt 64 size) answers.WrongLength _ a.1 in
    let c = clear (not program) answers.UnknownProgram _ b.1 in
    let d = clear (not terminal) answers.UnknownTerminal _ c.1 in
    let f = clear taken answers.NotUnique _ d.1 in
    let g = clear (nat_le 32 count) answers.NoSpace (Ok tt) f.1 in
    record {
      soon = ltb-false 359_999_000 i (or_false_r (n == blank 8) (nat_lt 359_999_000 i) a.0);
      fits = ltb-false 64 size b.0;
      room = leb-false 32 count g.0;
    }

-- the six tests, and the six checks
abbrev chain : Bool → Bool → Bool → Bool → Bool → Bool → Result (Unit {0}) StartError
chain b1 b2 b3 b4 b5 b6 =
    pick b1 (Err answers.Invalid) (pick b2 (Err answers.WrongLength) (pick b3 (Err answers.UnknownProgram) (pick b4 (Err answers.UnknownTerminal)
    (pick b5 (Err answers.NotUnique) (pick b6 (Err answers.NoSpace) (Ok tt))))))

chosen : (b1 b2 b3 b4 b5 b6 : Bool) (i new : model.Interval) → ◌≡◌ {A = Outcome model.Interval}
    (record { condition = start_gives (chain b1 b2 b3 b4 b5 b6); number = 0; bytes = []; state = pick (is_ok (chain b1 b2 b3 b4 b5 b6)) new i })
    (obey i (first_of (check b1 invalid_request ∷ check b2 wrong_length ∷ check b3 unknown_program ∷ check b4 unknown_terminal ∷ check b5 not_unique ∷ check b6 no_space ∷ []))
    (done new 0))
chosen true b2 b3 b4 b5 b6 i new = refl
chosen false true b3 b4 b5 b6 i new = refl
chosen false false true b4 b5 b6 i new = refl
chosen false false false true b5 b6 i new = refl
chosen false false false false true b6 i new = refl
chosen false false false false false true i new = refl
chosen false false false false false false i new = refl

-- ---- the new request

go_due : (r i : ℕ) → r < 2 ^ 32 → i < 2 ^ 32 → to_go (after r i) r ≡ i
unfolding to_go after
go_due r i hr hi = omega arith

begun_at_lem : (c r i : ℕ) → r < 2 ^ 32 → i < 2 ^ 32 → phase_at c r (begun_at r i) ≡ model.begun c i
unfolding begun_at
begun_at_lem c r zero hr hi = refl
begun_at_lem c r (suc i) hr hi =
    rw (ne_eqb (suc i) 0 (λ e. omega arith)) (ap (λ (k : ℕ). model.Waiting (c + k)) (go_due r (suc i) hr hi))

new_at : (c r : ℕ) (a : model.Asked) → r < 2 ^ 32 → a.interval ≤ 359_999_000 → request_at c r (new_row r a) ≡ model.accepted c a
new_at c r a hr hi = rw (begun_at_lem c r a.interval hr (omega arith), take_over a.bytes (replicate 64 0))

-- ---- the plan

module _ (t : Requests) (a : model.Asked) where
  abbrev more : Requests
  more = with_live t (live t ++ (new_row t.register a ∷ []))

  abbrev StartDone : ℕ → Started → Type 0
  StartDone c r = Done c c t r.requests (model.start cabinet (interval_at c t) a) (start_gives r.outcome) 0 []

  abbrev pub StartBoth : Started → Type 0
  StartBoth r = (r ≡ start_in t a) × ((c : ℕ) → Means t c → sound_r t ≡ true → StartDone c r)

  pub facts : is_ok (ruled t a) ≡ true → Clear a.interval (length a.bytes) (length (live t))
  facts = cleared a.name a.interval (length a.bytes) (has a.program (programs_of t)) (model.none_or_known a.terminal (terminals_of t)) (any (named a.name) (live t)) (length (live t))

  module _ (c : ℕ) (m : Means t c) where
    more_at : a.interval ≤ 359_999_000
        → interval_at c more ≡ model.with_requests (interval_at c t) ((interval_at c t).requests ++ (model.accepted (interval_at c t).clock a ∷ []))
    unfolding interval_at
    more_at h =
        let r : ℕ = t.register in
        let hr : t.register < 2 ^ 32 = omega arith in
        live_at c t (live t ++ (new_row r a ∷ []))
        ∙ ap (model.with_requests (interval_at c t))
        (map-append (request_at c r) (live t) (new_row r a ∷ []) ∙ ap (λ (q : model.Request). map (request_at c r) (live t) ++ (q ∷ [])) (new_at c r a hr h))

    count_at : length (interval_at c t).requests ≡ length (live t)
    unfolding interval_at
    count_at = length-map (live t) (request_at c t.register)

    start_outcome : ◌≡◌ {A = Outcome model.Interval}
        (record { condition = start_gives (start_in t a).outcome; number = 0; bytes = []; state = interval_at c (start_in t a).requests })
        (obey (interval_at c t) (first_of (model.start cabinet (interval_at c t) a).checks) (model.start cabinet (interval_at c t) a).effect)
    unfolding start_in model.start ruling interval_at
    start_outcome =
        let o : Result (Unit {0}) StartError = ruled t a in
        let new : model.Interval = model.with_requests (interval_at c t) ((interval_at c t).requests ++ (model.accepted c a ∷ [])) in
        rw (known_at c t a.name, count_at)
        (ap (λ (i : model.Interval). record { condition = start_gives o; number = 0; bytes = []; state = i })
        (pick_map (interval_at c) (is_ok o) more t ∙ by_test (is_ok o) (λ e. rw e (more_at (facts e).soon)) (λ e. rw e))
        ∙ chosen (a.name == blank 8 || nat_lt 359_999_000 a.interval) (nat_lt 64 (length a.bytes)) (not (has a.program (programs_of t)))
        (not (model.none_or_known a.terminal (terminals_of t))) (any (named a.name) (live t)) (nat_le 32 (length (live t))) (interval_at c t) new)

  start_small : sound_r t ≡ true → Small (start_in t a).requests
  unfolding start_in
  start_small s =
      pick_elim Small (is_ok (ruled t a)) more t
      (λ e.
      let f = facts e in
      live_small t (small t s) (live t ++ (new_row t.register a ∷ [])) (simp length-append (omega (arith, f.room)))
      (rw (all_append short (live t) (new_row t.register a ∷ []))
      (and_i (small t s).shorts (and_i (le-leb (length a.bytes) 64 f.fits) refl))))
      (λ _. small t s)

  start_means : (c : ℕ) → Means t c → Means (start_in t a).requests c
  unfolding start_in
  start_means c m = pick_elim (λ (u : Requests). Means u c) (is_ok (ruled t a)) more t (λ _. m) (λ _. m)

  -- ---- both clauses
  module _ (name : a.name < 256 ^ 8) (bytes : is_bytes a.bytes ≡ true) where
    pub start_both : (r : Started) → r ≡ start_in t a → StartBoth r
    start_both r e = (
      e,
      λ c m s. rw e
          (finish c c t (start_in t a).requests (model.start cabinet (interval_at c t) a) (start_gives (start_in t a).outcome) 0 [] m s
          (start_outcome c m) (λ h f. start_sound cabinet (interval_at c t) h a name bytes f) (start_means c m) (start_small s)),
    )

    module _ (o : Result (Unit {0}) StartError) (eo : o ≡ ruled t a) where
      -- another than done
      pub start_same : is_ok o ≡ false → StartBoth (record { requests = t; outcome = o })
      unfolding start_in
      start_same e =
          let same : t ≡ pick (is_ok o) more t = rw e in
          start_both (record { requests = t; outcome = o })
          (ap (λ (u : Requests). record { requests = u; outcome = o }) same
          ∙ ap (λ (y : Result (Unit {0}) StartError). started y t more) eo)

      pub start_facts : is_ok o ≡ true → Clear a.interval (length a.bytes) (length (live t))
      start_facts e = facts (ap is_ok (sym eo) ∙ e)

      -- the row is put behind the others
      pub start_put : is_ok o ≡ true → length t.rows ≡ 32 → (n : ℕ) → n ≡ length (live t) → (q : Request) → q ≡ new_row t.register a
          → StartBoth (record { requests = counted (n + 1) (with_rows t (slice_set t.rows n q)); outcome = o })
      unfolding start_in
      start_put e long n en q eq =
          let f = start_facts e in
          let z = length-take t.count t.rows in
          let k : n ≡ t.count = omega (arith, f.room) in
          let c : n + 1 ≡ length (live t ++ (new_row t.register a ∷ [])) = simp length-append (omega arith) in
          let l : slice_set t.rows n q ≡ over (live t ++ (new_row t.register a ∷ [])) t.rows =
          ap₂ (λ (i : ℕ) (x : Request). slice_set t.rows i x) k eq ∙ over_put t.count t.rows (new_row t.register a) (omega (arith, f.room)) in
          let done : more ≡ pick (is_ok o) more t = rw e in
          start_both _
          (ap₂ (λ (i : ℕ) (r : List Request). record { requests = counted i (with_rows t r); outcome = o }) c l
          ∙ ap (λ (u : Requests). record { requests = u; outcome = o }) done
          ∙ ap (λ (y : Result (Unit {0}) StartError). started y t more) eo)

-- whether the name is in use, as the library's `position` says it
pub taken_is : (t : Requests) (n : ℕ) → is_some (position (named n) (live t)) ≡ any (named n) (live t)
taken_is t n = ap is_some (position_of (named n) (live t)) ∙ sym (first_at_any (named n) (live t) ∙ by_test (ltb (first_at (named n) (live t)) (length (live t))) (λ e. rw e) (λ e. rw e))
