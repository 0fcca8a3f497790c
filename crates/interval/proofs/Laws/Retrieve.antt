-- Retrieving is what the model does: the own data once, else those of the first that serves, which goes. Assumes nothing.
use Rattle.std.specs.Prelude.{◌≡◌, ℕ, min, Bool, true, false, List, length, get_or, take, ◌==◌, nat_lt, slice_index_or, Some, None, refl}
use Rattle.std.specs.List.{position}
use Rattle.std.proofs.Common.{sym, ap, ◌∙◌, arith, length-take, take-take, eqb-true, lt-ltb, le-ltb, ltb-true, ltb-false}
use Rattle.base.specs.Lists.{any, first, first_at, cut_at}
use Rattle.base.specs.Laws.Tests.{by_test, no}
use Rattle.base.specs.Laws.Keep.{first_at_lt, first_passes, first_none, get_d_first_at, first_default}
use Rattle.base.specs.Laws.Maps.{any_map, first_map}
use Rattle.base.specs.Laws.Scans.{take_least}
use Rattle.model.specs.Limits.{cabinet}
use Rattle.model.specs.Plans.{Outcome, first_of, obey, cut}
use Rattle.model.specs.Interval as model
use Rattle.model.proofs.Laws.SoundDispatch.{retrieve_sound}
use Rattle.interval.specs.declared.Phase.TheVariants.{Active}
use Rattle.interval.specs.declared.Request.{Request}
use Rattle.interval.specs.declared.Requests.{Requests}
use Rattle.interval.specs.Answers.{Retrieved}
use Rattle.interval.specs.Table.{live, with_live, in_phase}
use Rattle.interval.specs.Stands.{request_at, interval_at, Means, sound_r, Done}
use Rattle.interval.specs.Rows.{named, data_of, out_row, no_row, with_row}
use Rattle.interval.specs.Retrieve.{retrieve_gives, retrieve_number, retrieve_bytes, has_own, serves, handed, nothing, task_of, retrieve_in}
use Rattle.interval.specs.Laws.Ties.{Small, small, finish}
use Rattle.interval.proofs.Places.{placed, nowhere}
use Rattle.interval.proofs.Laws.Standing.{name_of, expired_at, taken_at, turned, turned_small, read_row, cut_small}
use Rattle.interval.proofs.Laws.Remove.{cut_stands_at}

-- ---- the first bytes

given_bytes : (k room : ℕ) (b : List ℕ) → take (min (length (take k b)) room) b ≡ take room (take k b)
given_bytes k room b =
    let d : List ℕ = take k b in
    let n = length-take k b in
    let e : min (length (take k b)) room ≡ min room (length (take k b)) = omega arith in
    sym (take-take (min (length d) room) k b (omega arith)) ∙ ap (λ (j : ℕ). take j d) e ∙ take_least room d

-- cut where there is not room for all
cut_where : (full room : ℕ) → nat_lt (min full room) full ≡ nat_lt room full
cut_where full room =
    by_test (nat_lt room full)
    (λ t. lt-ltb (min full room) full (omega (arith, ltb-true room full t)) ∙ sym t)
    (λ t. le-ltb (min full room) full (omega (arith, ltb-false room full t)) ∙ sym t)

-- ---- the task's own request

module _ (t : Requests) (n : ℕ) where
  -- who has data of its own is there
  pub own_there : has_own (task_of t n) ≡ true → any (named n) (live t) ≡ true
  own_there h =
      by_test (any (named n) (live t)) (λ e. e) (λ e. no (rw (first_none (named n) no_row (live t) e) at h))

  task_is : any (named n) (live t) ≡ true → slice_index_or (live t) (first_at (named n) (live t)) out_row ≡ task_of t n
  task_is h = get_d_first_at (named n) out_row (live t) ∙ first_default (named n) out_row no_row (live t) h

  task_named : any (named n) (live t) ≡ true → (get_or (live t) (first_at (named n) (live t)) out_row).name ≡ n
  task_named h =
      ap name_of (get_d_first_at (named n) out_row (live t)) ∙ eqb-true (first (named n) out_row (live t)).name n (first_passes (named n) out_row (live t) h)

  pub task_row : (i : ℕ) → i ≡ first_at (named n) (live t) → any (named n) (live t) ≡ true → slice_index_or t.rows i out_row ≡ task_of t n
  task_row i e h =
      ap (λ (j : ℕ). get_or t.rows j out_row) e ∙ read_row t (first_at (named n) (live t)) (first_at_lt (named n) (live t) h) ∙ task_is h

  pub no_task : any (named n) (live t) ≡ false → no_row ≡ task_of t n
  no_task h = sym (first_none (named n) no_row (live t) h)

-- ---- in the words of the model

abbrev RetrieveDone : ℕ → Requests → ℕ → ℕ → Retrieved → Type 0
RetrieveDone c t n room r =
    Done c c t r.requests (model.retrieve (interval_at c t) n room) (retrieve_gives r.outcome) (retrieve_number r.outcome) (retrieve_bytes r.outcome)

module _ (c : ℕ) (t : Requests) (n room : ℕ) where
  abbrev at : Request → model.Request
  at q = request_at c t.register q

  abbrev i : model.Interval
  i = interval_at c t

  abbrev l : List Request
  l = live t

  abbrev q : Request
  q = task_of t n

  abbrev serve : Request → Bool
  serve x = serves q.program q.terminal x

  task_at : model.request_of i.requests n ≡ at q
  unfolding interval_at
  task_at = first_map at (named n) (λ (x : model.Request). (x.name == n)) (λ x. refl) no_row l

  own_at : model.has_own (at q) ≡ has_own q
  own_at = rw (taken_at c t.register q.phase)

  serves_at : (x : Request) → model.serves (at q) (at x) ≡ serve x
  serves_at x = rw (expired_at c t.register x.phase)

  any_at : any (model.serves (at q)) i.requests ≡ any serve l
  unfolding interval_at
  any_at = any_map at serve (model.serves (at q)) serves_at l

  server_at : model.server i (at q) ≡ at (first serve no_row l)
  unfolding interval_at
  server_at = first_map at serve (model.serves (at q)) serves_at no_row l

  -- ---- the three ends of the plan

  abbrev Told : Retrieved → Type 0
  Told r = ◌≡◌ {A = Outcome model.Interval}
      (record { condition = retrieve_gives r.outcome; number = retrieve_number r.outcome; bytes = retrieve_bytes r.outcome; state = interval_at c r.requests })
      (obey i (first_of (model.retrieve i n room).checks) (model.retrieve i n room).effect)

  handed_as : (u : Requests) (x : Request) (s : model.Interval) → interval_at c u ≡ s → ◌≡◌ {A = Outcome model.Interval}
      (record { condition = retrieve_gives (handed u x room).outcome; number = retrieve_number (handed u x room).outcome; bytes = retrieve_bytes (handed u x room).outcome; state = interval_at c u })
      (cut s room (data_of x))
  handed_as u x s e =
      rw (cut_where (length (data_of x)) room, given_bytes x.len room x.bytes, e)

  abbrev own : Requests
  own = with_row t (first_at (named n) l) (in_phase (Active true) q)

  abbrev served : Request
  served = slice_index_or t.rows (first_at serve l) out_row

  abbrev less : Requests
  less = with_live t (cut_at (first_at serve l) l)

  module _ (m : Means t c) (s : sound_r t ≡ true) where
    own_stands : has_own q ≡ true → interval_at c own ≡ model.took_own i n
    own_stands h =
        let a = own_there t n h in
        ap (λ (x : Request). interval_at c (with_row t (first_at (named n) l) (in_phase (Active true) x))) (sym (task_is t n a))
        ∙ turned c t m s (first_at (named n) l) true (first_at_lt (named n) l a)
        ∙ ap (λ (k : ℕ). model.with_requests i (model.at_request k (model.in_phase (model.Active true)) i.requests)) (task_named t n a)

    own_told : has_own q ≡ true → Told (handed own q room)
    unfolding model.retrieve
    own_told h = rw (task_at, own_at, h) (handed_as own q (model.took_own i n) (own_stands h))

    server_is : any serve l ≡ true → first serve no_row l ≡ served
    server_is h = first_default serve no_row out_row l h ∙ sym (get_d_first_at serve out_row l) ∙ sym (read_row t (first_at serve l) (first_at_lt serve l h))

    less_stands : any serve l ≡ true → interval_at c less ≡ model.remove i served.name
    less_stands h =
        cut_stands_at c t n m s (first_at serve l) (first_at_lt serve l h)
        ∙ ap (λ (x : Request). model.remove i x.name) (sym (read_row t (first_at serve l) (first_at_lt serve l h)))

    served_told : has_own q ≡ false → any serve l ≡ true → Told (handed less served room)
    unfolding model.retrieve
    served_told h a =
        rw (task_at, own_at, any_at, server_at, h, a, server_is a) (handed_as less served (model.remove i served.name) (less_stands a))

    none_told : has_own q ≡ false → any serve l ≡ false → Told (nothing t)
    unfolding model.retrieve
    none_told h a = rw (task_at, own_at, any_at, h, a)

    good : (r : Retrieved) → Told r → Means r.requests c → Small r.requests → RetrieveDone c t n room r
    good r e m' h =
        finish c c t r.requests (model.retrieve i n room) (retrieve_gives r.outcome) (retrieve_number r.outcome) (retrieve_bytes r.outcome) m s e
        (λ k f. retrieve_sound cabinet i k n room f) m' h

    own_small : has_own q ≡ true → Small own
    own_small h =
        let a = own_there t n h in
        rw (sym (task_is t n a)) (turned_small t (small t s) (first_at (named n) l) true (first_at_lt (named n) l a))

    retrieve_done : RetrieveDone c t n room (retrieve_in t n room)
    unfolding retrieve_in
    retrieve_done =
        by_test (has_own q) (λ h. rw h (good (handed own q room) (own_told h) m (own_small h)))
        (λ h. rw h
        (by_test (any serve l)
        (λ a. rw a (good (handed less served room) (served_told h a) m (cut_small t (small t s) (first_at serve l) (first_at_lt serve l a))))
        (λ a. rw a (good (nothing t) (none_told h a) m (small t s)))))

-- ---- both clauses, and the code's three ends

module _ (t : Requests) (n room : ℕ) where
  abbrev pub RetrieveBoth : Retrieved → Type 0
  RetrieveBoth r = (r ≡ retrieve_in t n room) × ((c : ℕ) → Means t c → sound_r t ≡ true → RetrieveDone c t n room r)

  pub retrieve_both : (r : Retrieved) → r ≡ retrieve_in t n room → RetrieveBoth r
  retrieve_both r e = (e, λ c m s. rw e (retrieve_done c t n room m s))

  abbrev pub task : Request
  task = task_of t n

  abbrev pub serving : Request → Bool
  serving x = serves task.program task.terminal x

  -- the task's own request, where it is there, and where it is not
  pub own_row : (i : ℕ) → Some i ≡ position (named n) (live t) → slice_index_or t.rows i out_row ≡ task
  own_row i e = let p = placed (named n) (live t) i e in task_row t n i p.1 p.0

  pub own_none : None ≡ position (named n) (live t) → no_row ≡ task
  own_none e = no_task t n (nowhere (named n) (live t) e)

  pub retrieve_own : (i : ℕ) → Some i ≡ position (named n) (live t) → has_own (slice_index_or t.rows i out_row) ≡ true
      → (p : Request) → p ≡ in_phase (Active true) (slice_index_or t.rows i out_row)
      → handed (with_row t i p) (slice_index_or t.rows i out_row) room ≡ retrieve_in t n room
  unfolding retrieve_in
  retrieve_own i ei h p ep =
      let is : slice_index_or t.rows i out_row ≡ task = own_row i ei in
      let own : has_own task ≡ true = ap has_own (sym is) ∙ h in
      rw (ep, is, own, (placed (named n) (live t) i ei).1)

  -- q is the task's request
  module _ (q : Request) (is : q ≡ task) (h : has_own q ≡ false) where
    not_own : has_own task ≡ false
    not_own = ap has_own (sym is) ∙ h

    pub retrieve_served : (j : ℕ) → Some j ≡ position (serves q.program q.terminal) (live t) → (u : Requests) → u ≡ with_live t (cut_at j (live t))
        → handed u (slice_index_or t.rows j out_row) room ≡ retrieve_in t n room
    unfolding retrieve_in
    retrieve_served j ej u eu =
        let p = placed serving (live t) j (ej ∙ ap (λ (x : Request). position (serves x.program x.terminal) (live t)) is) in
        rw (not_own, p.0, eu, p.1)

    pub retrieve_nothing : None ≡ position (serves q.program q.terminal) (live t) → nothing t ≡ retrieve_in t n room
    unfolding retrieve_in
    retrieve_nothing e =
        let none = nowhere serving (live t) (e ∙ ap (λ (x : Request). position (serves x.program x.terminal) (live t)) is) in
        rw (not_own, none)
