-- The model does the same whatever its clock shows: tables moved on by k ticks, clock and due ticks alike, answer as before but for
-- the tick answer, and come to tables moved on by k. Assumes nothing.
use Rattle.std.specs.Prelude.{ℕ, suc, zero, ◌+◌, ◌%◌, ◌^◌, ◌≡◌, Bool, true, false, not, ◌&&◌, ◌||◌, length, leb}
use Rattle.std.proofs.Math.Nat.{mod-add-mod}
use Rattle.std.proofs.Common.{arith, sym, ◌∙◌, eqb-true}
use Rattle.std.proofs.Math.Path.{refl, ap}
use mathlib.Core.List.{List, [], ◌∷◌, map, map-append}
use Rattle.std.proofs.Math.ListN.{length-map}
use Rattle.std.proofs.Math.Dec.{eqb}
use Rattle.std.proofs.lemmas.Bool.{eqb-false}
use Rattle.base.specs.Choice.{pick}
use Rattle.base.specs.Lists.{keep, any, first, first_at}
use Rattle.base.specs.Sort.{sort}
use Rattle.base.specs.Bytes.{blank}
use Rattle.base.specs.Laws.Tests.{by_test, leb_add, pick_map}
use Rattle.base.specs.Laws.Maps.{any_map, keep_map, first_map, first_at_map, map_swap, sort_map}
use Rattle.model.specs.Limits.{Limits}
use Rattle.model.specs.Plans.{normal, Outcome, Plan, plan, done, cut, first_of, obey, outcome_in, plan_in}
use Rattle.model.specs.Interval
use Rattle.model.specs.Interval.{Phase, Waiting, Expired, Active, Request, Interval, Asked, in_phase, with_requests, is_active, is_expired, not_taken, is_due, no_later, active, expired, no_request, known_request, request_of, active_task, at_request, remove, newly, lapse, line, startable, started, none_startable, begun, has_own, serves, server, took_own, retrieval}
use Rattle.model.specs.Handlers.{Setting, Unset, Ignore, Label, decides}
use Rattle.model.specs.State.{State, with_interval, without_task}
use Rattle.model.specs.Commands
use Rattle.model.specs.Commands.{Answer, Turn, Row, command, issuer, operand, row_of, plan_of, obey_plan, obeyed, says, settled, settle, refused, formed, allowed, step}
use Rattle.model.specs.Demands.{retick}
use Rattle.model.specs.Laws.Rows.{◌▹◌, of_every}

-- ---- moved on by k ticks

abbrev pub later_phase : ℕ → Phase → Phase
later_phase k (Waiting d) = Waiting (d + k)
later_phase k Expired = Expired
later_phase k (Active t) = Active t

abbrev pub later : ℕ → Request → Request
later k q = in_phase (later_phase k q.phase) q

abbrev pub shift_interval : ℕ → Interval → Interval
shift_interval k i = record { clock = i.clock + k; programs = i.programs; terminals = i.terminals; requests = map (later k) i.requests }

abbrev pub shift : ℕ → State → State
shift k s = with_interval s (shift_interval k s.interval)

abbrev pub shift_turn : ℕ → Turn → Turn
shift_turn k x = record { answer = x.answer; state = shift k x.state }

module _ (k : ℕ) where
  -- ---- phases

  -- a test that does not see the due tick
  blind_later : (f : Phase → Bool) → ((d : ℕ) → f (Waiting (d + k)) ≡ f (Waiting d)) → (p : Phase) → f (later_phase k p) ≡ f p
  blind_later f h (Waiting d) = h d
  blind_later f h Expired = refl
  blind_later f h (Active t) = refl

  pub active_later : (p : Phase) → is_active (later_phase k p) ≡ is_active p
  active_later = blind_later is_active (λ d. refl)

  expired_later : (p : Phase) → is_expired (later_phase k p) ≡ is_expired p
  expired_later = blind_later is_expired (λ d. refl)

  taken_later : (p : Phase) → not_taken (later_phase k p) ≡ not_taken p
  taken_later = blind_later not_taken (λ d. refl)

  due_later : (c : ℕ) (p : Phase) → is_due (c + k) (later_phase k p) ≡ is_due c p
  due_later c (Waiting d) = leb_add k d c
  due_later c Expired = refl
  due_later c (Active t) = refl

  order_later : (p q : Phase) → no_later (later_phase k p) (later_phase k q) ≡ no_later p q
  order_later (Waiting d) (Waiting e) = leb_add k d e
  order_later (Waiting d) Expired = refl
  order_later (Waiting d) (Active t) = refl
  order_later Expired q = refl
  order_later (Active t) q = refl

  -- ---- what the interval part shows of its requests
  module _ (i : Interval) where
    abbrev j : Interval
    j = shift_interval k i

    known_shift : (n : ℕ) → known_request (map (later k) i.requests) n ≡ known_request i.requests n
    known_shift n = any_map (later k) (λ (q : Request). eqb q.name n) (λ (q : Request). eqb q.name n) (λ q. refl) i.requests

    -- the active tasks, by a number that is not their due tick
    active_shift : (f : Request → ℕ) → ((q : Request) → f (later k q) ≡ f q) → (n : ℕ)
        → any (λ (q : Request). active q && eqb (f q) n) (map (later k) i.requests) ≡ any (λ (q : Request). active q && eqb (f q) n) i.requests
    active_shift f same n =
        any_map (later k) (λ (q : Request). active q && eqb (f q) n) (λ (q : Request). active q && eqb (f q) n)
        (λ q. rw (active_later q.phase, same q)) i.requests

    pub task_shift : (n : ℕ) → active_task j n ≡ active_task i n
    task_shift = active_shift (λ (q : Request). q.name) (λ q. refl)

    pub remove_shift : (n : ℕ) → remove j n ≡ shift_interval k (remove i n)
    remove_shift n = ap (with_requests j) (keep_map (later k) (λ (q : Request). not (eqb q.name n)) (λ (q : Request). not (eqb q.name n)) (λ q. refl) i.requests)

    line_shift : line j ≡ map (later k) (line i)
    line_shift = keep_map (later k) expired expired (λ q. expired_later q.phase) i.requests

    set_step : (q : Request) (t b : Bool) → pick b (in_phase (Active t) (later k q)) (later k q) ≡ later k (pick b (in_phase (Active t) q) q)
    set_step q t true = refl
    set_step q t false = refl

    activate_shift : (n : ℕ) (t : Bool) → with_requests j (at_request n (in_phase (Active t)) (map (later k) i.requests)) ≡ shift_interval k (with_requests i (at_request n (in_phase (Active t)) i.requests))
    activate_shift n t =
        ap (with_requests j)
        (map_swap (later k) (λ (q : Request). pick (eqb q.name n) (in_phase (Active t) q) q) (λ (q : Request). pick (eqb q.name n) (in_phase (Active t) q) q)
        (λ q. set_step q t (eqb q.name n)) i.requests)

    -- a choice between two outcomes that are moved on
    choice_shift : (b b' : Bool) (x x' y y' : Outcome Interval) → b' ≡ b → x' ≡ outcome_in (shift_interval k) x → y' ≡ outcome_in (shift_interval k) y
        → pick b' x' y' ≡ outcome_in (shift_interval k) (pick b x y)
    choice_shift b b' x x' y y' e f g = rw (e, f, g) (sym (pick_map (outcome_in (shift_interval k)) b x y))

    -- ---- the commands of interval control
    module _ (L : Limits) where
      pub program_shift : (n : ℕ) → Interval.define_program L j n ≡ plan_in (shift_interval k) (Interval.define_program L i n)
      unfolding Interval.define_program
      program_shift n = refl

      pub terminal_shift : (n : ℕ) → Interval.define_terminal L j n ≡ plan_in (shift_interval k) (Interval.define_terminal L i n)
      unfolding Interval.define_terminal
      terminal_shift n = refl

      pub cancel_shift : (n : ℕ) → Interval.cancel j n ≡ plan_in (shift_interval k) (Interval.cancel i n)
      unfolding Interval.cancel
      cancel_shift n = rw (known_shift n, task_shift n, remove_shift n)

      newly_shift : (c : ℕ) → newly (c + k) (map (later k) i.requests) ≡ map (later k) (newly c i.requests)
      newly_shift c = keep_map (later k) (λ (q : Request). is_due c q.phase) (λ (q : Request). is_due (c + k) q.phase) (λ q. due_later c q.phase) i.requests

      stay_shift : (c : ℕ) → keep (λ (q : Request). not (is_due (c + k) q.phase)) (map (later k) i.requests) ≡ map (later k) (keep (λ (q : Request). not (is_due c q.phase)) i.requests)
      stay_shift c = keep_map (later k) (λ (q : Request). not (is_due c q.phase)) (λ (q : Request). not (is_due (c + k) q.phase)) (λ q. ap not (due_later c q.phase)) i.requests

      lapse_shift : (c : ℕ) → lapse (c + k) (map (later k) i.requests) ≡ map (later k) (lapse c i.requests)
      lapse_shift c =
          let le : Request → Request → Bool = λ q p. no_later q.phase p.phase in
          rw (
            stay_shift c,
            newly_shift c,
            sort_map (later k) le le (λ q p. order_later q.phase p.phase) (newly c i.requests),
            map_swap (later k) (in_phase Expired) (in_phase Expired) (λ q. refl) (sort le (newly c i.requests)),
          )
          (sym (map-append (later k) (keep (λ (q : Request). not (is_due c q.phase)) i.requests) (map (in_phase Expired) (sort le (newly c i.requests)))))

      over : (n : ℕ) → i.clock + k + n ≡ i.clock + n + k
      over n = omega arith

      pub advance_shift : (n : ℕ) → Interval.advance L j n ≡ plan_in (shift_interval k) (Interval.advance L i n)
      unfolding Interval.advance
      advance_shift n = rw (over n, lapse_shift (i.clock + n), newly_shift (i.clock + n), length-map (newly (i.clock + n) i.requests) (later k))

      begun_shift : (n : ℕ) → begun (i.clock + k) n ≡ later_phase k (begun i.clock n)
      begun_shift zero = refl
      begun_shift (suc n) = ap Waiting (omega arith)

      pub start_shift : (a : Asked) → Interval.start L j a ≡ plan_in (shift_interval k) (Interval.start L i a)
      unfolding Interval.start
      start_shift a = rw (known_shift a.name, length-map i.requests (later k), begun_shift a.interval, map-append (later k) i.requests (Interval.accepted i.clock a ∷ []))

      -- dispatch
      startable_shift : (q : Request) → startable j (later k q) ≡ startable i q
      startable_shift q =
          rw (active_shift (λ (a : Request). a.terminal) (λ a. refl) q.terminal, active_shift (λ (a : Request). a.program) (λ a. refl) q.program)

      any_startable : any (startable j) (line j) ≡ any (startable i) (line i)
      any_startable = rw line_shift (any_map (later k) (startable i) (startable j) startable_shift (line i))

      first_startable : first (startable j) no_request (line j) ≡ later k (first (startable i) no_request (line i))
      first_startable = rw line_shift (first_map (later k) (startable i) (startable j) startable_shift no_request (line i))

      passed_over : first_at (startable j) (line j) ≡ first_at (startable i) (line i)
      passed_over = rw line_shift (first_at_map (later k) (startable i) (startable j) startable_shift (line i))

      started_shift : (q : Request) (n : ℕ) → started j (later k q) n ≡ outcome_in (shift_interval k) (started i q n)
      started_shift q n = rw (activate_shift q.name false)

      none_shift : none_startable j ≡ outcome_in (shift_interval k) (none_startable i)
      none_shift = rw (line_shift, length-map (line i) (later k))

      pub dispatch_shift : Interval.dispatch j ≡ plan_in (shift_interval k) (Interval.dispatch i)
      unfolding Interval.dispatch
      dispatch_shift =
          ap (λ (o : Outcome Interval). plan [] o)
          (choice_shift (any (startable i) (line i)) (any (startable j) (line j))
          (started i (first (startable i) no_request (line i)) (first_at (startable i) (line i)))
          (started j (first (startable j) no_request (line j)) (first_at (startable j) (line j)))
          (none_startable i) (none_startable j) any_startable
          (ap (λ (q : Request). started j q (first_at (startable j) (line j))) first_startable
          ∙ ap (λ (n : ℕ). started j (later k (first (startable i) no_request (line i))) n) passed_over
          ∙ started_shift (first (startable i) no_request (line i)) (first_at (startable i) (line i)))
          none_shift)

      -- retrieve
      request_shift : (n : ℕ) → request_of (map (later k) i.requests) n ≡ later k (request_of i.requests n)
      request_shift n = first_map (later k) (λ (q : Request). eqb q.name n) (λ (q : Request). eqb q.name n) (λ q. refl) no_request i.requests

      own_shift : (q : Request) → has_own (later k q) ≡ has_own q
      own_shift q = ap (λ (b : Bool). b && leb 1 (length q.bytes)) (taken_later q.phase)

      serves_shift : (t q : Request) → serves (later k t) (later k q) ≡ serves t q
      serves_shift t q = ap (λ (b : Bool). b && eqb q.program t.program && eqb q.terminal t.terminal && leb 1 (length q.bytes)) (expired_later q.phase)

      module _ (n room : ℕ) (t : Request) where
        any_serves : any (serves (later k t)) (map (later k) i.requests) ≡ any (serves t) i.requests
        any_serves = any_map (later k) (serves t) (serves (later k t)) (serves_shift t) i.requests

        server_shift : server j (later k t) ≡ later k (server i t)
        server_shift = first_map (later k) (serves t) (serves (later k t)) (serves_shift t) no_request i.requests

        retrieval_shift : retrieval j n (later k t) room ≡ plan_in (shift_interval k) (retrieval i n t room)
        retrieval_shift =
            rw (own_shift t, any_serves, server_shift, activate_shift n true, remove_shift (server i t).name)
            (ap (λ (o : Outcome Interval). plan (retrieval i n t room).checks o)
            (sym (pick_map (outcome_in (shift_interval k)) (has_own t) (cut (took_own i n) room t.bytes) (cut (remove i (server i t).name) room (server i t).bytes))))

      pub retrieve_shift : (n room : ℕ) → Interval.retrieve j n room ≡ plan_in (shift_interval k) (Interval.retrieve i n room)
      unfolding Interval.retrieve
      retrieve_shift n room = rw (request_shift n) (retrieval_shift n room (request_of i.requests n))

  -- ---- every row but the one that asks for the ticks

  Shifts : ℕ → Row → Type 0
  Shifts n w = (n ≡ 4 → ⊥) → (L : Limits) (s : State) (r : List ℕ) → w.plans L (shift k s) r ≡ plan_in (shift k) (w.plans L s r)

  -- a plan of the interval part, put into the whole that is moved on
  abbrev into : State → Plan Interval → Plan State
  into s p = plan_in (with_interval (shift k s)) p

  without_shift : (s : State) (n : ℕ) → without_task (shift k s) n ≡ shift k (without_task s n)
  without_shift s n = ap (with_interval (without_task s n)) (remove_shift s.interval n)

  row_shift : (n : ℕ) → Shifts n (row_of n)
  unfolding Shifts
  row_shift =
      of_every Shifts (λ n _ L s r. refl)
      ((λ _ L s r. ap (into s) (program_shift s.interval L (operand 0 4 r)))
      ▹ (λ _ L s r. ap (into s) (terminal_shift s.interval L (operand 0 4 r)))
      ▹ (λ _ L s r. ap (into s) (advance_shift s.interval L (operand 0 4 r)))
      ▹ (λ h. absurd (h refl))
      ▹ (λ _ L s r. ap (into s) (dispatch_shift s.interval L))
      ▹ (λ _ L s r. ap (into s) (start_shift s.interval L (Commands.asked r)))
      ▹ (λ _ L s r. ap (into s) (cancel_shift s.interval L (operand 0 8 r)))
      ▹ (λ _ L s r. ap (into s) (retrieve_shift s.interval L (issuer r) (operand 0 1 r)))
      ▹ (λ _ L s r. rw (without_shift s (issuer r)))
      ▹ (λ _ L s r. refl)
      ▹ (λ _ L s r. refl)
      ▹ (λ _ L s r. refl)
      ▹ (λ _ L s r. refl)
      ▹ (λ _ L s r. refl)
      ▹ (λ _ L s r. refl)
      ▹ (λ _ L s r. refl)
      ▹ (λ _ L s r. refl)
      ▹ tt)

  -- ---- one record
  module _ (L : Limits) (s : State) (r : List ℕ) where
    obey_shift : (n : ℕ) (o : Outcome State) → obey (shift k s) n (outcome_in (shift k) o) ≡ outcome_in (shift k) (obey s n o)
    obey_shift zero o = refl
    obey_shift (suc c) o = refl

    obeyed_shift : (command r ≡ 4 → ⊥) → obeyed L (shift k s) r ≡ outcome_in (shift k) (obeyed L s r)
    unfolding obeyed Shifts
    obeyed_shift ne =
        rw (row_shift (command r) ne L s r)
        (obey_shift (first_of (plan_of (row_of (command r)) L s r).checks) (plan_of (row_of (command r)) L s r).effect)

    settled_shift : (o : Outcome State) (n : ℕ) (x : Setting) → settled (outcome_in (shift k) o) n x ≡ shift_turn k (settled o n x)
    settled_shift o n Unset = ap (λ (y : State). record { answer = says o 2 0; state = y }) (without_shift o.state n)
    settled_shift o n Ignore = refl
    settled_shift o n (Label l) = refl

    settle_shift : (n : ℕ) (o : Outcome State) → settle (shift k s) n (outcome_in (shift k) o) ≡ shift_turn k (settle s n o)
    settle_shift n o =
        rw (settled_shift o n (decides s.tasks n o.condition))
        (sym (pick_map (shift_turn k) (eqb o.condition normal || eqb n (blank 8)) (settled o n Ignore) (settled o n (decides s.tasks n o.condition))))

    pub allowed_shift : allowed (shift k s) r ≡ allowed s r
    unfolding allowed
    allowed_shift = ap (λ (b : Bool). eqb (issuer r) (blank 8) || b) (task_shift s.interval (issuer r))

    -- a turn by the three tests
    abbrev turn : State → Bool → Bool → Turn → Turn
    turn x b c y = pick b (pick c y (refused x 34)) (refused x 33)

    turn_shift : (b c : Bool) (y : Turn) → turn (shift k s) b c (shift_turn k y) ≡ shift_turn k (turn s b c y)
    turn_shift true true y = refl
    turn_shift true false y = refl
    turn_shift false c y = refl

    step_shift : (command r ≡ 4 → ⊥) → step L (shift k s) r ≡ shift_turn k (step L s r)
    unfolding step
    step_shift ne = rw (allowed_shift, obeyed_shift ne, settle_shift (issuer r) (obeyed L s r)) (turn_shift (formed r) (allowed s r) (settle s (issuer r) (obeyed L s r)))

-- ---- the tick answer

-- an answer that tells n, from s, by the tests of form and issuer
abbrev say : State → ℕ → Bool → Bool → Turn
say s n b c = pick b (pick c (record { answer = record { condition = normal; action = 0; label = 0; number = n; bytes = [] }; state = s }) (refused s 34)) (refused s 33)

ask_obeyed : (L : Limits) (s : State) (r : List ℕ) → command r ≡ 4 → obeyed L s r ≡ done s (s.interval.clock % 2 ^ 32)
unfolding obeyed Interval.ask_ticks
ask_obeyed L s r e = ap (λ (n : ℕ). obey_plan s (plan_of (row_of n) L s r)) e

ask_step : (L : Limits) (s : State) (r : List ℕ) → command r ≡ 4 → step L s r ≡ say s (s.interval.clock % 2 ^ 32) (formed r) (allowed s r)
unfolding step
ask_step L s r e = ap (λ (o : Outcome State). pick (formed r) (pick (allowed s r) (settle s (issuer r) o) (refused s 34)) (refused s 33)) (ask_obeyed L s r e)

module _ (k : ℕ) (L : Limits) (s : State) (r : List ℕ) where
  ask_moved : command r ≡ 4 → step L (shift k s) r ≡ say (shift k s) ((s.interval.clock + k) % 2 ^ 32) (formed r) (allowed s r)
  ask_moved e = ask_step L (shift k s) r e ∙ ap (say (shift k s) ((s.interval.clock + k) % 2 ^ 32) (formed r)) (allowed_shift k L s r)

  say_state : (b c : Bool) (m n : ℕ) → (say (shift k s) m b c).state ≡ shift k (say s n b c).state
  say_state true true m n = refl
  say_state true false m n = refl
  say_state false c m n = refl

  -- the state moves on by k, whatever the record
  pub state_shift : (step L (shift k s) r).state ≡ shift k (step L s r).state
  state_shift =
      by_test (eqb (command r) 4)
      (λ t. let e : command r ≡ 4 = eqb-true (command r) 4 t in
      ap (λ (x : Turn). x.state) (ask_moved e) ∙ say_state (formed r) (allowed s r) ((s.interval.clock + k) % 2 ^ 32) (s.interval.clock % 2 ^ 32) ∙ ap (λ (x : Turn). shift k x.state) (sym (ask_step L s r e)))
      (λ t. ap (λ (x : Turn). x.state) (step_shift k L s r (eqb-false (command r) 4 t)))

  say_moved : (b c : Bool) → eqb (command r) 4 ≡ true → (say (shift k s) ((s.interval.clock + k) % 2 ^ 32) b c).answer ≡ retick k r (say s (s.interval.clock % 2 ^ 32) b c).answer
  say_moved true true e = rw e (ap (λ (n : ℕ). (say s n true true).answer) (sym (mod-add-mod s.interval.clock (2 ^ 32) k)))
  say_moved true false e = rw e
  say_moved false c e = rw e

  not_moved : (a : Answer) → eqb (command r) 4 ≡ false → a ≡ retick k r a
  not_moved a e = rw e

  -- the answer is the same, a tick answer moved on by k
  pub answer_shift : (step L (shift k s) r).answer ≡ retick k r (step L s r).answer
  answer_shift =
      by_test (eqb (command r) 4)
      (λ t. let e : command r ≡ 4 = eqb-true (command r) 4 t in
      ap (λ (x : Turn). x.answer) (ask_moved e) ∙ say_moved (formed r) (allowed s r) t ∙ ap (λ (x : Turn). retick k r x.answer) (sym (ask_step L s r e)))
      (λ t. ap (λ (x : Turn). x.answer) (step_shift k L s r (eqb-false (command r) 4 t)) ∙ not_moved (step L s r).answer t)

  say_same : (b c : Bool) (n : ℕ) → (say (shift k s) n b c).answer ≡ (say s n b c).answer
  say_same true true n = refl
  say_same true false n = refl
  say_same false c n = refl

  -- and wholly the same where the register is
  pub answer_same : (s.interval.clock + k) % 2 ^ 32 ≡ s.interval.clock % 2 ^ 32 → (step L (shift k s) r).answer ≡ (step L s r).answer
  answer_same w =
      by_test (eqb (command r) 4)
      (λ t. let e : command r ≡ 4 = eqb-true (command r) 4 t in
      ap (λ (x : Turn). x.answer) (ask_moved e) ∙ ap (λ (n : ℕ). (say (shift k s) n (formed r) (allowed s r)).answer) w
      ∙ say_same (formed r) (allowed s r) (s.interval.clock % 2 ^ 32) ∙ ap (λ (x : Turn). x.answer) (sym (ask_step L s r e)))
      (λ t. ap (λ (x : Turn). x.answer) (step_shift k L s r (eqb-false (command r) 4 t)))
