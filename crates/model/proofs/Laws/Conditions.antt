-- Of the model, for any tables and any record: a heard record has a condition of 0..10, a condition changes only what the rules name
-- for it, a record that is not heard is refused, and an action is 0, 1 with a label, or 2 and the task is removed.
-- Assumes nothing.
use Rattle.std.specs.Prelude.{ℕ, suc, zero, ◌+◌, ◌≤◌, ◌≡◌, ◌⊎◌, Bool, true, false, ◌||◌, List, [], ◌∷◌, length, take, leb, ltb, eqb}
use Rattle.std.proofs.Common.{arith, inl, inr, leb-true}
use Rattle.std.proofs.Math.Path.{refl}
use Rattle.base.specs.Choice.{pick}
use Rattle.base.specs.Lists.{all, any, first, first_at}
use Rattle.base.specs.Bytes.{blank}
use Rattle.base.specs.Laws.Tests.{by_test, and_l, and_r, or_false_r, pick_elim}
use Rattle.base.specs.Laws.Keep.{first_at_le}
use Rattle.model.specs.Limits.{Limits}
use Rattle.model.specs.Plans.{normal, no_space, wrong_length, Check, first_of, Outcome, Plan, fault, done, cut, obey, outcome_in, plan_in}
use Rattle.model.specs.Queues.{Queue, queue_of, items_in, made, longer, item_at, reading, at_queue, point_at, append, read_next, read_at, rewrite, delete}
use Rattle.model.specs.Interval.{Interval, Request, no_request, request_of, line, startable, started, none_startable, server, has_own, took_own, remove, define_program, define_terminal, advance, ask_ticks, dispatch, start, cancel, retrieve}
use Rattle.model.specs.Handlers.{Setting, Unset, Ignore, Label, decides, handle, ignore, reset}
use Rattle.model.specs.State.{State, with_interval, with_queues, without_task}
use Rattle.model.specs.Commands.{Row, command, issuer, operand, rest, table, row_of, formed, allowed, obey_plan, plan_of, obeyed, Turn, says, settled, settle, refused, step}
use Rattle.model.specs.Demands.{place_read, Named, nothing, makes, moves, takes, removes, Kept}
use Rattle.model.specs.Laws.Rows.{Each, ◌▹◌, of_every}

-- ---- the effects that are a choice, as one of their two outcomes

module _ (Q : Outcome Interval → Type 0) (i : Interval) where
  pub dispatch_is : ((q : Request) (n : ℕ) → n ≤ length (line i) → Q (started i q n)) → Q (none_startable i) → Q (dispatch i).effect
  unfolding dispatch
  dispatch_is f g =
      pick_elim Q (any (startable i) (line i)) (started i (first (startable i) no_request (line i)) (first_at (startable i) (line i))) (none_startable i)
      (λ _. f (first (startable i) no_request (line i)) (first_at (startable i) (line i)) (first_at_le (startable i) (line i))) (λ _. g)

  module _ (n room : ℕ) where
    abbrev sender : Request
    sender = request_of i.requests n

    pub retrieve_is : Q (cut (took_own i n) room (request_of i.requests n).bytes)
        → Q (cut (remove i (server i (request_of i.requests n)).name) room (server i (request_of i.requests n)).bytes)
        → Q (retrieve i n room).effect
    unfolding retrieve
    retrieve_is f g =
        pick_elim Q (has_own sender) (cut (took_own i n) room sender.bytes) (cut (remove i (server i sender).name) room (server i sender).bytes) (λ _. f) (λ _. g)

pub append_is : (Q : Outcome (List Queue) → Type 0) (L : Limits) (may : ℕ) (l : List Queue) (n : ℕ) (b : List ℕ)
    → (leb may (items_in l) ≡ true → Q (fault (made l n) no_space))
    → (leb may (items_in l) ≡ false → Q (done (at_queue n (longer b) (made l n)) (length (queue_of l n).items + 1)))
    → Q (append L may l n b).effect
unfolding append
append_is Q L may l n b f g = pick_elim Q (leb may (items_in l)) (fault (made l n) no_space) (done (at_queue n (longer b) (made l n)) (length (queue_of l n).items + 1)) f g

-- what the handlers make of an outcome
pub settle_is : (Q : Turn → Type 0) (s : State) (n : ℕ) (o : Outcome State) → Q (settled o n Ignore) → Q (settled o n (decides s.tasks n o.condition))
    → Q (settle s n o)
settle_is Q s n o f g =
    pick_elim Q (eqb o.condition normal || eqb n (blank 8)) (settled o n Ignore) (settled o n (decides s.tasks n o.condition)) (λ _. f) (λ _. g)

-- ---- checks

-- the conditions of the checks are of 0..10
abbrev low : List Check → Bool
low l = all (λ (k : Check). leb k.gives 10) l

first_low : (l : List Check) → low l ≡ true → first_of l ≤ 10
first_low [] h = omega arith
first_low (k ∷ l) h =
    pick_elim (λ m. m ≤ 10) k.when k.gives (first_of l) (λ _. leb-true k.gives 10 (and_l (leb k.gives 10) (low l) h))
    (λ _. first_low l (and_r (leb k.gives 10) (low l) h))

module _ (s : State) (r : List ℕ) where
  -- ---- what is claimed of an outcome
  record Good (o : Outcome State) : Type 0 where
    small : o.condition ≤ 10
    kept : (o.condition ≡ 0 → ⊥) → Named s r o.condition o.state

  good_normal : {o : Outcome State} → o.condition ≡ 0 → Good o
  good_normal e = record { small = omega arith; kept = λ h. absurd (h e) }

  -- a reader whose room may be short
  good_cut : {T : Type 0} (put : T → State) (x : T) (room : ℕ) (b : List ℕ) → Named s r wrong_length (put x) → Good (outcome_in put (cut x room b))
  good_cut put x room b h = go (ltb room (length b))
    where
      go : (t : Bool) → Good (record { condition = pick t wrong_length normal; number = length b; bytes = take room b; state = put x })
      go true = record { small = omega arith; kept = λ _. h }
      go false = good_normal refl

  -- ---- and of a plan
  record GoodPlan (p : Plan State) : Type 0 where
    checks : low p.checks ≡ true
    effect : Good p.effect

  -- one whose effect is normal
  quiet : {n : ℕ} {p : Plan State} → low p.checks ≡ true → p.effect.condition ≡ normal → command r ≡ n → GoodPlan p
  quiet h e _ = record { checks = h; effect = good_normal e }

  good_obey : (c : ℕ) (o : Outcome State) → c ≤ 10 → Good o → Good (obey s c o)
  good_obey zero o h g = g
  good_obey (suc c) o h g = record { small = h; kept = λ _. nothing refl }

  good_plan : (p : Plan State) → GoodPlan p → Good (obey_plan s p)
  good_plan p g = good_obey (first_of p.checks) p.effect (first_low p.checks g.checks) g.effect

  -- ---- what is claimed of a heard turn
  pub record Fine (x : Turn) : Type 0 where
    pub small : x.answer.condition ≤ 10
    pub action : x.answer.action ≤ 2
    pub unlabelled : (x.answer.action ≡ 1 → ⊥) → x.answer.label ≡ 0
    pub kept : (x.answer.condition ≡ 0 → ⊥) → Kept s r x.answer x.state

  fine_says : (o : Outcome State) → Good o → (action label : ℕ) → action ≤ 2 → ((action ≡ 1 → ⊥) → label ≡ 0)
      → Fine (record { answer = says o action label; state = pick (eqb action 2) (without_task o.state (issuer r)) o.state })
  fine_says o g action label a l = record { small = g.small; action = a; unlabelled = l; kept = λ h. record { between = o.state; named = g.kept h; abend = refl } }

  fine_settled : (o : Outcome State) → Good o → (x : Setting) → Fine (settled o (issuer r) x)
  fine_settled o g Unset = fine_says o g 2 0 (omega arith) (λ _. refl)
  fine_settled o g Ignore = fine_says o g 0 0 (omega arith) (λ _. refl)
  fine_settled o g (Label n) = fine_says o g 1 n (omega arith) (λ h. absurd (h refl))

  fine_settle : (o : Outcome State) → Good o → Fine (settle s (issuer r) o)
  fine_settle o g =
      settle_is Fine s (issuer r) o (fine_settled o g Ignore) (fine_settled o g (decides s.tasks (issuer r) o.condition))

-- ---- an abend: the action of an unset setting alone

settled_abend : (o : Outcome State) (n : ℕ) (x : Setting) → (settled o n x).answer.action ≡ 2 → (settled o n x).state ≡ without_task o.state n
settled_abend o n Unset h = refl
settled_abend o n Ignore h = absurd (omega arith)
settled_abend o n (Label k) h = absurd (omega arith)

settle_abend : (s : State) (n : ℕ) (o : Outcome State) → (settle s n o).answer.action ≡ 2 → (eqb n (blank 8) ≡ false) × ((settle s n o).state ≡ without_task o.state n)
settle_abend s n o h =
    by_test (eqb o.condition normal || eqb n (blank 8))
    (λ t. let z : ◌≡◌ {A = ℕ} 0 2 = rw t at h in absurd (omega arith))
    (λ t. (or_false_r (eqb o.condition normal) (eqb n (blank 8)) t, rw t (settled_abend o n (decides s.tasks n o.condition) (rw t at h))))

-- ---- the rows

module _ (L : Limits) (s : State) (r : List ℕ) where
  abbrev GoodRow : ℕ → Row → Type 0
  GoodRow n w = command r ≡ n → GoodPlan s r (w.plans L s r)

  -- the queues, and the one that is named
  abbrev l : List Queue
  l = s.queues

  abbrev q : ℕ
  q = operand 0 8 r

  good_dispatch : GoodRow 5 (row_of 5)
  unfolding dispatch
  good_dispatch e = record {
    checks = refl;
    effect = dispatch_is (λ o. Good s r (outcome_in (with_interval s) o)) s.interval (λ _ _ _. good_normal s r refl) (record { small = omega arith; kept = λ _. nothing refl });
  }

  good_retrieve : GoodRow 8 (row_of 8)
  unfolding retrieve
  good_retrieve e =
      let i : Interval = s.interval in
      let t : Request = request_of s.interval.requests (issuer r) in
      record {
        checks = refl;
        effect = retrieve_is (λ o. Good s r (outcome_in (with_interval s) o)) i (issuer r) (operand 0 1 r)
            (good_cut s r (with_interval s) (took_own i (issuer r)) (operand 0 1 r) t.bytes (takes e refl refl))
            (good_cut s r (with_interval s) (remove i (server i t).name) (operand 0 1 r) (server i t).bytes (removes e refl refl));
      }

  good_append : GoodRow 10 (row_of 10)
  unfolding append
  good_append e = record {
    checks = refl;
    effect = append_is (λ o. Good s r (outcome_in (with_queues s) o)) L L.slots l q (rest 8 r)
        (λ _. record { small = omega arith; kept = λ _. makes e refl refl }) (λ _. good_normal s r refl);
  }

  -- a read of a place, where it is the place that the record reads
  good_reading : (p room : ℕ) → (command r ≡ 11) ⊎ (command r ≡ 12) → place_read s r ≡ p → GoodPlan s r (plan_in (with_queues s) (reading l q p room))
  good_reading p room e h = record { checks = refl; effect = good_cut s r (with_queues s) (at_queue q (point_at p) l) room (item_at (queue_of l q) p) (moves e refl (rw h)) }

  good_next : GoodRow 11 (row_of 11)
  unfolding read_next
  good_next e = good_reading ((queue_of l q).pointer + 1) (operand 8 1 r) (inl e) (rw e)

  good_at : GoodRow 12 (row_of 12)
  unfolding read_at
  good_at e = good_reading (operand 8 2 r) (operand 10 1 r) (inr e) (rw e)

  good_rows : Each (λ n. GoodRow (suc n)) table
  unfolding define_program define_terminal advance ask_ticks start cancel rewrite delete handle ignore reset
  good_rows =
      quiet s r refl refl
      ▹ quiet s r refl refl
      ▹ quiet s r refl refl
      ▹ quiet s r refl refl
      ▹ good_dispatch
      ▹ quiet s r refl refl
      ▹ quiet s r refl refl
      ▹ good_retrieve
      ▹ quiet s r refl refl
      ▹ good_append
      ▹ good_next
      ▹ good_at
      ▹ quiet s r refl refl
      ▹ quiet s r refl refl
      ▹ quiet s r refl refl
      ▹ quiet s r refl refl
      ▹ quiet s r refl refl
      ▹ tt

  good_row : GoodPlan s r ((row_of (command r)).plans L s r)
  good_row = of_every GoodRow (λ n. quiet s r refl refl) good_rows (command r) refl

  good_obeyed : Good s r (obeyed L s r)
  unfolding obeyed
  good_obeyed = good_plan s r (plan_of (row_of (command r)) L s r) (record { checks = good_row.checks; effect = good_row.effect })

  pub heard_small : (obeyed L s r).condition ≤ 10
  heard_small = good_obeyed.small

  pub heard_kept : ((obeyed L s r).condition ≡ 0 → ⊥) → Named s r (obeyed L s r).condition (obeyed L s r).state
  heard_kept = good_obeyed.kept

  -- ---- the three turns of a record
  pub step_malformed : formed r ≡ false → step L s r ≡ refused s 33
  unfolding step
  step_malformed e = rw e

  pub step_stranger : formed r ≡ true → allowed s r ≡ false → step L s r ≡ refused s 34
  unfolding step
  step_stranger e f = rw (e, f)

  pub step_heard : formed r ≡ true → allowed s r ≡ true → step L s r ≡ settle s (issuer r) (obeyed L s r)
  unfolding step
  step_heard e f = rw (e, f)

  -- what is so of each of the three is so of the step
  pub turn_is : (P : Turn → Type 0) → (formed r ≡ true → allowed s r ≡ true → P (step L s r)) → P (refused s 34) → P (refused s 33) → P (step L s r)
  turn_is P heard stranger malformed =
      by_test (formed r) (λ e. by_test (allowed s r) (heard e) (λ f. rw (step_stranger e f) stranger)) (λ e. rw (step_malformed e) malformed)

  pub fine_heard : formed r ≡ true → allowed s r ≡ true → Fine s r (step L s r)
  fine_heard e f = rw (step_heard e f) (fine_settle s r (obeyed L s r) good_obeyed)

  -- ---- an abend

  -- the record was heard, from a task, and the task is removed besides what the command did
  pub record Abended : Type 0 where
    pub formed : formed r ≡ true
    pub allowed : allowed s r ≡ true
    pub task : eqb (issuer r) (blank 8) ≡ false
    pub removed : (step L s r).state ≡ without_task (obeyed L s r).state (issuer r)

  heard_abend : formed r ≡ true → allowed s r ≡ true → (step L s r).answer.action ≡ 2 → Abended
  heard_abend e f h =
      let a = settle_abend s (issuer r) (obeyed L s r) (rw (step_heard e f) at h) in
      record { formed = e; allowed = f; task = a.0; removed = rw (step_heard e f) a.1 }

  pub step_action : (step L s r).answer.action ≡ 2 → Abended
  step_action = turn_is (λ (x : Turn). x.answer.action ≡ 2 → Abended) heard_abend (λ z. absurd (omega arith)) (λ z. absurd (omega arith))
