-- Of the model, for any tables and any record: space is refused only where the table that the record asks room of is full,
-- and a record that asks room of a full table never has the normal condition.
-- Assumes nothing.
use Rattle.std.specs.Prelude.{ℕ, suc, zero, ◌+◌, ◌-◌, ◌≤◌, ◌≡◌, Bool, true, false, not, ◌&&◌, ◌||◌, List, [], ◌∷◌, length, ltb}
use Rattle.std.proofs.Common.{arith, ◌∙◌, eq-eqb, eqb-true}
use Rattle.std.proofs.Math.Path.{refl, sym}
use Rattle.std.proofs.Math.Bool.{or-false}
use Rattle.std.proofs.Math.Dec.{leb, eqb}
use Rattle.base.specs.Choice.{pick}
use Rattle.base.specs.Lists.{any}
use Rattle.base.specs.Laws.Tests.{by_test, no, and_r, or_l, or_r, or_elim, pick_self, pick_elim}
use Rattle.base.specs.Laws.Keep.{all_none, any_imp}
use Rattle.model.specs.Limits.{Limits}
use Rattle.model.specs.Plans.{normal, no_space, wrong_length, Check, first_of, Outcome, Plan, plan_in, cut, obey}
use Rattle.model.specs.Queues.{Queue, queue_of, at_queue, point_at, item_at, reading, known_queue, items_in, append, read_next, read_at, rewrite, delete}
use Rattle.model.specs.Interval.{Interval, Request, request_of, server, took_own, remove, define_program, define_terminal, advance, ask_ticks, dispatch, start, cancel, retrieve}
use Rattle.model.specs.Handlers.{Setting, Unset, Ignore, Label, decides, handle, ignore, reset}
use Rattle.model.specs.State.{State, with_queues}
use Rattle.model.specs.Commands.{Row, command, issuer, operand, rest, fits, table, row_of, formed, obey_plan, plan_of, obeyed, Turn, settled, settle, step}
use Rattle.model.specs.Demands.{full, Space}
use Rattle.model.specs.Laws.Rows.{Each, ◌▹◌, of_every}
use Rattle.model.specs.Laws.PlanLaws.{gives_some, checks_clear}
use Rattle.model.proofs.Laws.Conditions.{dispatch_is, retrieve_is, append_is, settle_is, step_heard, turn_is}

-- ---- checks: no space arises only from a check that gives it

-- a check that gives no space holds
abbrev short : List Check → Bool
short l = any (λ (k : Check). eqb k.gives no_space && k.when) l

first_short : (l : List Check) → first_of l ≡ no_space → short l ≡ true
first_short [] h = absurd (omega arith)
first_short (k ∷ l) h =
    by_test k.when
    (λ t. rw (t, eq-eqb k.gives no_space (rw t at h)))
    (λ t. pick_elim (λ b. b ≡ true) (eqb k.gives no_space && k.when) true (short l) (λ _. refl) (λ _. first_short l (rw t at h)))

short_first : (l : List Check) → gives_some l ≡ true → short l ≡ true → first_of l ≡ normal → ⊥
short_first l g h e =
    let holds : any (λ (k : Check). k.when) l ≡ true = any_imp (λ (k : Check). eqb k.gives no_space && k.when) (λ (k : Check). k.when) (λ k. and_r (eqb k.gives no_space) k.when) l h in
    no (rw holds at (sym (all_none (λ (k : Check). k.when) l) ∙ checks_clear l g e))

-- ---- plans

-- a check gives no space, or the effect does
abbrev refuses : Plan State → Bool
refuses p = short p.checks || eqb p.effect.condition no_space

-- that is so exactly where f holds
record Told (p : Plan State) (f : Bool) : Type 0 where
  checks : gives_some p.checks ≡ true
  exactly : refuses p ≡ f

module _ (s : State) where
  obey_only : (c : ℕ) (o : Outcome State) → (obey s c o).condition ≡ no_space → (eqb c no_space || eqb o.condition no_space) ≡ true
  obey_only zero o h = eq-eqb o.condition no_space h
  obey_only (suc c) o h = or_l (eqb (suc c) no_space) (eqb o.condition no_space) (eq-eqb (suc c) no_space h)

  obey_normal : (c : ℕ) (o : Outcome State) → (obey s c o).condition ≡ normal → (c ≡ normal) × (o.condition ≡ normal)
  obey_normal zero o h = (refl, h)
  obey_normal (suc c) o h = absurd (omega arith)

  -- one lemma for every plan
  module _ (p : Plan State) (f : Bool) (t : Told p f) where
    told_only : (obey_plan s p).condition ≡ no_space → f ≡ true
    told_only h =
        sym t.exactly
        ∙ or_elim (eqb (first_of p.checks) no_space) (eqb p.effect.condition no_space) (obey_only (first_of p.checks) p.effect h)
        (λ e. or_l (short p.checks) (eqb p.effect.condition no_space) (first_short p.checks (eqb-true (first_of p.checks) no_space e)))
        (or_r (short p.checks) (eqb p.effect.condition no_space))

    told_taken : f ≡ true → (obey_plan s p).condition ≡ normal → ⊥
    told_taken e h =
        let z = obey_normal (first_of p.checks) p.effect h in
        or_elim (short p.checks) (eqb p.effect.condition no_space) (t.exactly ∙ e)
        (λ a. short_first p.checks t.checks a z.0)
        (λ b. let w : p.effect.condition ≡ no_space = eqb-true p.effect.condition no_space b in omega (arith, z.1))

-- ---- the handlers leave the condition

settled_condition : (o : Outcome State) (n : ℕ) (x : Setting) → (settled o n x).answer.condition ≡ o.condition
settled_condition o n Unset = refl
settled_condition o n Ignore = refl
settled_condition o n (Label k) = refl

pub settle_condition : (s : State) (n : ℕ) (o : Outcome State) → (settle s n o).answer.condition ≡ o.condition
settle_condition s n o =
    settle_is (λ (x : Turn). x.answer.condition ≡ o.condition) s n o refl (settled_condition o n (decides s.tasks n o.condition))

-- ---- the rows

cut_not : {S : Type 0} (x : S) (room : ℕ) (b : List ℕ) → eqb (cut x room b).condition no_space ≡ false
cut_not x room b = pick_elim (λ c. eqb c no_space ≡ false) (ltb room (length b)) wrong_length normal (λ _. refl) (λ _. refl)

module _ (L : Limits) (s : State) (r : List ℕ) where
  -- full, by the command's number
  abbrev full_at : ℕ → Bool
  full_at n =
      pick (eqb n 1) (leb L.programs (length s.interval.programs))
      (pick (eqb n 2) (leb L.terminals (length s.interval.terminals))
      (pick (eqb n 6) (leb L.requests (length s.interval.requests))
      (pick (eqb n 10) ((not (known_queue s.queues (operand 0 8 r)) && leb L.queues (length s.queues)) || leb L.slots (items_in s.queues))
      false)))

  abbrev ToldRow : ℕ → Row → Type 0
  ToldRow n w = fits w.size (length r - 9) ≡ true → Told (w.plans L s r) (full_at n)

  told : {h f : Bool} {p : Plan State} → gives_some p.checks ≡ true → refuses p ≡ f → h ≡ true → Told p f
  told g e _ = record { checks = g; exactly = e }

  told_dispatch : ToldRow 5 (row_of 5)
  unfolding dispatch
  told_dispatch = told refl (dispatch_is (λ o. eqb o.condition no_space ≡ false) s.interval (λ _ _ _. refl) refl)

  told_retrieve : ToldRow 8 (row_of 8)
  unfolding retrieve
  told_retrieve =
      let i : Interval = s.interval in
      let q : Request = request_of i.requests (issuer r) in
      told refl (retrieve_is (λ o. eqb o.condition no_space ≡ false) i (issuer r) (operand 0 1 r)
      (cut_not (took_own i (issuer r)) (operand 0 1 r) q.bytes) (cut_not (remove i (server i q).name) (operand 0 1 r) (server i q).bytes))

  told_append : ToldRow 10 (row_of 10)
  unfolding append
  told_append =
      let l = s.queues in
      told refl (cc (
        pick_self (not (known_queue l (operand 0 8 r)) && leb L.queues (length l)),
        append_is (λ o. eqb o.condition no_space ≡ leb L.slots (items_in l)) L L.slots l (operand 0 8 r) (rest 8 r) (λ t. sym t) (λ t. sym t),
      ))

  told_reading : {h : Bool} (p room : ℕ) → h ≡ true → Told (plan_in (with_queues s) (reading s.queues (operand 0 8 r) p room)) false
  told_reading p room =
      let l : List Queue = s.queues in
      told refl (cut_not (at_queue (operand 0 8 r) (point_at p) l) room (item_at (queue_of l (operand 0 8 r)) p))

  told_rows : Each (λ n. ToldRow (suc n)) table
  unfolding define_program define_terminal advance ask_ticks start cancel read_next read_at rewrite delete handle ignore reset
  told_rows =
      told refl (rw (or-false, pick_self))
      ▹ told refl (rw (or-false, pick_self))
      ▹ told refl refl
      ▹ told refl refl
      ▹ told_dispatch
      ▹ told refl (rw (or-false, pick_self))
      ▹ told refl refl
      ▹ told_retrieve
      ▹ told refl refl
      ▹ told_append
      ▹ told_reading ((queue_of s.queues (operand 0 8 r)).pointer + 1) (operand 8 1 r)
      ▹ told_reading (operand 8 2 r) (operand 10 1 r)
      ▹ told refl refl
      ▹ told refl refl
      ▹ told refl refl
      ▹ told refl refl
      ▹ told refl refl
      ▹ tt

  told_formed : formed r ≡ true → Told ((row_of (command r)).plans L s r) (full L s r)
  unfolding formed
  told_formed e = of_every ToldRow (λ n. no) told_rows (command r) (and_r (leb 9 (length r)) (fits (row_of (command r)).size (length r - 9)) e)

  -- ---- one record
  obeyed_space : formed r ≡ true → Space L s r (obeyed L s r).condition
  unfolding obeyed
  obeyed_space e =
      let p : Plan State = plan_of (row_of (command r)) L s r in
      let t : Told p (full L s r) = record { checks = (told_formed e).checks; exactly = (told_formed e).exactly } in
      record { only = told_only s p (full L s r) t; taken = told_taken s p (full L s r) t }

  -- a refusal is neither
  refused_space : (c : ℕ) → 2 ≤ c → Space L s r c
  refused_space c h = record { only = λ e. absurd (omega arith); taken = λ _ e. omega arith }

  pub space : Space L s r (step L s r).answer.condition
  space =
      turn_is L s r (λ (x : Turn). Space L s r x.answer.condition)
      (λ e f. rw (step_heard L s r e f, settle_condition s (issuer r) (obeyed L s r)) (obeyed_space e))
      (refused_space 34 (omega arith)) (refused_space 33 (omega arith))
