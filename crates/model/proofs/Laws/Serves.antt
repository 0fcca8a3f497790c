-- Freed room serves again, for any monitor that meets demand 2. Assumes nothing.
use Rattle.std.specs.Prelude.{ℕ, suc, zero, ◌<◌, ◌≤◌, ◌≡◌, false, not, List}
use Rattle.std.proofs.Common.{arith, ◌∙◌, ⊎_elim}
use Rattle.std.proofs.Math.Path.{refl, ap, sym, subst}
use Rattle.std.proofs.Math.Bool.{true, and-false}
use Rattle.std.proofs.Math.ListN.{length}
use borrow.Author.Tests.{lt-leb, not-false, eq-eqb}
use Rattle.base.specs.Bytes.{is_bytes}
use Rattle.base.specs.Laws.Tests.{no, or_false_l}
use Rattle.model.specs.Limits.{Limits}
use Rattle.model.specs.Plans.{normal, no_space, Outcome, Plan, first_of, obey}
use Rattle.model.specs.Queues
use Rattle.model.specs.Queues.{known_queue, queue_of, items_in}
use Rattle.model.specs.Interval
use Rattle.model.specs.Handlers.{Ignore}
use Rattle.model.specs.Interval.{Interval, active_task, known_request}
use Rattle.model.specs.State.{State}
use Rattle.model.specs.Commands.{Answer, Turn, Row, asked, command, issuer, operand, wrong_kind, row_of, plan_of, obey_plan, obeyed, settled, settle, formed, allowed, step}
use Rattle.model.specs.Demands.{Monitor, Stepping, Demand2, Pair, Cramped, Serves, full}
use Rattle.model.specs.Laws.Rows.{◌▹◌, of_every}
use Rattle.model.specs.Laws.PlanLaws.{clears, clear_head}
use Rattle.model.proofs.Laws.Conditions.{turn_is, step_heard, step_action, Abended}
use Rattle.model.proofs.Laws.Space.{space, settle_condition}
use Rattle.model.proofs.Laws.SoundQueues.{QueuesSound, view, delete_frees}
use Rattle.model.proofs.Laws.IntervalSizes.{requests_few, known_fewer, remove_fewer}
use Rattle.model.proofs.Laws.StaysActive.{program_active, terminal_active, advance_active, start_active, ask_active, dispatch_active, cancel_active, retrieve_active}
use Rattle.model.proofs.Laws.SoundStep as whole
use Rattle.model.proofs.Laws.SoundStep.{StateSound, obeyed_sound, active_issuer}

-- ---- room, and no cramped answer

module _ (L : Limits) (s : State) (a : List ℕ) where
  not_full : full L s a ≡ false → (step L s a).answer.condition ≡ no_space → ⊥
  not_full e c = no (sym e ∙ (space L s a).only c)

  roomy_items : length s.queues < L.queues → items_in s.queues < L.slots → command a ≡ 10 → full L s a ≡ false
  roomy_items q i e = rw e (rw (lt-leb L.queues (length s.queues) q, lt-leb L.slots (items_in s.queues) i, and-false (not (known_queue s.queues (operand 0 8 a)))))

  roomy_requests : length s.interval.requests < L.requests → command a ≡ 6 → full L s a ≡ false
  roomy_requests h e = rw e (lt-leb L.requests (length s.interval.requests) h)

-- ---- what a record has done that met no condition

-- a plan that comes to condition 0 had no check that holds
effect_is : (s : State) (p : Plan State) → (obey_plan s p).condition ≡ 0 → (first_of p.checks ≡ 0) × (obey_plan s p ≡ p.effect)
effect_is s p e = go (first_of p.checks) e
  where
    go : (n : ℕ) → (obey s n p.effect).condition ≡ 0 → (n ≡ 0) × (obey s n p.effect ≡ p.effect)
    go zero q = (refl, refl)
    go (suc c) q = absurd (omega arith)

module _ (L : Limits) (s : State) (r : List ℕ) where
  -- the row's plan, and what the step made of it
  pub record Normal (n : ℕ) : Type 0 where
    pub allowed : allowed s r ≡ true
    pub kind : wrong_kind (row_of n).who (issuer r) ≡ false
    pub clear : first_of ((row_of n).plans L s r).checks ≡ 0
    pub number : (step L s r).answer.number ≡ ((row_of n).plans L s r).effect.number
    pub state : (step L s r).state ≡ ((row_of n).plans L s r).effect.state

  settled_normal : (o : Outcome State) → o.condition ≡ 0 → settle s (issuer r) o ≡ settled o (issuer r) Ignore
  settled_normal o e = rw (eq-eqb o.condition 0 e)

  heard_normal : formed r ≡ true → allowed s r ≡ true → (step L s r).answer.condition ≡ 0 → Normal (command r)
  unfolding obeyed
  heard_normal f a e =
      let c : (obeyed L s r).condition ≡ 0 = sym (settle_condition s (issuer r) (obeyed L s r)) ∙ sym (ap (λ (x : Turn). x.answer.condition) (step_heard L s r f a)) ∙ e in
      let d : step L s r ≡ settled (obeyed L s r) (issuer r) Ignore = step_heard L s r f a ∙ settled_normal (obeyed L s r) c in
      let p = effect_is s (plan_of (row_of (command r)) L s r) c in
      let k = clear_head (wrong_kind (row_of (command r)).who (issuer r)) 9 ((row_of (command r)).plans L s r).checks p.0 in
      record {
        allowed = a;
        kind = k.0;
        clear = k.1;
        number = ap (λ (x : Turn). x.answer.number) d ∙ ap (λ (o : Outcome State). o.number) p.1;
        state = ap (λ (x : Turn). x.state) d ∙ ap (λ (o : Outcome State). o.state) p.1;
      }

  pub step_normal : (n : ℕ) → command r ≡ n → (step L s r).answer.condition ≡ 0 → Normal n
  step_normal n e c =
      subst Normal e (turn_is L s r (λ (x : Turn). x.answer.condition ≡ 0 → Normal (command r)) heard_normal (λ z. absurd (omega arith)) (λ z. absurd (omega arith)) c)

-- ---- who stays active where a condition was met: all but the one that finishes, which meets none

Stays : ℕ → Row → Type 0
Stays n w =
    (L : Limits) (s : State) (r : List ℕ) → StateSound L s → (m : ℕ) → active_task s.interval m ≡ true
    → first_of (w.plans L s r).checks ≡ 0 → ((w.plans L s r).effect.condition ≡ 0 → ⊥) → active_task (w.plans L s r).effect.state.interval m ≡ true

row_stays : (n : ℕ) → Stays n (row_of n)
unfolding Stays
row_stays =
    of_every Stays (λ n L s r v m a e h. a)
    ((λ L s r v m a e h. program_active L s.interval (operand 0 4 r) m a e)
    ▹ (λ L s r v m a e h. terminal_active L s.interval (operand 0 4 r) m a e)
    ▹ (λ L s r v m a e h. advance_active L s.interval (operand 0 4 r) m a e)
    ▹ (λ L s r v m a e h. ask_active s.interval m a e)
    ▹ (λ L s r v m a e h. dispatch_active s.interval m a e)
    ▹ (λ L s r v m a e h. start_active L s.interval (asked r) m a e)
    ▹ (λ L s r v m a e h. cancel_active s.interval (operand 0 8 r) m a e)
    ▹ (λ L s r v m a e h. retrieve_active L s.interval v.interval (issuer r) (operand 0 1 r) m a e)
    ▹ (λ L s r v m a e h. absurd (h refl))
    ▹ (λ L s r v m a e h. a)
    ▹ (λ L s r v m a e h. a)
    ▹ (λ L s r v m a e h. a)
    ▹ (λ L s r v m a e h. a)
    ▹ (λ L s r v m a e h. a)
    ▹ (λ L s r v m a e h. a)
    ▹ (λ L s r v m a e h. a)
    ▹ (λ L s r v m a e h. a)
    ▹ tt)

module _ (L : Limits) (s : State) (r : List ℕ) (v : StateSound L s) where
  obeyed_active : (m : ℕ) → active_task s.interval m ≡ true → ((obeyed L s r).condition ≡ 0 → ⊥) → active_task (obeyed L s r).state.interval m ≡ true
  unfolding obeyed Stays
  obeyed_active m a h = go (first_of (plan_of w L s r).checks) refl h
    where
      w : Row
      w = row_of (command r)

      go : (n : ℕ) → first_of (plan_of (row_of (command r)) L s r).checks ≡ n → ((obey s n ((row_of (command r)).plans L s r).effect).condition ≡ 0 → ⊥)
          → active_task (obey s n ((row_of (command r)).plans L s r).effect).state.interval m ≡ true
      go zero e g = row_stays (command r) L s r v m a (clear_head (wrong_kind (row_of (command r)).who (issuer r)) 9 ((row_of (command r)).plans L s r).checks e).1 g
      go (suc c) e g = a

  abend_condition : (step L s r).answer.action ≡ 2 → formed r ≡ true → allowed s r ≡ true → (obeyed L s r).condition ≡ 0 → ⊥
  abend_condition h f a e =
      let d : step L s r ≡ settled (obeyed L s r) (issuer r) Ignore = step_heard L s r f a ∙ settled_normal L s r (obeyed L s r) e in
      let z : ◌≡◌ {A = ℕ} 0 2 = sym (ap (λ (x : Turn). x.answer.action) d) ∙ h in
      omega arith

  -- ---- how much room each leaves

  pub after_delete : command r ≡ 14 → (step L s r).answer.condition ≡ 0 → 1 ≤ (step L s r).answer.number
      → (length (step L s r).state.queues < L.queues) × (items_in (step L s r).state.queues < L.slots)
  unfolding Queues.delete
  after_delete e c n =
      let N : Normal L s r 14 = step_normal L s r 14 e c in
      let k = clears ((row_of 14).plans L s r).checks refl N.clear in
      let f = delete_frees L s.queues (operand 0 8 r) v.queues (not-false (known_queue s.queues (operand 0 8 r)) k.1.0) in
      let q : QueuesSound L s.queues = view L s.queues v.queues in
      let m : 1 ≤ length (queue_of s.queues (operand 0 8 r)).items = subst (λ (x : ℕ). 1 ≤ x) N.number n in
      rw N.state (omega (arith, f.1, q.few), omega (arith, f.0, q.room, m))

  pub after_cancel : command r ≡ 7 → (step L s r).answer.condition ≡ 0 → length (step L s r).state.interval.requests < L.requests
  unfolding Interval.cancel
  after_cancel e c =
      let N : Normal L s r 7 = step_normal L s r 7 e c in
      let k = clears ((row_of 7).plans L s r).checks refl N.clear in
      let g : known_request s.interval.requests (operand 0 8 r) ≡ true = not-false _ (or_false_l _ _ k.1.0) in
      rw N.state (omega (arith, known_fewer s.interval (operand 0 8 r) g, requests_few L s.interval v.interval))

  pub after_finish : command r ≡ 9 → (step L s r).answer.condition ≡ 0 → length (step L s r).state.interval.requests < L.requests
  after_finish e c =
      let N : Normal L s r 9 = step_normal L s r 9 e c in
      rw N.state (omega (arith, remove_fewer s.interval (issuer r) (active_issuer s r N.allowed N.kind), requests_few L s.interval v.interval))

  pub after_abend : is_bytes r ≡ true → (step L s r).answer.action ≡ 2 → length (step L s r).state.interval.requests < L.requests
  after_abend b h =
      let A : Abended L s r = step_action L s r h in
      let w : StateSound L (obeyed L s r).state = whole.view L (obeyed L s r).state (obeyed_sound L s r v b A.allowed) in
      let k : active_task (obeyed L s r).state.interval (issuer r) ≡ true = obeyed_active (issuer r) (active_issuer s r A.allowed A.task) (abend_condition h A.formed A.allowed) in
      rw A.removed (omega (arith, remove_fewer (obeyed L s r).state.interval (issuer r) k, requests_few L (obeyed L s r).state.interval w.interval))

-- ---- for any monitor

module _ (L : Limits) (M : Monitor) (D : Demand2 L M) (t : M.Tables) (r a : List ℕ) (p : Pair M t r a) where
  -- the state of the model, and that it comes to after the first record
  abbrev s : State
  s = (D.some t p.soundly).0

  abbrev one : Stepping L M t s r
  one = D.steps t s r p.first p.soundly (D.some t p.soundly).1

  two : Stepping L M (M.step t r).tables (step L s r).state a
  two = D.steps (M.step t r).tables (step L s r).state a p.second one.soundly one.state

  here : StateSound L s
  here = whole.view L s (D.only t s p.soundly (D.some t p.soundly).1)

  cramped : Cramped M t r a → (step L (step L s r).state a).answer.condition ≡ no_space
  cramped c = sym (ap (λ (x : Answer). x.condition) two.answer) ∙ c

  condition_is : (M.step t r).answer.condition ≡ normal → (step L s r).answer.condition ≡ 0
  condition_is c = sym (ap (λ (x : Answer). x.condition) one.answer) ∙ c

  items_again : command r ≡ 14 → (M.step t r).answer.condition ≡ normal → 1 ≤ (M.step t r).answer.number → command a ≡ 10 → Cramped M t r a → ⊥
  items_again e c n f x =
      let m : 1 ≤ (step L s r).answer.number = subst (λ (y : Answer). 1 ≤ y.number) one.answer n in
      let g = after_delete L s r here e (condition_is c) m in
      not_full L (step L s r).state a (roomy_items L (step L s r).state a g.0 g.1 f) (cramped x)

  requests_again : length (step L s r).state.interval.requests < L.requests → command a ≡ 6 → Cramped M t r a → ⊥
  requests_again h f x = not_full L (step L s r).state a (roomy_requests L (step L s r).state a h f) (cramped x)

pub serves : (L : Limits) (M : Monitor) → Demand2 L M → Serves M
serves L M D = record {
  items = λ t r a p e c n f x. items_again L M D t r a p e c n f x;
  requests = λ t r a p e c f x.
      requests_again L M D t r a p
      (⊎_elim (λ g. after_cancel L (s L M D t r a p) r (here L M D t r a p) g (condition_is L M D t r a p c))
      (λ g. after_finish L (s L M D t r a p) r (here L M D t r a p) g (condition_is L M D t r a p c)) e) f x;
  abend = λ t r a p h f x.
      requests_again L M D t r a p
      (after_abend L (s L M D t r a p) r (here L M D t r a p) p.first (sym (ap (λ (y : Answer). y.action) (one L M D t r a p).answer) ∙ h)) f x;
}
