-- The model itself, taken as a monitor, meets the demands: they can be met. Assumes nothing.
use Rattle.std.specs.Prelude.{ℕ, ◌+◌, ◌*◌, ◌/◌, ◌%◌, ◌^◌, ◌≤◌, ◌<◌, ◌≡◌, refl, true, false, List}
use Rattle.std.proofs.Common.{add-zero, div-add-mod', arith, ap, sym, ◌∙◌, subst}
use Rattle.std.proofs.Math.Nat.{add-mul-mod_self_right}
use Rattle.base.specs.Bytes.{is_bytes}
use Rattle.base.specs.Laws.Tests.{by_test, is_false}
use Rattle.base.specs.Laws.Maps.{map_id}
use Rattle.model.specs.Limits.{Limits, Fit, cabinet}
use Rattle.model.specs.Interval.{Phase, Waiting, Expired, Active, Request, in_phase, with_clock, with_requests}
use Rattle.model.specs.State.{State, empty_at, with_interval, sound}
use Rattle.model.specs.Commands.{Answer, Turn, allowed, refused, step, step_any}
use Rattle.model.specs.Demands.{Stepped, Monitor, Heard, Kept, Stepping, Proper, Space, Demand1, Demand2, Demand3}
use Rattle.model.proofs.Laws.Generic.{demand3}
use Rattle.model.proofs.Laws.Shift.{later_phase, later, shift, state_shift, answer_same, allowed_shift}
use Rattle.model.proofs.Laws.SoundShift.{sound_shift}
use Rattle.model.proofs.Laws.SoundStep.{empty_sound, step_sound}
use Rattle.model.proofs.Laws.Space.{space}
use Rattle.model.proofs.Laws.Conditions.{step_malformed, step_stranger, fine_heard}
use Rattle.model.proofs.Laws.Written.{step_proper, proper_plain}

-- the tables are a state, and stand for it at each clock that its register can mean
pub record Same (t s : State) : Type 0 where
  pub rounds : ℕ
  pub on : s ≡ shift (rounds * 2 ^ 32) t

abbrev pub turned : Turn → Stepped State
turned x = record { answer = x.answer; tables = x.state }

abbrev pub itself : Limits → Monitor
itself L = record {
  Tables = State;
  fresh = λ v. empty_at v;
  step = λ s r. turned (step_any L s r);
  Sound = λ s. sound L s ≡ true;
  Stands = λ t s. Same t s;
}

-- ---- moved on by nothing

zero_phase : (p : Phase) → later_phase 0 p ≡ p
zero_phase (Waiting d) = ap Waiting (omega arith)
zero_phase Expired = refl
zero_phase (Active t) = refl

zero_shift : (s : State) → shift 0 s ≡ s
zero_shift s =
    ap (λ (l : List Request). with_interval s (with_clock (with_requests s.interval l) (s.interval.clock + 0)))
    (map_id (later 0) (λ (q : Request). ap (λ (p : Phase). in_phase p q) (zero_phase q.phase)) s.interval.requests)
    ∙ ap (λ (c : ℕ). with_interval s (with_clock s.interval c)) (add-zero s.interval.clock)

module _ (L : Limits) where
  any_sound : (t : State) (r : List ℕ) → sound L t ≡ true → step_any L t r ≡ step L t r
  unfolding step_any
  any_sound t r h = rw h

  any_unsound : (t : State) (r : List ℕ) → sound L t ≡ false → step_any L t r ≡ refused t 32
  unfolding step_any
  any_unsound t r h = rw h

  -- ---- demand 2

  begins_empty : (v c : ℕ) → v < 2 ^ 32 → c % 2 ^ 32 ≡ v → Same (empty_at v) (empty_at c)
  begins_empty v c h e = record { rounds = c / 2 ^ 32; on = ap empty_at (let d : c / 2 ^ 32 * 2 ^ 32 + c % 2 ^ 32 ≡ c = div-add-mod' c (2 ^ 32) in omega arith) }

  at_one : (t s s' : State) → Same t s → Same t s' → s.interval.clock ≡ s'.interval.clock → s ≡ s'
  at_one t s s' a b e =
      let x : s.interval.clock ≡ t.interval.clock + a.rounds * 2 ^ 32 = ap (λ (y : State). y.interval.clock) a.on in
      let z : s'.interval.clock ≡ t.interval.clock + b.rounds * 2 ^ 32 = ap (λ (y : State). y.interval.clock) b.on in
      let k : a.rounds * 2 ^ 32 ≡ b.rounds * 2 ^ 32 = omega arith in
      a.on ∙ ap (λ (n : ℕ). shift n t) k ∙ sym b.on

  same_sound : (t s : State) → Same t s → sound L s ≡ sound L t
  same_sound t s a = ap (sound L) a.on ∙ sound_shift (a.rounds * 2 ^ 32) L t

  same_answer : (t s : State) (r : List ℕ) → Same t s → (step L t r).answer ≡ (step L s r).answer
  same_answer t s r a = sym (ap (λ (y : State). (step L y r).answer) a.on ∙ answer_same (a.rounds * 2 ^ 32) L t r (add-mul-mod_self_right t.interval.clock a.rounds (2 ^ 32)))

  same_state : (t s : State) (r : List ℕ) → Same t s → Same (step L t r).state (step L s r).state
  same_state t s r a = record { rounds = a.rounds; on = ap (λ (y : State). (step L y r).state) a.on ∙ state_shift (a.rounds * 2 ^ 32) L t r }

  steps_as : (t s : State) (r : List ℕ) → is_bytes r ≡ true → sound L t ≡ true → Same t s → Stepping L (itself L) t s r
  steps_as t s r b h a =
      let e : step_any L t r ≡ step L t r = any_sound t r h in
      let f : (step_any L t r).answer ≡ (step L s r).answer = ap (λ (x : Turn). x.answer) e ∙ same_answer t s r a in
      record {
        answer = f;
        state = subst (λ (x : Turn). Same x.state (step L s r).state) (sym e) (same_state t s r a);
        soundly = subst (λ (x : Turn). sound L x.state ≡ true) (sym e) (step_sound L t r h b);
        space = subst (λ (x : Answer). Space L s r x.condition) (sym f) (space L s r);
      }

  pub meets_2 : Demand2 L (itself L)
  meets_2 = record {
    begins = λ v h. empty_sound L v;
    empty = begins_empty;
    some = λ t so. (t, record { rounds = 0; on = sym (zero_shift t) });
    one = λ t s s' so a b e. at_one t s s' a b e;
    only = λ t s so a. same_sound t s a ∙ so;
    every = λ s so. (s, (so, record { rounds = 0; on = sym (zero_shift s) }));
    steps = λ t s r b so st. steps_as t s r b so st;
  }

  pub meets_3 : Demand3 L (itself L)
  meets_3 = demand3 L (itself L) meets_2

  -- ---- demand 1

  same_allowed : (t s : State) (r : List ℕ) → Same t s → allowed s r ≡ allowed t r
  same_allowed t s r a = ap (λ (y : State). allowed y r) a.on ∙ allowed_shift (a.rounds * 2 ^ 32) L t r

  any_proper : Fit L → (t : State) (r : List ℕ) → is_bytes r ≡ true → Proper (step_any L t r).answer
  any_proper fit t r b =
      by_test (sound L t) (λ h. rw (any_sound t r h) (step_proper L t r fit h b)) (λ h. rw (any_unsound t r h) (proper_plain 32 (omega arith) (omega arith)))

  heard_small : (t s : State) (r : List ℕ) → Heard (itself L) t s r → (step_any L t r).answer.condition ≤ 10
  heard_small t s r h = rw (any_sound t r h.soundly) (fine_heard L t r h.formed (sym (same_allowed t s r h.stands) ∙ h.allowed)).small

  heard_kept : (t s : State) (r : List ℕ) → Heard (itself L) t s r → ((step_any L t r).answer.condition ≡ 0 → ⊥)
      → (s' : State) × (Same (step_any L t r).state s' × Kept s r (step_any L t r).answer s')
  heard_kept t s r h ne =
      let p : Stepping L (itself L) t s r = steps_as t s r h.bytes h.soundly h.stands in
      let e : (step_any L t r).answer ≡ (step L s r).answer = p.answer in
      ((step L s r).state, (p.state, subst (λ (x : Answer). Kept s r x (step L s r).state) (sym e) ((fine_heard L s r h.formed h.allowed).kept (λ z. ne (ap (λ (x : Answer). x.condition) e ∙ z)))))

  pub meets_1 : Fit L → Demand1 (itself L)
  meets_1 fit = record {
    reply = any_proper fit;
    unsound = λ t r b h. ap turned (any_unsound t r (is_false (sound L t) h));
    malformed = λ t r b so e. ap turned (any_sound t r so ∙ step_malformed L t r e);
    stranger = λ t s r b so a f w. ap turned (any_sound t r so ∙ step_stranger L t r f (sym (same_allowed t s r a) ∙ w));
    heard = heard_small;
    kept = heard_kept;
  }

-- the cabinet's limits are such
pub cabinet_fits : Fit cabinet
cabinet_fits = record { item = omega arith; requests = omega arith; slots = omega arith }
