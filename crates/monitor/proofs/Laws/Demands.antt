-- The cabinet's monitor meets the demands: 1, 2 and 3, that freed room serves again, and that two register values answer alike but for the
-- ticks. Assumes nothing.
use Rattle.std.specs.Prelude.{ℕ, ◌%◌, ◌^◌, ◌≤◌, ◌<◌, ◌≡◌, Bool, List}
use Rattle.std.proofs.Math.Path.{refl, ap}
use Rattle.std.proofs.Common.{sym, subst, ◌∙◌, mod-eq_of_lt, arith}
use Rattle.std.proofs.Math.Bool.{true, false}
use Rattle.base.specs.Bytes.{is_bytes}
use Rattle.base.specs.Laws.Tests.{by_test, is_false, no}
use Rattle.model.specs.Limits.{cabinet}
use Rattle.model.specs.Plans.{normal}
use Rattle.model.specs.Commands.{Answer, formed, allowed, plain, step}
use Rattle.model.specs.State.{State, empty_at, sound}
use Rattle.model.specs.Demands.{Stepped, Heard, Kept, Proper, Space, Stepping, Demand1, Demand2, Demand3, Serves, Moved}
use Rattle.model.proofs.Laws.Generic as generic
use Rattle.model.proofs.Laws.Moved as generic-moved
use Rattle.model.proofs.Laws.Serves as generic-serves
use Rattle.model.proofs.Laws.Itself.{cabinet_fits}
use Rattle.model.proofs.Laws.Space.{space}
use Rattle.model.proofs.Laws.SoundStep.{empty_sound, view}
use Rattle.model.proofs.Laws.Conditions.{fine_heard}
use Rattle.model.proofs.Laws.Written.{step_proper, proper_plain}
use Rattle.interval.specs.Fresh.{fresh_at}
use Rattle.interval.specs.Stands.{interval_at}
use Rattle.monitor.specs.declared.Tables.{Tables}
use Rattle.monitor.specs.declared.step.Stepped as declared
use Rattle.monitor.specs.Table.{fresh_parts, no_items, state_at, sound_p}
use Rattle.monitor.specs.Step.{allowed_in, step_on, step_in, whole}
use Rattle.monitor.specs.Monitor.{Held, StandsFor, stays, goes_by, step_held, bare, Replies, cabinet_monitor}
use Rattle.monitor.specs.Laws.Fine.{fresh_sound, fresh_stands, sound_fine, sound_active}
use Rattle.monitor.specs.Laws.Step.{state_sound, allowed_stands}
use Rattle.monitor.proofs.Laws.Step.{goes_at, step_keeps}
use Rattle.monitor.specs.Laws.Every.{tables_for, every_typed, every_means, every_stands, every_sound}

-- ---- its step is the exact definition

module _ (h : Held) (r : List ℕ) where
  abbrev p : Bool
  p = sound_p h.tables.parts

  by_is : (bytes : Bool) (b : is_bytes r ≡ bytes) (soundly : Bool) (s : p ≡ soundly) (form may : Bool) → bytes ≡ true → formed r ≡ form
      → allowed_in h.tables.parts r ≡ may → bare (goes_by h r bytes b soundly s form may) ≡ step_in h.tables r
  unfolding step_in step_on
  by_is false b soundly s form may y e a = no y
  by_is true b false s form may y e a = rw s
  by_is true b true s false may y e a = rw (s, e)
  by_is true b true s true false y e a = rw (s, e, a)
  by_is true b true s true true y e a = rw s

  pub step_is : is_bytes r ≡ true → bare (step_held h r) ≡ step_in h.tables r
  unfolding step_held
  step_is y = by_is (is_bytes r) refl p refl (formed r) (allowed_in h.tables.parts r) y refl refl

  -- so the code's reply is the monitor's
  pub replies : (x : declared.Stepped) → is_bytes r ≡ true → x ≡ whole (step_in h.tables r) → (x ≡ whole (step_in h.tables r)) × Replies h.tables r x
  replies x y e = (e, record { typed = h.typed; reply = e ∙ ap whole (sym (step_is y)) })

  -- where 32, 33 and 34 arise it is the tables themselves that come back
  by_unsound : (bytes : Bool) (b : is_bytes r ≡ bytes) (soundly : Bool) (s : p ≡ soundly) (form may : Bool) → bytes ≡ true → soundly ≡ false
      → goes_by h r bytes b soundly s form may ≡ stays h r 32
  by_unsound false b soundly s form may y e = no y
  by_unsound true b true s form may y e = no (sym e)
  by_unsound true b false s form may y e = refl

  by_malformed : (bytes : Bool) (b : is_bytes r ≡ bytes) (soundly : Bool) (s : p ≡ soundly) (form may : Bool) → bytes ≡ true → soundly ≡ true → form ≡ false
      → goes_by h r bytes b soundly s form may ≡ stays h r 33
  by_malformed false b soundly s form may y k e = no y
  by_malformed true b false s form may y k e = no k
  by_malformed true b true s true may y k e = no (sym e)
  by_malformed true b true s false may y k e = refl

  by_stranger : (bytes : Bool) (b : is_bytes r ≡ bytes) (soundly : Bool) (s : p ≡ soundly) (form may : Bool) → bytes ≡ true → soundly ≡ true → form ≡ true → may ≡ false
      → goes_by h r bytes b soundly s form may ≡ stays h r 34
  by_stranger false b soundly s form may y k f e = no y
  by_stranger true b false s form may y k f e = no k
  by_stranger true b true s false may y k f e = no f
  by_stranger true b true s true true y k f e = no (sym e)
  by_stranger true b true s true false y k f e = refl

  -- ---- from sound tables

  on_sound : p ≡ true → step_in h.tables r ≡ step_on h.tables r
  unfolding step_in
  on_sound k = rw k

  went_is : is_bytes r ≡ true → p ≡ true → bare (step_held h r) ≡ step_on h.tables r
  went_is y k = step_is y ∙ on_sound k

  pub answer_is : is_bytes r ≡ true → p ≡ true → (s : State) → StandsFor h s → (step_held h r).answer ≡ (step cabinet s r).answer
  answer_is y k s d =
      ap (λ (x : Stepped Tables). x.answer) (went_is y k) ∙ (goes_at h.tables h.typed k r y s.interval.clock d.means).answer
      ∙ ap (λ (x : State). (step cabinet x r).answer) d.state

  tables_are : is_bytes r ≡ true → p ≡ true → (step_held h r).tables.tables ≡ (step_on h.tables r).tables
  tables_are y k = ap (λ (x : Stepped Tables). x.tables) (went_is y k)

  pub keeps_sound : is_bytes r ≡ true → p ≡ true → sound_p (step_held h r).tables.tables.parts ≡ true
  keeps_sound y k = ap (λ (x : Tables). sound_p x.parts) (tables_are y k) ∙ step_keeps h.tables h.typed k r y

  pub stands_after : is_bytes r ≡ true → p ≡ true → (s : State) → StandsFor h s → StandsFor (step_held h r).tables (step cabinet s r).state
  unfolding interval_at
  stands_after y k s d =
      let g = goes_at h.tables h.typed k r y s.interval.clock d.means in
      let x = (step_on h.tables r).tables in
      let e : state_at g.clock x ≡ (step cabinet s r).state = g.stands ∙ ap (λ (z : State). (step cabinet z r).state) d.state in
      let clock : g.clock ≡ (step cabinet s r).state.interval.clock = ap (λ (z : State). z.interval.clock) e in
      let at : state_at (step cabinet s r).state.interval.clock x ≡ (step cabinet s r).state = ap (λ (c : ℕ). state_at c x) (sym clock) ∙ e in
      record {
        means = ap (λ (z : Tables). z.parts.requests.register) (tables_are y k) ∙ g.means ∙ ap (λ (c : ℕ). c % 2 ^ 32) clock;
        state = ap (state_at (step cabinet s r).state.interval.clock) (tables_are y k) ∙ at;
      }

-- ---- demand 2

-- the register means its own value
own_stands : (h : Held) → StandsFor h (state_at h.tables.parts.requests.register h.tables)
unfolding interval_at
own_stands h = record { means = sym (mod-eq_of_lt h.typed.requests.register); state = refl }

stood_sound : (h : Held) (s : State) → sound_p h.tables.parts ≡ true → StandsFor h s → sound cabinet s ≡ true
stood_sound h s k d =
    let c = s.interval.clock in
    subst (λ (x : State). sound cabinet x ≡ true) d.state
    (state_sound c h.tables d.means (sound_fine c h.tables h.typed k) (sound_active c h.tables k))

pub demand2 : Demand2 cabinet cabinet_monitor
unfolding fresh_parts fresh_at
demand2 = record {
  begins = λ v h. fresh_sound (v % 2 ^ 32) (omega arith);
  empty = λ v c h e. record { means = mod-eq_of_lt h ∙ sym e; state = fresh_stands (v % 2 ^ 32) no_items c };
  some = λ t k. (state_at t.tables.parts.requests.register t.tables, own_stands t);
  one = λ t s s' k d d' e. sym d.state ∙ ap (λ (c : ℕ). state_at c t.tables) e ∙ d'.state;
  only = λ t s k d. stood_sound t s k d;
  every = λ s h. (record { tables = tables_for s; typed = every_typed s h }, (every_sound s h, record { means = every_means s h; state = every_stands s h }));
  steps = λ t s r y k d. record {
    answer = answer_is t r y k s d;
    state = stands_after t r y k s d;
    soundly = keeps_sound t r y k;
    space = subst (λ (a : Answer). Space cabinet s r a.condition) (sym (answer_is t r y k s d)) (space cabinet s r);
  };
}

-- ---- demand 1

reply : (t : Held) (r : List ℕ) → is_bytes r ≡ true → Proper (step_held t r).answer
unfolding step_in
reply t r y =
    by_test (sound_p t.tables.parts)
    (λ k.
    let d = own_stands t in
    let s = state_at t.tables.parts.requests.register t.tables in
    subst Proper (sym (answer_is t r y k s d)) (step_proper cabinet s r cabinet_fits (stood_sound t s k d) y))
    (λ k.
    let e : (step_held t r).answer ≡ plain 32 = ap (λ (x : Stepped Tables). x.answer) (step_is t r y) ∙ rw k in
    subst Proper (sym e) (proper_plain 32 (omega arith) (omega arith)))

module _ (t : Held) (s : State) (r : List ℕ) (h : Heard cabinet_monitor t s r) where
  heard_answer : (step_held t r).answer ≡ (step cabinet s r).answer
  heard_answer = answer_is t r h.bytes h.soundly s h.stands

  small : (step_held t r).answer.condition ≤ 10
  small = subst (λ (a : Answer). a.condition ≤ 10) (sym heard_answer) (fine_heard cabinet s r h.formed h.allowed).small

  kept : ((step_held t r).answer.condition ≡ normal → ⊥) → (s' : State) × (StandsFor (step_held t r).tables s' × Kept s r (step_held t r).answer s')
  kept z =
      let n : (step cabinet s r).answer.condition ≡ normal → ⊥ = λ e. z (ap (λ (a : Answer). a.condition) heard_answer ∙ e) in (
        (step cabinet s r).state,
        (
          stands_after t r h.bytes h.soundly s h.stands,
          subst (λ (a : Answer). Kept s r a (step cabinet s r).state) (sym heard_answer) ((fine_heard cabinet s r h.formed h.allowed).kept n),
        ),
      )

pub demand1 : Demand1 cabinet_monitor
unfolding step_held
demand1 = record {
  reply = reply;
  unsound = λ t r y k. by_unsound t r (is_bytes r) refl (sound_p t.tables.parts) refl (formed r) (allowed_in t.tables.parts r) y (is_false (sound_p t.tables.parts) k);
  malformed = λ t r y k e. by_malformed t r (is_bytes r) refl (sound_p t.tables.parts) refl (formed r) (allowed_in t.tables.parts r) y k e;
  stranger = λ t s r y k d e a.
      by_stranger t r (is_bytes r) refl (sound_p t.tables.parts) refl (formed r) (allowed_in t.tables.parts r) y k e
      (allowed_stands s.interval.clock t.tables r ∙ ap (λ (x : State). allowed x r) d.state ∙ a);
  heard = small;
  kept = kept;
}

-- ---- what follows for any monitor

pub demand3 : Demand3 cabinet cabinet_monitor
demand3 = generic.demand3 cabinet cabinet_monitor demand2

pub serves : Serves cabinet_monitor
serves = generic-serves.serves cabinet cabinet_monitor demand2

pub moved : Moved cabinet_monitor
moved = generic-moved.moved cabinet cabinet_monitor demand3
