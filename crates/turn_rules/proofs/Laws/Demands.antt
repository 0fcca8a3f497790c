-- The monitor of any sizes that the cabinet's bounds allow meets the demands: 1, 2 and 3, that freed room serves again, and that two register values
-- answer alike but for the ticks. Assumes nothing.
use Rattle.std.specs.Prelude.{ℕ, ◌%◌, ◌^◌, ◌≤◌, ◌≡◌, List}
use Rattle.std.proofs.Math.Path.{refl, ap, subst}
use Rattle.std.proofs.Common.{sym, ◌∙◌, mod-eq_of_lt, arith}
use Rattle.std.proofs.Math.Bool.{true}
use Rattle.base.specs.Bytes.{is_bytes}
use Rattle.base.specs.Laws.Tests.{by_test, is_false, no}
use Rattle.model.specs.Limits.{Limits, cabinet}
use Rattle.model.specs.Plans.{normal}
use Rattle.model.specs.Commands.{Answer, issuer, formed, allowed, plain, step}
use Rattle.model.specs.State.{State, empty_at, sound}
use Rattle.model.specs.Demands.{Stepped, Heard, Kept, Proper, Space, Demand1, Demand2, Demand3, Serves, Moved}
use Rattle.model.proofs.Laws.Generic as generic
use Rattle.model.proofs.Laws.Moved as generic-moved
use Rattle.model.proofs.Laws.Serves as generic-serves
use Rattle.model.proofs.Laws.Space.{space}
use Rattle.model.proofs.Laws.Conditions.{fine_heard}
use Rattle.model.proofs.Laws.Written.{step_proper, proper_plain}
use Rattle.request_rows.specs.Table.{register_of}
use Rattle.request_rows.specs.Stands.{interval_at}
use Rattle.turn_rules.specs.Tables.{Tables}
use Rattle.turn_rules.specs.Turn.{sender_in}
use Rattle.turn_rules.specs.Standing.{state_at, StandsFor, sound_t, step_of, Sizes, limits, cabinet_sizes, Fit}
use Rattle.turn_rules.proofs.Monitor.{Held, step_held, some_held, fresh_from, monitor_of, cabinet_fit, cabinet_monitor}
use Rattle.turn_rules.specs.Laws.Fine.{by_rules, state_sound, own_means}
use Rattle.turn_rules.specs.Laws.Sender.{at_allowed}
use Rattle.turn_rules.proofs.Laws.Fresh.{fresh_stands, fresh_fine, fresh_sound}
use Rattle.turn_rules.specs.Laws.Sizes.{limits_carried, sized_limits, sized_roomy}
use Rattle.turn_rules.proofs.Laws.Every.{tables_for, every_typed, every_sized, every_means, every_stands, every_sound}
use Rattle.turn_rules.proofs.Laws.Held.{step_is, by_unsound, by_malformed, by_stranger, answer_is, stands_after, keeps_sound}

-- the register means its own value
pub own_stands : (t : Tables) → StandsFor t (state_at (register_of t.requests) t)
unfolding interval_at
own_stands t = record { means = own_means t; state = refl }

-- ---- fresh tables, made of any of those sizes

module _ {z : Sizes} (h : Held z) (v : ℕ) where
  pub fresh_begins : sound_t (fresh_from h v).tables ≡ true
  fresh_begins = fresh_sound h.tables (v % 2 ^ 32) h.sized.register h.typed (sized_roomy z h.tables h.sized) (omega arith)

  pub fresh_empty : (c : ℕ) → c % 2 ^ 32 ≡ v % 2 ^ 32 → StandsFor (fresh_from h v).tables (empty_at c)
  fresh_empty c e = record {
    means = (fresh_fine h.tables (v % 2 ^ 32) h.sized.register c e).interval.means;
    state = fresh_stands h.tables (v % 2 ^ 32) c;
  }

module _ (z : Sizes) (f : Fit z) where
  abbrev L : Limits
  L = limits z

  -- ---- demand 2

  stood_sound : (h : Held z) (s : State) → sound_t h.tables ≡ true → StandsFor h.tables s → sound L s ≡ true
  stood_sound h s k d =
      let t = h.tables in
      let c = s.interval.clock in
      let rules = by_rules c t d.means k in
      subst (λ (x : State). sound L x ≡ true) d.state
      (subst (λ (M : Limits). sound M (state_at c t) ≡ true) (sized_limits z t h.sized f) (state_sound c t h.typed rules.fine rules.active))

  pub demand2 : Demand2 (limits z) (monitor_of z f)
  demand2 = record {
    begins = λ v w. fresh_begins (some_held z f) v;
    empty = λ v c w e. fresh_empty (some_held z f) v c (e ∙ sym (mod-eq_of_lt w));
    some = λ h k. (state_at (register_of h.tables.requests) h.tables, own_stands h.tables);
    one = λ h s s' k d d' e. sym d.state ∙ ap (λ (c : ℕ). state_at c h.tables) e ∙ d'.state;
    only = λ h s k d. stood_sound h s k d;
    every = λ s k. (
      record { tables = tables_for z s; typed = every_typed z f s k; sized = every_sized z f s k },
      (every_sound z f s k, record { means = every_means z f s k; state = every_stands z f s k }),
    );
    steps = λ h s r y k d. record {
      answer = answer_is f h r y k s d;
      state = stands_after f h r y k s d;
      soundly = keeps_sound f h r y k;
      space = subst (λ (a : Answer). Space L s r a.condition) (sym (answer_is f h r y k s d)) (space L s r);
    };
  }

  -- ---- demand 1

  reply : (h : Held z) (r : List ℕ) → is_bytes r ≡ true → Proper (step_held h r).answer
  unfolding step_of
  reply h r y =
      by_test (sound_t h.tables)
      (λ k.
      let d = own_stands h.tables in
      let s = state_at (register_of h.tables.requests) h.tables in
      subst Proper (sym (answer_is f h r y k s d)) (step_proper L s r (limits_carried z f) (stood_sound h s k d) y))
      (λ k.
      let e : (step_held h r).answer ≡ plain 32 = ap (λ (x : Stepped Tables). x.answer) (step_is h r y) ∙ rw k in
      subst Proper (sym e) (proper_plain 32 (omega arith) (omega arith)))

  module _ (h : Held z) (s : State) (r : List ℕ) (a : Heard (monitor_of z f) h s r) where
    heard_answer : (step_held h r).answer ≡ (step L s r).answer
    heard_answer = answer_is f h r a.bytes a.soundly s a.stands

    small : (step_held h r).answer.condition ≤ 10
    small = subst (λ (x : Answer). x.condition ≤ 10) (sym heard_answer) (fine_heard L s r a.formed a.allowed).small

    kept : ((step_held h r).answer.condition ≡ normal → ⊥) → (s' : State) × (StandsFor (step_held h r).tables.tables s' × Kept s r (step_held h r).answer s')
    kept e =
        let n : (step L s r).answer.condition ≡ normal → ⊥ = λ u. e (ap (λ (x : Answer). x.condition) heard_answer ∙ u) in (
          (step L s r).state,
          (
            stands_after f h r a.bytes a.soundly s a.stands,
            subst (λ (x : Answer). Kept s r x (step L s r).state) (sym heard_answer) ((fine_heard L s r a.formed a.allowed).kept n),
          ),
        )

  pub demand1 : Demand1 (monitor_of z f)
  unfolding step_held
  demand1 = record {
    reply = reply;
    unsound = λ h r y k. by_unsound h r (is_bytes r) refl (sound_t h.tables) (formed r) (sender_in h.tables.requests (issuer r)) y (is_false (sound_t h.tables) k);
    malformed = λ h r y k e. by_malformed h r (is_bytes r) refl (sound_t h.tables) (formed r) (sender_in h.tables.requests (issuer r)) y k e;
    stranger = λ h s r y k d e a.
        by_stranger h r (is_bytes r) refl (sound_t h.tables) (formed r) (sender_in h.tables.requests (issuer r)) y k e
        (λ i x.
        let yes : allowed s r ≡ true = subst (λ (u : State). allowed u r ≡ true) d.state (at_allowed s.interval.clock h.tables r i x) in
        no (sym a ∙ yes));
    heard = small;
    kept = kept;
  }

  -- ---- what follows for any monitor

  pub demand3 : Demand3 (limits z) (monitor_of z f)
  demand3 = generic.demand3 L (monitor_of z f) demand2

  pub serves : Serves (monitor_of z f)
  serves = generic-serves.serves L (monitor_of z f) demand2

  pub moved : Moved (monitor_of z f)
  moved = generic-moved.moved L (monitor_of z f) demand3

-- ---- the cabinet's

pub cabinet_limits : limits cabinet_sizes ≡ cabinet
cabinet_limits = refl

pub cabinet_demand1 : Demand1 cabinet_monitor
cabinet_demand1 = demand1 cabinet_sizes cabinet_fit

pub cabinet_demand2 : Demand2 cabinet cabinet_monitor
cabinet_demand2 = demand2 cabinet_sizes cabinet_fit

pub cabinet_demand3 : Demand3 cabinet cabinet_monitor
cabinet_demand3 = demand3 cabinet_sizes cabinet_fit

pub cabinet_serves : Serves cabinet_monitor
cabinet_serves = serves cabinet_sizes cabinet_fit

pub cabinet_moved : Moved cabinet_monitor
cabinet_moved = moved cabinet_sizes cabinet_fit
