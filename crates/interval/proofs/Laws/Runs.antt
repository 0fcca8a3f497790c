-- The operations one after the other, any number of them, come to what they come to in the model, whose clock never wraps: from sound tables,
-- at any clock that their register can mean, and so from fresh ones. Assumes nothing.
use Rattle.std.specs.Prelude.{◌≡◌, ℕ, ◌%◌, ◌^◌, true, ◌&&◌, List, [], ◌∷◌, nat_lt, refl}
use Rattle.std.proofs.Common.{ap, ◌∙◌, ltb-true}
use Rattle.base.specs.Lists.{all}
use Rattle.base.specs.Bytes.{is_bytes}
use Rattle.base.specs.Laws.Tests.{and_l, and_r, both}
use Rattle.model.specs.Limits.{cabinet}
use Rattle.model.specs.Plans.{Outcome, Plan, first_of, obey}
use Rattle.model.specs.Interval as model
use Rattle.interval.specs.declared.Requests.{Requests}
use Rattle.interval.specs.Advance.{advance_of, clock_after}
use Rattle.interval.specs.Dispatch.{dispatch_in}
use Rattle.interval.specs.Fresh.{fresh_at}
use Rattle.interval.specs.Retrieve.{retrieve_in}
use Rattle.interval.specs.Rows.{no_row}
use Rattle.interval.specs.Runs.{Ask, Program, Terminal, Advance, AskTicks, Dispatch, Start, Cancel, Retrieve, Remove, wide_names, in_range, turn, model_turn, said, outcomes, tables, model_outcomes, model_after}
use Rattle.interval.specs.Stands.{interval_at, Means, sound_r, Done}
use Rattle.interval.specs.Start.{start_in}
use Rattle.interval.proofs.Laws.Cancel.{cancel_done}
use Rattle.interval.specs.Laws.Define.{programs, terminals, define_done}
use Rattle.interval.proofs.Laws.Dispatch.{dispatch_both}
use Rattle.interval.specs.Laws.Fresh.{fresh_both, ask_both}
use Rattle.interval.proofs.Laws.Remove.{remove_done}
use Rattle.interval.proofs.Laws.Retrieve.{retrieve_both}
use Rattle.interval.proofs.Laws.Start.{start_both}
use Rattle.interval.specs.Laws.Advance as tied

-- ---- one

-- what an operation has done, at a clock and at the clock that follows
pub record Turned (c : ℕ) (t : Requests) (a : Ask) : Type 0 where
  pub clock : ℕ
  pub says : said (turn t a) ≡ said (model_turn (interval_at c t) a)
  pub stands : interval_at clock (turn t a).state ≡ (model_turn (interval_at c t) a).state
  pub means : Means (turn t a).state clock
  pub soundly : sound_r (turn t a).state ≡ true

module _ (c : ℕ) (t : Requests) (m : Means t c) (s : sound_r t ≡ true) where
  -- of what obeys a plan
  by_plan : (a : Ask) (c' : ℕ) (p : Plan model.Interval) → obey (interval_at c t) (first_of p.checks) p.effect ≡ model_turn (interval_at c t) a
      → Done c c' t (turn t a).state p (turn t a).condition (turn t a).number (turn t a).bytes → Turned c t a
  by_plan a c' p e d = record {
    clock = c';
    says = ap said (d.outcome ∙ e);
    stands = ap (λ (o : Outcome model.Interval). o.state) (d.outcome ∙ e);
    means = d.means;
    soundly = d.soundly;
  }

  pub turned : (a : Ask) → in_range a ≡ true → Turned c t a
  turned (Program n) h = by_plan (Program n) c (model.define_program cabinet (interval_at c t) n) refl (define_done (programs t n (ltb-true n (2 ^ 32) h)) c m s)
  turned (Terminal n) h = by_plan (Terminal n) c (model.define_terminal cabinet (interval_at c t) n) refl (define_done (terminals t n (ltb-true n (2 ^ 32) h)) c m s)
  turned (Advance n) h =
      by_plan (Advance n) (clock_after c n (advance_of t n).outcome) (model.advance cabinet (interval_at c t) n) refl ((tied.both t n (advance_of t n) refl).1 c m s)
  turned AskTicks h = by_plan AskTicks c (model.ask_ticks (interval_at c t)) refl ((ask_both t).1 c m s)
  turned Dispatch h = by_plan Dispatch c (model.dispatch (interval_at c t)) refl ((dispatch_both t (dispatch_in t) refl).1 c m s)
  turned (Start a) h =
      let w = both (wide_names a && nat_lt a.interval (2 ^ 32)) (is_bytes a.bytes) h in
      let x = both (wide_names a) (nat_lt a.interval (2 ^ 32)) w.0 in
      let name = and_l (nat_lt a.name (2 ^ 64)) (nat_lt a.program (2 ^ 32)) (and_l (nat_lt a.name (2 ^ 64) && nat_lt a.program (2 ^ 32)) (nat_lt a.terminal (2 ^ 32)) x.0) in
      by_plan (Start a) c (model.start cabinet (interval_at c t) a) refl
      ((start_both t a (ltb-true a.name (2 ^ 64) name) w.1 (start_in t a) refl).1 c m s)
  turned (Cancel n) h = by_plan (Cancel n) c (model.cancel (interval_at c t) n) refl (cancel_done c t n m s)
  turned (Retrieve n room) h = by_plan (Retrieve n room) c (model.retrieve (interval_at c t) n room) refl ((retrieve_both t n room (retrieve_in t n room) refl).1 c m s)
  turned (Remove n) h =
      let d = remove_done c t n m s in
      record { clock = c; says = refl; stands = d.stands; means = d.means; soundly = d.soundly }

-- ---- any number

-- what a list of them has done
pub record Ran (c : ℕ) (t : Requests) (l : List Ask) : Type 0 where
  pub clock : ℕ
  pub says : outcomes t l ≡ model_outcomes (interval_at c t) l
  pub stands : interval_at clock (tables t l) ≡ model_after (interval_at c t) l
  pub means : Means (tables t l) clock
  pub soundly : sound_r (tables t l) ≡ true

pub ran : (l : List Ask) (c : ℕ) (t : Requests) → Means t c → sound_r t ≡ true → all in_range l ≡ true → Ran c t l
unfolding outcomes tables model_outcomes model_after
ran [] c t m s h = record { clock = c; says = refl; stands = refl; means = m; soundly = s }
ran (a ∷ l) c t m s h =
    let d = turned c t m s a (and_l (in_range a) (all in_range l) h) in
    let r = ran l d.clock (turn t a).state d.means d.soundly (and_r (in_range a) (all in_range l) h) in
    let e : outcomes (turn t a).state l ≡ model_outcomes (model_turn (interval_at c t) a).state l =
    r.says ∙ ap (λ (i : model.Interval). model_outcomes i l) d.stands in
    let x = d.says in
    record {
      clock = r.clock;
      says = cc;
      stands = r.stands ∙ ap (λ (i : model.Interval). model_after i l) d.stands;
      means = r.means;
      soundly = r.soundly;
    }

-- Demand 3 for this part: from fresh tables, at every clock that the register can mean, what is said is what the model says, and the tables
-- at the end stand for the model's state at the end and are sound.
module _ (v c : ℕ) (m : v ≡ c % 2 ^ 32) (l : List Ask) (h : all in_range l ≡ true) where
  fresh : Ran c (fresh_at v) l
  unfolding fresh_at
  fresh = ran l c (fresh_at v) m (fresh_both v no_row refl).1.soundly h

  idle : interval_at c (fresh_at v) ≡ model.idle_at c
  unfolding fresh_at
  idle = (fresh_both v no_row refl).1.idle c

  pub runs_fresh : outcomes (fresh_at v) l ≡ model_outcomes (model.idle_at c) l
  runs_fresh = fresh.says ∙ ap (λ (i : model.Interval). model_outcomes i l) idle

  pub stands_fresh : (k : ℕ) × ((interval_at k (tables (fresh_at v) l) ≡ model_after (model.idle_at c) l) × Means (tables (fresh_at v) l) k)
  stands_fresh = (fresh.clock, (fresh.stands ∙ ap (λ (i : model.Interval). model_after i l) idle, fresh.means))

  pub sound_fresh : sound_r (tables (fresh_at v) l) ≡ true
  sound_fresh = fresh.soundly
