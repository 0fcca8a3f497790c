-- The monitor's step is the exact definition of one record from any tables; from sound ones it is the model's. Assumes nothing.
use Rattle.std.specs.Prelude.{ℕ, ◌≡◌, Bool, List}
use Rattle.std.proofs.Math.Path.{refl, ap, subst}
use Rattle.std.proofs.Common.{sym, ◌∙◌}
use Rattle.std.proofs.Math.Bool.{true, false}
use Rattle.base.specs.Bytes.{is_bytes}
use Rattle.base.specs.Laws.Tests.{no}
use Rattle.model.specs.Limits.{Limits}
use Rattle.model.specs.Commands.{issuer, formed, step}
use Rattle.model.specs.State.{State}
use Rattle.model.specs.Demands.{Stepped}
use Rattle.request_rows.specs.Stands.{Means, interval_at}
use Rattle.std.specs.Prelude.{Option}
use Rattle.std.specs.Prelude.{Some, None}
use Rattle.turn_rules.specs.Tables.{Tables, interval_in}
use Rattle.turn_rules.specs.Turn.{sender_in, turn_of}
use Rattle.turn_rules.specs.Standing.{state_at, StandsFor, sound_t, step_of, Sizes, limits, Fit}
use Rattle.turn_rules.proofs.Monitor.{Held, stays, goes_by, step_held}
use Rattle.turn_rules.proofs.Laws.Step.{Goes, goes_at, turn_sound}
use Rattle.turn_rules.specs.Laws.Sizes.{sized_limits}

-- ---- its step is the exact definition

-- without that the tables are of those sizes
abbrev pub bare : {z : Sizes} → Stepped (Held z) → Stepped Tables
bare x = record { answer = x.answer; tables = x.tables.tables }

module _ {z : Sizes} (h : Held z) (r : List ℕ) where
  abbrev p : Bool
  p = sound_t h.tables

  abbrev from : Option ℕ
  from = sender_in h.tables.requests (issuer r)

  by_is : (bytes : Bool) (b : is_bytes r ≡ bytes) (soundly form : Bool) (x : Option ℕ) → bytes ≡ true → p ≡ soundly → formed r ≡ form → from ≡ x
      → bare (goes_by h r bytes b soundly form x) ≡ step_of h.tables r
  unfolding step_of turn_of
  by_is false b soundly form x y s e a = no y
  by_is true b false form x y s e a = rw s
  by_is true b true false x y s e a = rw (s, e)
  by_is true b true true None y s e a = rw (s, e, a)
  by_is true b true true (Some i) y s e a = rw s

  pub step_is : is_bytes r ≡ true → bare (step_held h r) ≡ step_of h.tables r
  unfolding step_held
  step_is y = by_is (is_bytes r) refl p (formed r) from y refl refl refl

  -- where 32, 33 and 34 arise it is the tables themselves that come back
  pub by_unsound : (bytes : Bool) (b : is_bytes r ≡ bytes) (soundly form : Bool) (x : Option ℕ) → bytes ≡ true → soundly ≡ false
      → goes_by h r bytes b soundly form x ≡ stays h r 32
  by_unsound false b soundly form x y s = no y
  by_unsound true b true form x y s = no (sym s)
  by_unsound true b false form x y s = refl

  pub by_malformed : (bytes : Bool) (b : is_bytes r ≡ bytes) (soundly form : Bool) (x : Option ℕ) → bytes ≡ true → soundly ≡ true → form ≡ false
      → goes_by h r bytes b soundly form x ≡ stays h r 33
  by_malformed false b soundly form x y s e = no y
  by_malformed true b false form x y s e = no s
  by_malformed true b true true x y s e = no (sym e)
  by_malformed true b true false x y s e = refl

  pub by_stranger : (bytes : Bool) (b : is_bytes r ≡ bytes) (soundly form : Bool) (x : Option ℕ) → bytes ≡ true → soundly ≡ true → form ≡ true
      → ((i : ℕ) → x ≡ Some i → ⊥) → goes_by h r bytes b soundly form x ≡ stays h r 34
  by_stranger false b soundly form x y s e a = no y
  by_stranger true b false form x y s e a = no s
  by_stranger true b true false x y s e a = no e
  by_stranger true b true true None y s e a = refl
  by_stranger true b true true (Some i) y s e a = absurd (a i refl)

-- ---- from sound tables

module _ {z : Sizes} (f : Fit z) (h : Held z) (r : List ℕ) (y : is_bytes r ≡ true) (k : sound_t h.tables ≡ true) where
  abbrev L : Limits
  L = limits z

  abbrev t : Tables
  t = h.tables

  -- at any state for which they stand
  goes : (s : State) → StandsFor t s → Goes (turn_of t r) (step L s r)
  goes s d =
      let c = s.interval.clock in
      let g = goes_at t h.typed k r y c d.means in
      let at : Goes (turn_of t r) (step L (state_at c t) r) = subst (λ (M : Limits). Goes (turn_of t r) (step M (state_at c t) r)) (sized_limits z t h.sized f) g in
      subst (λ (x : State). Goes (turn_of t r) (step L x r)) d.state at

  pub turn_answer : (s : State) → StandsFor h.tables s → (turn_of h.tables r).answer ≡ (step (limits z) s r).answer
  turn_answer s d = (goes s d).answer

  pub turn_stands : (s : State) → StandsFor h.tables s → StandsFor (turn_of h.tables r).tables (step (limits z) s r).state
  unfolding interval_at
  turn_stands s d =
      let g = goes s d in
      let x = (turn_of t r).tables in
      let clock : g.clock ≡ (step L s r).state.interval.clock = ap (λ (u : State). u.interval.clock) g.stands in
      record {
        means = subst (Means (interval_in x)) clock g.fine.interval.means;
        state = ap (λ (c : ℕ). state_at c x) (sym clock) ∙ g.stands;
      }

  -- the monitor's step
  went_is : bare (step_held h r) ≡ turn_of t r
  unfolding step_of
  went_is = step_is h r y ∙ rw k

  tables_are : (turn_of t r).tables ≡ (step_held h r).tables.tables
  tables_are = ap (λ (x : Stepped Tables). x.tables) (sym went_is)

  pub answer_is : (s : State) → StandsFor h.tables s → (step_held h r).answer ≡ (step (limits z) s r).answer
  answer_is s d = ap (λ (x : Stepped Tables). x.answer) went_is ∙ turn_answer s d

  pub stands_after : (s : State) → StandsFor h.tables s → StandsFor (step_held h r).tables.tables (step (limits z) s r).state
  stands_after s d = subst (λ (x : Tables). StandsFor x (step L s r).state) tables_are (turn_stands s d)

  pub keeps_sound : sound_t (step_held h r).tables.tables ≡ true
  keeps_sound = subst (λ (x : Tables). sound_t x ≡ true) tables_are (turn_sound t h.typed k r y)
