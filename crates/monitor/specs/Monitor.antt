-- The cabinet's monitor, as the demands speak of one. Its tables are the values that the struct's type has, and its step is the exact
-- definition that the code's exact clause cites (`step_is` in Laws/Demands).
use Rattle.std.specs.Prelude.{ℕ, suc, ◌%◌, ◌^◌, ◌<◌, ◌≡◌, refl, Bool, true, false, List}
use Rattle.std.proofs.Common.{mod-lt, arith}
use Rattle.base.specs.Bytes.{is_bytes}
use Rattle.model.specs.Commands.{formed, plain}
use Rattle.model.specs.Demands.{Stepped, Monitor}
use Rattle.model.specs.State.{State}
use Rattle.interval.specs.Stands.{Means}
use Rattle.monitor.specs.declared.Tables.{Tables}
use Rattle.monitor.specs.declared.step.Stepped as declared
use Rattle.monitor.specs.Table.{fresh_tables, state_at, sound_p}
use Rattle.monitor.specs.Step.{allowed_in, step_on, whole}
use Rattle.monitor.specs.Laws.Fine.{Typed, fresh_fine}
use Rattle.monitor.specs.Laws.Step.{step_typed}

-- tables, and that they are what the struct's type says
pub record Held : Type 0 where
  pub tables : Tables
  pub typed : Typed tables

abbrev pub fresh_held : ℕ → Held
fresh_held v = record { tables = fresh_tables (v % 2 ^ 32); typed = (fresh_fine (v % 2 ^ 32) (mod-lt v (omega arith))).typed }

-- for which states they stand: at each clock that the register can mean, one
pub record StandsFor (h : Held) (s : State) : Type 0 where
  pub means : Means h.tables.parts.requests s.interval.clock
  pub state : state_at s.interval.clock h.tables ≡ s

module _ (h : Held) (r : List ℕ) where
  abbrev pub stays : ℕ → Stepped Held
  stays c = record { answer = plain c; tables = h }

  abbrev pub went : is_bytes r ≡ true → sound_p h.tables.parts ≡ true → Stepped Held
  went b s = record { answer = (step_on h.tables r).answer; tables = record { tables = (step_on h.tables r).tables; typed = step_typed h.tables h.typed s r b } }

  -- a record is bytes, and for what is none the demands ask nothing; then 32, 33 and 34 in their order
  abbrev pub goes_by : (bytes : Bool) → is_bytes r ≡ bytes → (soundly : Bool) → sound_p h.tables.parts ≡ soundly → Bool → Bool → Stepped Held
  goes_by false b soundly s form may = stays 33
  goes_by true b false s form may = stays 32
  goes_by true b true s false may = stays 33
  goes_by true b true s true false = stays 34
  goes_by true b true s true true = went b s

  unfoldable pub step_held : Stepped Held
  step_held = goes_by (is_bytes r) refl (sound_p h.tables.parts) refl (formed r) (allowed_in h.tables.parts r)

abbrev pub cabinet_monitor : Monitor
cabinet_monitor = record {
  Tables = Held;
  fresh = fresh_held;
  step = step_held;
  Sound = λ h. sound_p h.tables.parts ≡ true;
  Stands = StandsFor;
}

-- ---- the code's step is this one

-- without that the tables are what the type says
abbrev pub bare : Stepped Held → Stepped Tables
bare x = record { answer = x.answer; tables = x.tables.tables }

-- what `step::step` gives is what the monitor's step gives
pub record Replies (t : Tables) (r : List ℕ) (x : declared.Stepped) : Type 0 where
  pub typed : Typed t
  pub reply : x ≡ whole (bare (step_held (record { tables = t; typed = typed }) r))
