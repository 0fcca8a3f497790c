-- The monitor of any sizes that the cabinet's bounds allow, as the demands speak of one. Its tables are whatever words and bytes of those sizes are
-- lent, and its step is the exact definition of one record from any tables (`step_is` in Laws/Held).
use Rattle.std.specs.Prelude.{ℕ, ◌%◌, ◌^◌, ◌≡◌, refl, Bool, true, false, List}
use Rattle.std.proofs.Common.{arith}
use Rattle.base.specs.Bytes.{is_bytes}
use Rattle.model.specs.Commands.{issuer, formed, plain}
use Rattle.model.specs.Demands.{Stepped, Monitor}
use Rattle.model.specs.State.{empty_at}
use Rattle.model.proofs.Laws.SoundStep.{empty_sound}
use Rattle.std.specs.Prelude.{Option}
use Rattle.std.specs.Prelude.{Some, None}
use Rattle.turn_rules.specs.Tables.{Tables}
use Rattle.turn_rules.specs.Turn.{sender_in, turn_of}
use Rattle.turn_rules.specs.Standing.{StandsFor, sound_t, Typed, fresh_of, Sizes, limits, cabinet_sizes, Fit, Sized}
use Rattle.turn_rules.specs.Laws.Kept.{Keeps}
use Rattle.turn_rules.proofs.Laws.TurnKept.{turn_kept}
use Rattle.turn_rules.proofs.Laws.Fresh.{fresh_kept}
use Rattle.turn_rules.specs.Laws.Sizes.{sized_kept}
use Rattle.turn_rules.proofs.Laws.Every.{tables_for, every_typed, every_sized}

-- tables of those sizes
pub record Held (z : Sizes) : Type 0 where
  pub tables : Tables
  pub typed : Typed tables
  pub sized : Sized z tables

module _ {z : Sizes} (h : Held z) where
  -- other tables that keep the sizes
  abbrev pub keeping : (t : Tables) → Keeps h.tables t → Held z
  keeping t k = record { tables = t; typed = k.typed; sized = sized_kept z h.tables h.sized t k }

  abbrev pub fresh_from : ℕ → Held z
  fresh_from v = keeping (fresh_of h.tables (v % 2 ^ 32)) (fresh_kept h.tables (v % 2 ^ 32) h.typed (omega arith))

  module _ (r : List ℕ) where
    abbrev pub stays : ℕ → Stepped (Held z)
    stays c = record { answer = plain c; tables = h }

    abbrev pub went : is_bytes r ≡ true → Stepped (Held z)
    went b = record { answer = (turn_of h.tables r).answer; tables = keeping (turn_of h.tables r).tables (turn_kept h.tables h.typed r b) }

    -- a record is bytes, and for what is none the demands ask nothing; then 32, 33 and 34 in their order
    abbrev pub goes_by : (bytes : Bool) → is_bytes r ≡ bytes → (soundly form : Bool) → Option ℕ → Stepped (Held z)
    goes_by false b soundly form x = stays 33
    goes_by true b false form x = stays 32
    goes_by true b true false x = stays 33
    goes_by true b true true None = stays 34
    goes_by true b true true (Some i) = went b

    unfoldable pub step_held : Stepped (Held z)
    step_held = goes_by (is_bytes r) refl (sound_t h.tables) (formed r) (sender_in h.tables.requests (issuer r))

module _ (z : Sizes) (f : Fit z) where
  -- there are such tables: fresh ones are made of them
  abbrev pub some_held : Held z
  some_held =
      let e = empty_sound (limits z) 0 in
      record { tables = tables_for z (empty_at 0); typed = every_typed z f (empty_at 0) e; sized = every_sized z f (empty_at 0) e }

  abbrev pub monitor_of : Monitor
  monitor_of = record {
    Tables = Held z;
    fresh = fresh_from some_held;
    step = step_held;
    Sound = λ h. sound_t h.tables ≡ true;
    Stands = λ h s. StandsFor h.tables s;
  }

-- ---- the cabinet's

pub cabinet_fit : Fit cabinet_sizes
cabinet_fit = record { programs = omega arith; terminals = omega arith; requests = omega arith; queues = omega arith; slots = omega arith }

abbrev pub cabinet_monitor : Monitor
cabinet_monitor = monitor_of cabinet_sizes cabinet_fit
