-- What the check looks at is what the model speaks of: the names, the columns and the rows. Assumes nothing.
use Rattle.std.specs.Prelude.{◌≡◌, ℕ, ◌≤◌, Bool, true, not, ◌&&◌, List, map, length, ◌==◌, nat_le, nat_lt, refl}
use Rattle.std.proofs.Common.{sym, ◌∙◌, arith}
use Rattle.std.proofs.Math.Path.{ap}
use Rattle.std.proofs.Math.ListN.{length-take}
use Rattle.std.proofs.lemmas.List.{length-map}
use borrow.Author.Tests.{leb-true, le-leb}
use Rattle.base.specs.Lists.{keep, all, once}
use Rattle.base.specs.Bytes.{blank, is_bytes}
use Rattle.base.specs.Laws.Tests.{both, and_l, and_r, and_i}
use Rattle.base.specs.Laws.Keep.{all_imp}
use Rattle.base.specs.Laws.Maps.{all_map, keep_map, map-map}
use Rattle.model.specs.Interval as model
use Rattle.model.proofs.Laws.SoundInterval.{NamesSound}
use Rattle.names.specs.Names.{Names, names_in, sound_names}
use Rattle.request_rows.specs.Rows.{Row, phase_of, active, program_of, terminal_of, slot_of}
use Rattle.request_rows.specs.Table.{register_of, live, slots_in, spaces}
use Rattle.request_rows.specs.Stands.{Memory, limits_of, request_at, interval_at}
use Rattle.request_rows.specs.Laws.Ties.{short, inside, Laid}
use Rattle.request_rows.specs.Laws.Standing.{active_at, live_few}
use Rattle.request_rows.specs.Laws.Slots.{once_below}
use Rattle.request_sound.specs.declared.columns.Column.TheVariants.{Name, Slot, Program, Terminal}
use Rattle.request_sound.specs.Sound.{sound_in, column}
use Rattle.request_sound.specs.Laws.Lists.{filter_every, filter_kept, all_both, all_agree}
use Rattle.request_sound.specs.Laws.Row.{word_name, ruled, row_is}

-- ---- names

module _ (v : Names) where
  pub names_few : sound_names v ≡ true → v.count ≤ length v.places
  unfolding sound_names
  names_few h = leb-true v.count (length v.places) (and_l _ (once (names_in v)) (and_l _ _ h))

  pub names_sound : sound_names v ≡ true → NamesSound (length v.places) (names_in v)
  unfolding sound_names
  names_sound h =
      let p2 = both (nat_le v.count (length v.places) && once (names_in v)) _ h in
      record { fit = omega (arith, length-take v.count v.places); unique = and_r (nat_le v.count (length v.places)) _ p2.0; named = p2.1 }

  pub sound_names_lem : v.count ≤ length v.places → NamesSound (length v.places) (names_in v) → sound_names v ≡ true
  unfolding sound_names
  sound_names_lem n s = and_i (and_i (le-leb _ _ n) s.unique) s.named

-- ---- columns

-- it is active and has a terminal
abbrev holds : Row → Bool
holds q = active q && not (terminal_of q == blank 4)

module _ (c r : ℕ) (area : List ℕ) (l : List Row) where
  abbrev stands : Row → model.Request
  stands = request_at c r area

  pub names_column : map (λ (q : model.Request). q.name) (map (request_at c r area) l) ≡ column Name l
  names_column = map-map (λ (q : model.Request). q.name) stands l ∙ filter_every (λ (q : Row). q.name) l

  pub running_column : model.running (map (request_at c r area) l) ≡ column Program l
  running_column =
      ap (map (λ (q : model.Request). q.program)) (keep_map stands active model.active (λ q. active_at c r (phase_of q.phase)) l)
      ∙ map-map (λ (q : model.Request). q.program) stands (keep active l)
      ∙ filter_kept active program_of l

  pub held_column : model.held (map (request_at c r area) l) ≡ column Terminal l
  held_column =
      ap (map (λ (q : model.Request). q.terminal))
      (keep_map stands holds (λ q. model.active q && not (q.terminal == blank 4))
      (λ q. ap (λ (b : Bool). b && not (terminal_of q == blank 4)) (active_at c r (phase_of q.phase))) l)
      ∙ map-map (λ (q : model.Request). q.terminal) stands (keep holds l)
      ∙ filter_kept holds terminal_of l

pub slots_column : (l : List Row) → map slot_of l ≡ column Slot l
slots_column l = filter_every slot_of l

-- ---- rows

module _ (m : Memory) where
  abbrev rows : List Row
  rows = live m.requests

  abbrev read : Row → model.Request
  read = request_at (register_of m.requests) (register_of m.requests) m.area

  abbrev state : model.Interval
  state = interval_at (register_of m.requests) m

  -- what the layout and the model ask of a row
  abbrev asked : Row → Bool
  asked q = short q && inside m.area q && ruled m q

  -- the model's rows are the live rows
  rows_ruled : all (model.sound_request (limits_of m) state) state.requests ≡ all (ruled m) rows
  unfolding interval_at
  rows_ruled = all_map read (ruled m) (model.sound_request (limits_of m) state) (λ q. refl) rows

  -- no more than there are rows, and than there are slots
  pub rows_few : Laid m.area (live m.requests) → length (map (request_at (register_of m.requests) (register_of m.requests) m.area) (live m.requests)) ≤ spaces m.requests m.area
  rows_few l =
      let n : ℕ = slots_in m.area in
      let s = once_below n (map slot_of rows) l.apart (all_map slot_of (inside m.area) (λ k. nat_lt k n) (λ q. refl) rows ∙ l.insides) in
      rw (length-map rows read) (omega (arith, live_few m.requests, s, length-map rows slot_of))

  module _ (bytes : is_bytes m.area ≡ true) (words : all word_name (live m.requests) ≡ true) where
    rows_asked : all (sound_in m.programs m.terminals m.requests (slots_in m.area)) rows ≡ all asked rows
    rows_asked =
        all_agree word_name (sound_in m.programs m.terminals m.requests (slots_in m.area)) asked (λ q w. row_is m q bytes w) rows words

    module _ (h : all (sound_in m.programs m.terminals m.requests (slots_in m.area)) (live m.requests) ≡ true) where
      passed : all asked rows ≡ true
      passed = sym rows_asked ∙ h

      pub rows_laid : once (column Slot (live m.requests)) ≡ true → Laid m.area (live m.requests)
      rows_laid o = record {
        shorts = all_imp asked short (λ q e. and_l (short q) _ (and_l (short q && inside m.area q) _ e)) rows passed;
        insides = all_imp asked (inside m.area) (λ q e. and_r (short q) _ (and_l (short q && inside m.area q) _ e)) rows passed;
        apart = ap once (slots_column rows) ∙ o;
      }

      pub rows_sound_lem : all (model.sound_request (limits_of m) (interval_at (register_of m.requests) m)) (interval_at (register_of m.requests) m).requests ≡ true
      rows_sound_lem = rows_ruled ∙ all_imp asked (ruled m) (λ q. and_r (short q && inside m.area q) (ruled m q)) rows passed

    pub sound_rows : Laid m.area (live m.requests)
        → all (model.sound_request (limits_of m) (interval_at (register_of m.requests) m)) (interval_at (register_of m.requests) m).requests ≡ true
        → all (sound_in m.programs m.terminals m.requests (slots_in m.area)) (live m.requests) ≡ true
    sound_rows l s =
        rows_asked
        ∙ all_both (λ q. short q && inside m.area q) (ruled m) rows (all_both short (inside m.area) rows l.shorts l.insides) (sym rows_ruled ∙ s)
