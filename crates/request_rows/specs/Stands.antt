-- The state of the model that the words stand for at a clock, and which words are sound.
use Rattle.std.specs.Prelude.{ℕ, ◌+◌, ◌%◌, ◌^◌, ◌≡◌, Bool, true, ◌&&◌, List, map, eqb, leb, ltb, length}
use Rattle.base.specs.Lists.{all, once}
use Rattle.model.specs.Limits.{Limits, sized}
use Rattle.model.specs.Interval as model
use Rattle.names.specs.Names.{Names, names_in}
use Rattle.request_rows.specs.declared.Phase.{Phase}
use Rattle.request_rows.specs.declared.Phase.TheVariants.{Waiting, Expired, Active}
use Rattle.request_rows.specs.Circle.{to_go}
use Rattle.request_rows.specs.Rows.{Row, phase_of, program_of, terminal_of, len_of, slot_of, data_of}
use Rattle.request_rows.specs.Table.{Requests, register_of, live, slots_in, spaces}
use Rattle.request_rows.specs.Start.{Kept}

-- all that interval control is lent
pub record Memory : Type 0 where
  pub programs : Names
  pub terminals : Names
  pub requests : Requests
  pub area : List ℕ

abbrev pub memory : Names → Names → Requests → List ℕ → Memory
memory p e t area = record { programs = p; terminals = e; requests = t; area = area }

abbrev pub with_programs : Memory → Names → Memory
with_programs m p = memory p m.terminals m.requests m.area

abbrev pub with_terminals : Memory → Names → Memory
with_terminals m e = memory m.programs e m.requests m.area

abbrev pub with_requests : Memory → Requests → Memory
with_requests m t = memory m.programs m.terminals t m.area

abbrev pub with_kept : Memory → Kept → Memory
with_kept m k = memory m.programs m.terminals k.requests k.area

-- how much it holds is how much is lent; the store's bounds are another part's
abbrev pub limits_of : Memory → Limits
limits_of m = sized (length m.programs.places) (length m.terminals.places) (spaces m.requests m.area) 0 0

-- due is the clock plus the ticks to go
abbrev pub phase_at : ℕ → ℕ → Phase → model.Phase
phase_at c register (Waiting d) = model.Waiting (c + to_go d register)
phase_at c register Expired = model.Expired
phase_at c register (Active t) = model.Active t

abbrev pub request_at : ℕ → ℕ → List ℕ → Row → model.Request
request_at c register area q = record {
  name = q.name;
  program = program_of q;
  terminal = terminal_of q;
  phase = phase_at c register (phase_of q.phase);
  bytes = data_of area q;
}

unfoldable pub interval_at : ℕ → Memory → model.Interval
interval_at c m = record {
  clock = c;
  programs = names_in m.programs;
  terminals = names_in m.terminals;
  requests = map (request_at c (register_of m.requests) m.area) (live m.requests);
}

-- the clocks that a register can mean
abbrev pub Means : Memory → ℕ → Type 0
Means m c = register_of m.requests ≡ c % 2 ^ 32

-- what the layout adds: the counts, the lengths, and that each request has a slot of its own, inside the lent bytes
abbrev pub laid_out : Memory → Bool
laid_out m =
    leb m.programs.count (length m.programs.places)
    && leb m.terminals.count (length m.terminals.places)
    && eqb (length m.requests.register) 1
    && leb m.requests.count (length m.requests.rows)
    && all (λ (q : Row). leb (len_of q) 64) (live m.requests)
    && all (λ (q : Row). ltb (slot_of q) (slots_in m.area)) (live m.requests)
    && once (map slot_of (live m.requests))

-- All else is a rule about what the words stand for, at whatever clock: here the register's own. That the line holds each expired request once, and
-- the order of acceptance each waiting one, is so by construction.
unfoldable pub sound_r : Memory → Bool
sound_r m = laid_out m && model.sound_interval (limits_of m) (interval_at (register_of m.requests) m)

-- sound, at a clock that the register can mean
pub record Fine (c : ℕ) (m : Memory) : Type 0 where
  pub means : Means m c
  pub soundly : sound_r m ≡ true
