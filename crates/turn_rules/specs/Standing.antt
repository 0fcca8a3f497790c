-- The state of the model that the tables stand for at a clock, how much they hold, and which of them are sound; what the types say of them; fresh
-- ones; and the sizes that they can have.
use Rattle.std.specs.Prelude.{ℕ, ◌*◌, ◌^◌, ◌<◌, ◌≤◌, ◌≡◌, Bool, ◌&&◌, List, leb, length}
use Rattle.base.specs.Choice.{pick}
use Rattle.base.specs.Lists.{all}
use Rattle.model.specs.Limits.{Limits, sized}
use Rattle.model.specs.State.{State}
use Rattle.model.specs.Demands.{Stepped}
use Rattle.names.specs.Names as names
use Rattle.request_rows.specs.Table.{spaces}
use Rattle.request_rows.specs.Stands.{interval_at, Means, sound_r}
use Rattle.request_rows.specs.Active.{active_in}
use Rattle.request_rows.specs.Fresh.{fresh_at}
use Rattle.request_rows.specs.Typed as requests
use Rattle.queue_rows.specs.Table.{rows_in, slots_in}
use Rattle.queue_rows.specs.Model.{queues_of}
use Rattle.queue_rows.specs.Sound.{sound_q}
use Rattle.queue_rows.specs.Fresh as queues-fresh
use Rattle.queue_rows.specs.Laws.Typed as queues
use Rattle.settings.specs.Table.{tasks_of, sound_h, rows_in as linesIn}
use Rattle.settings.specs.Names.{names_in}
use Rattle.settings.specs.Fresh as lines-fresh
use Rattle.settings.specs.Laws.Typed as lines
use Rattle.turn_rules.specs.Tables.{Tables, tables, interval_in, store_in}
use Rattle.turn_rules.specs.Turn.{refused_in, turn_of}

abbrev pub state_at : ℕ → Tables → State
state_at c t = record { interval = interval_at c (interval_in t); queues = queues_of (store_in t); tasks = tasks_of t.settings }

-- for which states they stand: at each clock that the register can mean, one
pub record StandsFor (t : Tables) (s : State) : Type 0 where
  pub means : Means (interval_in t) s.interval.clock
  pub state : state_at s.interval.clock t ≡ s

-- how much they hold is how much is lent
abbrev pub limits_of : Tables → Limits
limits_of t =
    sized (length t.programs.places) (length t.terminals.places) (spaces t.requests t.area) (rows_in t.queues) (slots_in t.queues)

-- The rules of the parts, and "only an active task has settings". The layout adds that there is a row of settings for each task that can be active:
-- each has a program of its own.
unfoldable pub sound_t : Tables → Bool
sound_t t =
    sound_r (interval_in t)
    && sound_q t.queues
    && sound_h t.settings
    && all (active_in t.requests) (names_in t.settings)
    && leb (length t.programs.places) (linesIn t.settings)

-- one record, from any tables: 32, 33 and 34 "are tried in that order"
unfoldable pub step_of : Tables → List ℕ → Stepped Tables
step_of t r = pick (sound_t t) (turn_of t r) (refused_in t 32)

-- ---- what the types say of them

pub record Typed (t : Tables) : Type 0 where
  pub memory : requests.Typed (interval_in t)
  pub fits : queues.Fits t.queues t.items
  pub store : queues.Typed (store_in t)
  pub settings : lines.Typed (linesIn t.settings) (length t.settings.past) t.settings
  pub rows : linesIn t.settings < 2 ^ 64

-- ---- fresh ones: the bytes of data and of items stay as they are, and mean nothing

unfoldable pub fresh_of : Tables → ℕ → Tables
fresh_of t v =
    tables (names.fresh_of t.programs) (names.fresh_of t.terminals) (fresh_at t.requests v) t.area (queues-fresh.fresh_of t.queues) t.items
    (lines-fresh.fresh_of t.settings)

-- ---- sizes

-- how many programs, terminals, requests, queues and items there can be
pub record Sizes : Type 0 where
  pub programs : ℕ
  pub terminals : ℕ
  pub requests : ℕ
  pub queues : ℕ
  pub slots : ℕ

abbrev pub limits : Sizes → Limits
limits z = sized z.programs z.terminals z.requests z.queues z.slots

-- "programs / terminals | 16 / 8", "requests known at once, in every phase | 32", "queues / items over all queues | 16 / 128"
abbrev pub cabinet_sizes : Sizes
cabinet_sizes = record { programs = 16; terminals = 8; requests = 32; queues = 16; slots = 128 }

-- no more than the cabinet has
pub record Fit (z : Sizes) : Type 0 where
  pub programs : z.programs ≤ 16
  pub terminals : z.terminals ≤ 8
  pub requests : z.requests ≤ 32
  pub queues : z.queues ≤ 16
  pub slots : z.slots ≤ 128

-- as much is lent as those sizes need, and nothing past it
pub record Sized (z : Sizes) (t : Tables) : Type 0 where
  pub programs : length t.programs.places ≡ z.programs
  pub terminals : length t.terminals.places ≡ z.terminals
  pub register : length t.requests.register ≡ 1
  pub requests : length t.requests.rows ≡ z.requests
  pub requests_past : length t.requests.past ≡ 0
  pub area : length t.area ≡ 64 * z.requests
  pub queues : rows_in t.queues ≡ z.queues
  pub slots : slots_in t.queues ≡ z.slots
  pub queues_past : length t.queues.past ≡ 0
  pub items : length t.items ≡ 64 * z.slots
  pub settings : linesIn t.settings ≡ z.programs
  pub settings_past : length t.settings.past ≡ 0
