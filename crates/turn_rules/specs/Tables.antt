-- The tables, as each part reads its own: what the seven lent slices hold.
use Rattle.std.specs.Prelude.{ℕ, List, length}
use Rattle.names.specs.Names as names
use Rattle.request_rows.specs.Table as requests
use Rattle.request_rows.specs.Stands.{Memory, memory}
use Rattle.queue_rows.specs.Table as queues
use Rattle.settings.specs.Table as settings

pub record Tables : Type 0 where
  pub programs : names.Names
  pub terminals : names.Names
  pub requests : requests.Requests
  pub area : List ℕ
  pub queues : queues.Queues
  pub items : List ℕ
  pub settings : settings.Tasks

abbrev pub tables : names.Names → names.Names → requests.Requests → List ℕ → queues.Queues → List ℕ → settings.Tasks → Tables
tables p m w d q i s = record { programs = p; terminals = m; requests = w; area = d; queues = q; items = i; settings = s }

-- ---- of the words and bytes that are lent

abbrev pub requests_of : List ℕ → requests.Requests
requests_of w = requests.view_of w

abbrev pub settings_of : List ℕ → settings.Tasks
settings_of s = settings.view_of s

-- how many slots the queues have is seen from their bytes
abbrev pub store_of : List ℕ → List ℕ → queues.Store
store_of q i = queues.store (queues.view_of q (length i)) i

abbrev pub tables_of : List ℕ → List ℕ → List ℕ → List ℕ → List ℕ → List ℕ → List ℕ → Tables
tables_of p m w d q i s = tables (names.view_of p) (names.view_of m) (requests.view_of w) d (queues.view_of q (length i)) i (settings.view_of s)

-- what interval control has of them
abbrev pub interval_of : List ℕ → List ℕ → List ℕ → List ℕ → Memory
interval_of p m w d = memory (names.view_of p) (names.view_of m) (requests.view_of w) d

-- ---- what is known of a task: its request and its settings

pub record Known : Type 0 where
  pub requests : requests.Requests
  pub settings : settings.Tasks

abbrev pub known : requests.Requests → settings.Tasks → Known
known w s = record { requests = w; settings = s }

abbrev pub known_of : List ℕ → List ℕ → Known
known_of w s = known (requests.view_of w) (settings.view_of s)

-- ---- a part taken out, and put back

abbrev pub interval_in : Tables → Memory
interval_in t = memory t.programs t.terminals t.requests t.area

abbrev pub with_interval : Tables → Memory → Tables
with_interval t v = tables v.programs v.terminals v.requests v.area t.queues t.items t.settings

abbrev pub store_in : Tables → queues.Store
store_in t = queues.store t.queues t.items

abbrev pub with_store : Tables → queues.Store → Tables
with_store t p = tables t.programs t.terminals t.requests t.area p.queues p.items t.settings

abbrev pub with_settings : Tables → settings.Tasks → Tables
with_settings t s = tables t.programs t.terminals t.requests t.area t.queues t.items s

abbrev pub known_in : Tables → Known
known_in t = known t.requests t.settings

abbrev pub with_known : Tables → Known → Tables
with_known t k = tables t.programs t.terminals k.requests t.area t.queues t.items k.settings
