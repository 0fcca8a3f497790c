-- The tables: the three parts and the bytes of the items, parts of them put in place of others, and when they are sound.
use Rattle.std.specs.Prelude.{ℕ, ◌≡◌, Bool, true, ◌&&◌, List, map, replicate}
use Rattle.base.specs.Lists.{all}
use Rattle.model.specs.Handlers as model
use Rattle.model.specs.State.{State, empty_at}
use Rattle.interval.specs.Stands.{interval_at, sound_r}
use Rattle.interval.specs.Active.{active_in}
use Rattle.interval.specs.Fresh.{fresh_at}
use Rattle.interval.specs.Remove.{remove_in}
use Rattle.interval.specs.declared.Requests.{Requests}
use Rattle.queues.specs.Fresh as queues
use Rattle.queues.specs.Model.{queues_of}
use Rattle.queues.specs.Sound.{sound_q}
use Rattle.queues.specs.Runs.{Store, store}
use Rattle.handlers.specs.Forget.{forget_in}
use Rattle.handlers.specs.Fresh.{no_tasks}
use Rattle.handlers.specs.Table.{tasks_of, sound_h}
use Rattle.handlers.specs.declared.Tasks.{Tasks}
use Rattle.monitor.specs.declared.Parts.{Parts}
use Rattle.monitor.specs.declared.Tables.{Tables}

abbrev pub tables : Parts → List ℕ → Tables
tables p b = record { parts = p; items = b }

abbrev pub parts_of : Requests → Tables → Tasks → Parts
parts_of q t h = record { requests = q; queues = t.parts.queues; tasks = h }

-- ---- a part in place of another

abbrev pub with_requests : Tables → Requests → Tables
with_requests t q = tables (parts_of q t t.parts.tasks) t.items

abbrev pub with_tasks : Tables → Tasks → Tables
with_tasks t h = tables (parts_of t.parts.requests t h) t.items

abbrev pub store_of : Tables → Store
store_of t = store t.parts.queues t.items

abbrev pub with_store : Tables → Store → Tables
with_store t s = tables (record { requests = t.parts.requests; queues = s.queues; tasks = t.parts.tasks }) s.items

-- "Finish removes the task, its settings and its data."
abbrev pub without_in : Parts → ℕ → Parts
without_in p n = record { requests = remove_in p.requests n; queues = p.queues; tasks = forget_in p.tasks n }

abbrev pub without_task : Tables → ℕ → Tables
without_task t n = tables (without_in t.parts n) t.items

-- ---- fresh tables

unfoldable pub fresh_parts : ℕ → Parts
fresh_parts v = record { requests = fresh_at v; queues = queues.fresh; tasks = no_tasks }

unfoldable pub no_items : List ℕ
no_items = replicate 8192 0

abbrev pub fresh_tables : ℕ → Tables
fresh_tables v = tables (fresh_parts v) no_items

-- ---- what they stand for, and when they are sound

-- the state of the model at a clock
abbrev pub state_at : ℕ → Tables → State
state_at c t = record { interval = interval_at c t.parts.requests; queues = queues_of t.parts.queues t.items; tasks = tasks_of t.parts.tasks }

-- the tasks that have settings
abbrev pub settled : Tasks → List ℕ
settled h = map (λ (m : model.Task). m.name) (tasks_of h)

-- the rules of the parts, and "only an active task has settings"
unfoldable pub sound_p : Parts → Bool
sound_p p = sound_r p.requests && sound_q p.queues && sound_h p.tasks && all (active_in p.requests) (settled p.tasks)

-- ---- fresh tables, in the words of the model

-- their register holds the value, they are sound, and no clock makes them stand for anything but the empty state
pub record Fresh (v : ℕ) (t : Tables) : Type 0 where
  pub register : t.parts.requests.register ≡ v
  pub soundly : sound_p t.parts ≡ true
  pub empty : (c : ℕ) → state_at c t ≡ empty_at c
