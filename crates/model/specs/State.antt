-- The tables: the three parts, and the rules between them.
use Rattle.std.specs.Prelude.{ℕ, Bool, ◌&&◌, List, []}
use Rattle.base.specs.Lists.{all}
use Rattle.model.specs.Limits.{Limits}
use Rattle.model.specs.Queues.{Queue, sound_queues}
use Rattle.model.specs.Interval.{Interval, idle_at, remove, active_task, sound_interval}
use Rattle.model.specs.Handlers.{Task, forget, sound_tasks}

pub record State : Type 0 where
  pub interval : Interval
  pub queues : List Queue
  pub tasks : List Task

-- "fresh, empty tables for any register value"
abbrev pub empty_at : ℕ → State
empty_at c = record { interval = idle_at c; queues = []; tasks = [] }

abbrev pub with_interval : State → Interval → State
with_interval s i = record { interval = i; queues = s.queues; tasks = s.tasks }

abbrev pub with_queues : State → List Queue → State
with_queues s l = record { interval = s.interval; queues = l; tasks = s.tasks }

abbrev pub with_tasks : State → List Task → State
with_tasks s l = record { interval = s.interval; queues = s.queues; tasks = l }

-- "Finish removes the task, its settings and its data."
abbrev pub without_task : State → ℕ → State
without_task s n = record { interval = remove s.interval n; queues = s.queues; tasks = forget s.tasks n }

-- "Sound tables": the rules of the parts, and "only an active task has settings"
unfoldable pub sound : Limits → State → Bool
sound L s =
    sound_interval L s.interval
    && sound_queues L s.queues
    && sound_tasks s.tasks
    && all (λ (t : Task). active_task s.interval t.name) s.tasks
