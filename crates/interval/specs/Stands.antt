-- The state of the model that the struct stands for at a clock, and which structs are sound.
use Rattle.std.specs.Prelude.{◌≡◌, ℕ, ◌+◌, ◌%◌, ◌^◌, Bool, true, ◌&&◌, leb, List, map, take, nat_le}
use Rattle.base.specs.Lists.{all}
use Rattle.model.specs.Limits.{cabinet}
use Rattle.model.specs.Plans.{Outcome, Plan, first_of, obey}
use Rattle.model.specs.Interval as model
use Rattle.interval.specs.declared.Phase.{Phase}
use Rattle.interval.specs.declared.Phase.TheVariants.{Waiting, Expired, Active}
use Rattle.interval.specs.declared.Request.{Request}
use Rattle.interval.specs.declared.Requests.{Requests}
use Rattle.interval.specs.Circle.{to_go}
use Rattle.interval.specs.Table.{programs_of, terminals_of, live}

-- due is the clock plus the ticks to go
abbrev pub phase_at : ℕ → ℕ → Phase → model.Phase
phase_at c register (Waiting d) = model.Waiting (c + to_go d register)
phase_at c register Expired = model.Expired
phase_at c register (Active t) = model.Active t

abbrev pub request_at : ℕ → ℕ → Request → model.Request
request_at c register q = record { name = q.name; program = q.program; terminal = q.terminal; phase = phase_at c register q.phase; bytes = take q.len q.bytes }

unfoldable pub interval_at : ℕ → Requests → model.Interval
interval_at c t = record { clock = c; programs = programs_of t; terminals = terminals_of t; requests = map (request_at c t.register) (live t) }

-- the clocks that a register can mean
abbrev pub Means : Requests → ℕ → Type 0
Means t c = t.register ≡ c % 2 ^ 32

-- "the bounds hold" of the counts themselves; all else is a rule about what the struct stands for, at whatever clock: here the register's own.
-- That the line holds each expired request once, and the order of acceptance each waiting one, is so by construction.
unfoldable pub sound_r : Requests → Bool
sound_r t =
    nat_le t.pcount 16
    && nat_le t.tcount 8
    && nat_le t.count 32
    && all (λ (q : Request). leb q.len 64) (live t)
    && model.sound_interval cabinet (interval_at t.register t)

-- What a function has done, in the words of the model: from sound tables at clock c it comes to what the plan says, its tables stand for the
-- state that follows at clock c', and they are sound.
pub record Done (c c' : ℕ) (t t' : Requests) (p : Plan model.Interval) (condition number : ℕ) (bytes : List ℕ) : Type 0 where
  pub outcome : ◌≡◌ {A = Outcome model.Interval} (record { condition = condition; number = number; bytes = bytes; state = interval_at c' t' }) (obey (interval_at c t) (first_of p.checks) p.effect)
  pub means : Means t' c'
  pub soundly : sound_r t' ≡ true

-- the same at every clock that the register can mean, of an operation that takes no time
abbrev pub Does : Requests → Requests → (model.Interval → Plan model.Interval) → ℕ → ℕ → List ℕ → Type 0
Does t t' plan condition number bytes =
    (c : ℕ) → Means t c → sound_r t ≡ true → Done c c t t' (plan (interval_at c t)) condition number bytes
