-- One record: what it must look like, who may send it, the table of commands, and what the handlers make of its condition.
-- (Document 01, "Commands and what each checks, in order".)
use Rattle.std.specs.Prelude.{ℕ, suc, zero, ◌+◌, ◌-◌, Bool, false, not, ◌&&◌, ◌||◌, List, [], ◌∷◌, length, drop, get_or, leb, eqb}
use Rattle.base.specs.Choice.{pick}
use Rattle.base.specs.Bytes.{num, blank}
use Rattle.model.specs.Limits.{Limits}
use Rattle.model.specs.Plans.{normal, invalid_request, check, first_of, Outcome, Plan, plan, done, obey, plan_in}
use Rattle.model.specs.Queues.{Queue, append, read_next, read_at, rewrite, delete}
use Rattle.model.specs.Interval.{Interval, Asked, active_task, define_program, define_terminal, advance, ask_ticks, dispatch, start, cancel, retrieve}
use Rattle.model.specs.Handlers.{Setting, Unset, Ignore, Label, Task, decides, handle, ignore, reset}
use Rattle.model.specs.State.{State, sound, with_interval, with_queues, with_tasks, without_task}

-- ---- a record: "command byte, 8-byte issuer, operands"

abbrev pub command : List ℕ → ℕ
command r = get_or r 0 0

abbrev pub issuer : List ℕ → ℕ
issuer r = num 1 8 r

-- the n bytes at a place among the operands, and "every byte left" from a place on
abbrev pub operand : ℕ → ℕ → List ℕ → ℕ
operand at n r = num (9 + at) n r

abbrev pub rest : ℕ → List ℕ → List ℕ
rest at r = drop (9 + at) r

-- ---- the table

-- "operands not of the size below"
pub data Size : Type 0 where
  exactly : ℕ → Size
  at_least : ℕ → Size
  never : Size

abbrev pub fits : Size → ℕ → Bool
fits (exactly k) n = eqb n k
fits (at_least k) n = leb k n
fits never n = false

-- "'Sys' and 'task': any other issuer gets 10, before every condition in the row." A blank issuer is the system.
pub data Who : Type 0 where
  anyone : Who
  sys : Who
  task : Who

abbrev pub wrong_kind : Who → ℕ → Bool
wrong_kind anyone n = false
wrong_kind sys n = not (eqb n (blank 8))
wrong_kind task n = eqb n (blank 8)

pub record Row : Type 0 where
  pub size : Size
  pub who : Who
  pub plans : Limits → State → List ℕ → Plan State

abbrev pub row : Size → Who → (Limits → State → List ℕ → Plan State) → Row
row z w p = record { size = z; who = w; plans = p }

-- a row of a part: its plan on the part, put back
abbrev pub on_interval : Size → Who → (Limits → Interval → List ℕ → Plan Interval) → Row
on_interval z w p = row z w (λ L s r. plan_in (with_interval s) (p L s.interval r))

abbrev pub on_queues : Size → (Limits → List Queue → List ℕ → Plan (List Queue)) → Row
on_queues z p = row z anyone (λ L s r. plan_in (with_queues s) (p L s.queues r))

abbrev pub on_tasks : Size → (List Task → List ℕ → Plan (List Task)) → Row
on_tasks z p = row z task (λ L s r. plan_in (with_tasks s) (p s.tasks r))

-- "start: request 8, program 4, terminal 4, interval 4, rest data"
abbrev pub asked : List ℕ → Asked
asked r = record { name = operand 0 8 r; program = operand 8 4 r; terminal = operand 12 4 r; interval = operand 16 4 r; bytes = rest 20 r }

abbrev pub finish : State → ℕ → Plan State
finish s n = plan [] (done (without_task s n) 0)

-- the 17 commands by their numbers, from 1
abbrev pub table : List Row
table =
    -- 1 define program: 4 (sys)
    on_interval (exactly 4) sys (λ L i r. define_program L i (operand 0 4 r))
    -- 2 define terminal: 4 (sys)
    ∷ on_interval (exactly 4) sys (λ L i r. define_terminal L i (operand 0 4 r))
    -- 3 advance: ticks 4 (sys)
    ∷ on_interval (exactly 4) sys (λ L i r. advance L i (operand 0 4 r))
    -- 4 ask ticks
    ∷ on_interval (exactly 0) anyone (λ L i r. ask_ticks i)
    -- 5 dispatch (sys)
    ∷ on_interval (exactly 0) sys (λ L i r. dispatch i)
    -- 6 start: request 8, program 4, terminal 4, interval 4, rest data
    ∷ on_interval (at_least 20) anyone (λ L i r. start L i (asked r))
    -- 7 cancel: request 8
    ∷ on_interval (exactly 8) anyone (λ L i r. cancel i (operand 0 8 r))
    -- 8 retrieve: room 1 (task)
    ∷ on_interval (exactly 1) task (λ L i r. retrieve i (issuer r) (operand 0 1 r))
    -- 9 finish (task)
    ∷ row (exactly 0) task (λ L s r. finish s (issuer r))
    -- 10 append: queue 8, rest item
    ∷ on_queues (at_least 8) (λ L l r. append L L.slots l (operand 0 8 r) (rest 8 r))
    -- 11 read next: queue 8, room 1
    ∷ on_queues (exactly 9) (λ L l r. read_next l (operand 0 8 r) (operand 8 1 r))
    -- 12 read at: queue 8, place 2, room 1
    ∷ on_queues (exactly 11) (λ L l r. read_at l (operand 0 8 r) (operand 8 2 r) (operand 10 1 r))
    -- 13 rewrite: queue 8, place 2, rest item
    ∷ on_queues (at_least 10) (λ L l r. rewrite L l (operand 0 8 r) (operand 8 2 r) (rest 10 r))
    -- 14 delete queue: 8
    ∷ on_queues (exactly 8) (λ L l r. delete l (operand 0 8 r))
    -- 15 handle: condition 1, label 2 (task)
    ∷ on_tasks (exactly 3) (λ l r. handle l (issuer r) (operand 0 1 r) (operand 1 2 r))
    -- 16 ignore: condition 1 (task)
    ∷ on_tasks (exactly 1) (λ l r. ignore l (issuer r) (operand 0 1 r))
    -- 17 reset: condition 1 (task)
    ∷ on_tasks (exactly 1) (λ l r. reset l (issuer r) (operand 0 1 r))
    ∷ []

-- "command not 1..17": no operands fit
abbrev pub no_row : Row
no_row = row never anyone (λ L s r. plan [] (done s 0))

abbrev pub row_of : ℕ → Row
row_of zero = no_row
row_of (suc k) = get_or table k no_row

-- ---- one record

-- "33 malformed (command not 1..17, or operands not of the size below)"; "A record of fewer than 9 bytes is malformed"
unfoldable pub formed : List ℕ → Bool
formed r = leb 9 (length r) && fits (row_of (command r)).size (length r - 9)

-- "34 issuer neither blank nor an active task"
unfoldable pub allowed : State → List ℕ → Bool
allowed s r = eqb (issuer r) (blank 8) || active_task s.interval (issuer r)

-- the row's plan, the kind of its issuer looked at first
abbrev pub plan_of : Row → Limits → State → List ℕ → Plan State
plan_of w L s r = plan (check (wrong_kind w.who (issuer r)) invalid_request ∷ (w.plans L s r).checks) (w.plans L s r).effect

abbrev pub obey_plan : State → Plan State → Outcome State
obey_plan s p = obey s (first_of p.checks) p.effect

unfoldable pub obeyed : Limits → State → List ℕ → Outcome State
obeyed L s r = obey_plan s (plan_of (row_of (command r)) L s r)

-- "condition, action (0 go on, 1 go to label, 2 abend), 2-byte label (0 unless action 1), 4-byte number, 0..64 bytes"
pub record Answer : Type 0 where
  pub condition : ℕ
  pub action : ℕ
  pub label : ℕ
  pub number : ℕ
  pub bytes : List ℕ

pub record Turn : Type 0 where
  pub answer : Answer
  pub state : State

-- "The action alters neither number nor bytes."
abbrev pub says : Outcome State → ℕ → ℕ → Answer
says o action label = record { condition = o.condition; action = action; label = label; number = o.number; bytes = o.bytes }

-- "Handling and ignoring change no other table. .. Abend removes the task as finish does, besides anything the command itself did."
abbrev pub settled : Outcome State → ℕ → Setting → Turn
settled o n Unset = record { answer = says o 2 0; state = without_task o.state n }
settled o n Ignore = record { answer = says o 0 0; state = o.state }
settled o n (Label l) = record { answer = says o 1 l; state = o.state }

-- "When condition c of 1..10 arises for a task: setting c decides .. For the system the action is always 0."
abbrev pub settle : State → ℕ → Outcome State → Turn
settle s n o =
    pick (eqb o.condition normal || eqb n (blank 8))
    (settled o n Ignore)
    (settled o n (decides s.tasks n o.condition))

-- 32, 33 and 34 "pass by the handlers, have action 0, number 0 and no bytes, and change nothing"
abbrev pub plain : ℕ → Answer
plain c = record { condition = c; action = 0; label = 0; number = 0; bytes = [] }

abbrev pub refused : State → ℕ → Turn
refused s c = record { answer = plain c; state = s }

-- one record, from sound tables
unfoldable pub step : Limits → State → List ℕ → Turn
step L s r = pick (formed r) (pick (allowed s r) (settle s (issuer r) (obeyed L s r)) (refused s 34)) (refused s 33)

-- one record, from any tables: "These three are tried in that order"
unfoldable pub step_any : Limits → State → List ℕ → Turn
step_any L s r = pick (sound L s) (step L s r) (refused s 32)
