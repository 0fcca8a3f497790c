-- The operations one after the other, any number of them: what each comes to by its exact definition, and what it comes to in the model. Laws/Runs.antt
-- shows that the same is heard (`runs_fresh`), Laws/Moved.antt that two register values are heard alike but for the ticks (`moved`). Assumes nothing.
use Rattle.std.specs.Prelude.{ℕ, ◌+◌, ◌%◌, ◌^◌, Bool, true, false, ◌&&◌, List, [], ◌∷◌, ltb, Option, Some, None}
use Rattle.base.specs.Choice.{pick}
use Rattle.base.specs.Bytes.{is_bytes}
use Rattle.model.specs.Limits.{Limits}
use Rattle.model.specs.Plans.{Outcome, Plan, fault, done, first_of, obey, outcome_in}
use Rattle.model.specs.Interval as model
use Rattle.names.specs.Names.{define_in}
use Rattle.request_rows.specs.Active.{task_in}
use Rattle.request_rows.specs.Advance.{advance_in, ask_in}
use Rattle.request_rows.specs.Cancel.{cancel_in}
use Rattle.request_rows.specs.Dispatch.{dispatch_in}
use Rattle.request_rows.specs.Remove.{remove_in}
use Rattle.request_rows.specs.Retrieve.{retrieve_at}
use Rattle.request_rows.specs.Stands.{Memory, with_programs, with_terminals, with_requests, with_kept}
use Rattle.request_rows.specs.Start.{start_in}
use Rattle.request_rows.specs.Typed.{word}

-- what can be asked of interval control
pub data Ask : Type 0 where
  Program : ℕ → Ask
  Terminal : ℕ → Ask
  Advance : ℕ → Ask
  AskTicks : Ask
  Dispatch : Ask
  Start : model.Asked → Ask
  Cancel : ℕ → Ask
  -- the task, and its room
  Retrieve : ℕ → ℕ → Ask
  Remove : ℕ → Ask

abbrev pub half : ℕ → Bool
half n = ltb n (2 ^ 32)

-- as wide as the code's types: names of 4 and of 8 bytes, numbers of 4, room of 8, and bytes
abbrev pub in_range : Ask → Bool
in_range (Program n) = half n
in_range (Terminal n) = half n
in_range (Advance n) = half n
in_range AskTicks = true
in_range Dispatch = true
in_range (Start a) = word a.name && half a.program && half a.terminal && half a.interval && is_bytes a.bytes
in_range (Cancel n) = word n
in_range (Retrieve n room) = word n && word room
in_range (Remove n) = word n

-- ---- by the exact definitions

-- "34 issuer neither blank nor an active task .. number 0 and no bytes, and change nothing": what one hears who retrieves and is no task
abbrev pub unknown_issuer : ℕ
unknown_issuer = 34

-- a task retrieves from its row
abbrev pub retrieved : Memory → ℕ → Option ℕ → Outcome Memory
retrieved m room (Some i) = outcome_in (with_requests m) (retrieve_at m.requests m.area i room)
retrieved m room None = fault m unknown_issuer

abbrev pub turn : Memory → Ask → Outcome Memory
turn m (Program n) = outcome_in (with_programs m) (define_in m.programs n)
turn m (Terminal n) = outcome_in (with_terminals m) (define_in m.terminals n)
turn m (Advance n) = outcome_in (with_requests m) (advance_in m.requests n)
turn m AskTicks = outcome_in (with_requests m) (ask_in m.requests)
turn m Dispatch = outcome_in (with_requests m) (dispatch_in m.requests)
turn m (Start a) = outcome_in (with_kept m) (start_in m.programs m.terminals m.requests m.area a)
turn m (Cancel n) = outcome_in (with_requests m) (cancel_in m.requests n)
turn m (Retrieve n room) = retrieved m room (task_in m.requests n)
turn m (Remove n) = done (with_requests m (remove_in m.requests n)) 0

-- ---- in the model

abbrev pub obeyed : model.Interval → Plan model.Interval → Outcome model.Interval
obeyed i p = obey i (first_of p.checks) p.effect

-- a removal is part of another command, and has no condition of its own
abbrev pub model_turn : Limits → model.Interval → Ask → Outcome model.Interval
model_turn L i (Program n) = obeyed i (model.define_program L i n)
model_turn L i (Terminal n) = obeyed i (model.define_terminal L i n)
model_turn L i (Advance n) = obeyed i (model.advance L i n)
model_turn L i AskTicks = obeyed i (model.ask_ticks i)
model_turn L i Dispatch = obeyed i (model.dispatch i)
model_turn L i (Start a) = obeyed i (model.start L i a)
model_turn L i (Cancel n) = obeyed i (model.cancel i n)
model_turn L i (Retrieve n room) = pick (model.active_task i n) (obeyed i (model.retrieve i n room)) (fault i unknown_issuer)
model_turn L i (Remove n) = done (model.remove i n) 0

-- ---- one after the other

-- what is heard of an outcome
pub record Heard : Type 0 where
  pub condition : ℕ
  pub number : ℕ
  pub bytes : List ℕ

abbrev pub heard : {S : Type 0} → Outcome S → Heard
heard o = record { condition = o.condition; number = o.number; bytes = o.bytes }

unfoldable pub outcomes : Memory → List Ask → List Heard
outcomes m [] = []
outcomes m (a ∷ l) = heard (turn m a) ∷ outcomes (turn m a).state l

-- the memory at the end
unfoldable pub left : Memory → List Ask → Memory
left m [] = m
left m (a ∷ l) = left (turn m a).state l

unfoldable pub model_outcomes : Limits → model.Interval → List Ask → List Heard
model_outcomes L i [] = []
model_outcomes L i (a ∷ l) = heard (model_turn L i a) ∷ model_outcomes L (model_turn L i a).state l

unfoldable pub model_left : Limits → model.Interval → List Ask → model.Interval
model_left L i [] = i
model_left L i (a ∷ l) = model_left L (model_turn L i a).state l

-- ---- from another register value: the ticks that are asked for move on by d on the register's circle, and all else is the same

abbrev pub asks_ticks : Ask → Bool
asks_ticks (Program n) = false
asks_ticks (Terminal n) = false
asks_ticks (Advance n) = false
asks_ticks AskTicks = true
asks_ticks Dispatch = false
asks_ticks (Start a) = false
asks_ticks (Cancel n) = false
asks_ticks (Retrieve n room) = false
asks_ticks (Remove n) = false

abbrev pub retick : ℕ → Ask → Heard → Heard
retick d a x = pick (asks_ticks a) (record { condition = x.condition; number = (x.number + d) % 2 ^ 32; bytes = x.bytes }) x

abbrev pub reticked : ℕ → List Ask → List Heard → List Heard
reticked d [] l = l
reticked d (a ∷ m) [] = []
reticked d (a ∷ m) (x ∷ l) = retick d a x ∷ reticked d m l
