-- The operations one after the other, any number of them: what each comes to by its exact definition, and what it comes to in the model.
-- Laws/Runs.antt shows that these are the same. Assumes nothing.
use Rattle.std.specs.Prelude.{ℕ, ◌+◌, ◌%◌, ◌^◌, Bool, true, false, ◌&&◌, List, [], ◌∷◌, nat_lt}
use Rattle.base.specs.Choice.{pick}
use Rattle.base.specs.Bytes.{is_bytes}
use Rattle.model.specs.Limits.{cabinet}
use Rattle.model.specs.Plans.{Outcome, Plan, first_of, obey, done}
use Rattle.model.specs.Interval as model
use Rattle.interval.specs.declared.Requests.{Requests}
use Rattle.interval.specs.declared.answers.Dispatched.{Dispatched}
use Rattle.interval.specs.Answers.{Advanced, Defined, Started, Cancelled, Retrieved}
use Rattle.interval.specs.Advance.{advance_of, condition_of, number_of}
use Rattle.interval.specs.Cancel.{cancel_in, cancel_gives}
use Rattle.interval.specs.Define.{define_program, define_terminal, define_gives}
use Rattle.interval.specs.Dispatch.{dispatch_in, dispatch_gives, dispatch_bytes}
use Rattle.interval.specs.Remove.{remove_in}
use Rattle.interval.specs.Retrieve.{retrieve_in, retrieve_gives, retrieve_number, retrieve_bytes}
use Rattle.interval.specs.Start.{start_in, start_gives}

-- what can be asked of interval control
pub data Ask : Type 0 where
  Program : ℕ → Ask
  Terminal : ℕ → Ask
  Advance : ℕ → Ask
  AskTicks : Ask
  Dispatch : Ask
  Start : model.Asked → Ask
  Cancel : ℕ → Ask
  -- the task, and its room
  Retrieve : ℕ → ℕ → Ask
  Remove : ℕ → Ask

abbrev pub wide_names : model.Asked → Bool
wide_names a = nat_lt a.name (2 ^ 64) && nat_lt a.program (2 ^ 32) && nat_lt a.terminal (2 ^ 32)

-- as wide as the code's types: names of 4 and of 8 bytes, numbers of 4, room of 8, and bytes
abbrev pub in_range : Ask → Bool
in_range (Program n) = nat_lt n (2 ^ 32)
in_range (Terminal n) = nat_lt n (2 ^ 32)
in_range (Advance n) = nat_lt n (2 ^ 32)
in_range AskTicks = true
in_range Dispatch = true
in_range (Start a) = wide_names a && nat_lt a.interval (2 ^ 32) && is_bytes a.bytes
in_range (Cancel n) = nat_lt n (2 ^ 64)
in_range (Retrieve n room) = nat_lt n (2 ^ 64) && nat_lt room (2 ^ 64)
in_range (Remove n) = nat_lt n (2 ^ 64)

-- ---- by the exact definitions

abbrev pub defined_of : Defined → Outcome Requests
defined_of r = record { condition = define_gives r.outcome; number = 0; bytes = []; state = r.requests }

abbrev pub advanced_of : Advanced → Outcome Requests
advanced_of r = record { condition = condition_of r.outcome; number = number_of r.outcome; bytes = []; state = r.requests }

abbrev pub dispatched_of : Dispatched → Outcome Requests
dispatched_of r = record { condition = dispatch_gives r.started; number = r.passed; bytes = dispatch_bytes r.started; state = r.requests }

abbrev pub started_of : Started → Outcome Requests
started_of r = record { condition = start_gives r.outcome; number = 0; bytes = []; state = r.requests }

abbrev pub cancelled_of : Cancelled → Outcome Requests
cancelled_of r = record { condition = cancel_gives r.outcome; number = 0; bytes = []; state = r.requests }

abbrev pub retrieved_of : Retrieved → Outcome Requests
retrieved_of r = record { condition = retrieve_gives r.outcome; number = retrieve_number r.outcome; bytes = retrieve_bytes r.outcome; state = r.requests }

abbrev pub turn : Requests → Ask → Outcome Requests
turn t (Program n) = defined_of (define_program t n)
turn t (Terminal n) = defined_of (define_terminal t n)
turn t (Advance n) = advanced_of (advance_of t n)
turn t AskTicks = done t t.register
turn t Dispatch = dispatched_of (dispatch_in t)
turn t (Start a) = started_of (start_in t a)
turn t (Cancel n) = cancelled_of (cancel_in t n)
turn t (Retrieve n room) = retrieved_of (retrieve_in t n room)
turn t (Remove n) = done (remove_in t n) 0

-- ---- in the model

abbrev obeyed : model.Interval → Plan model.Interval → Outcome model.Interval
obeyed i p = obey i (first_of p.checks) p.effect

-- a removal is part of another command, and has no condition of its own
abbrev pub model_turn : model.Interval → Ask → Outcome model.Interval
model_turn i (Program n) = obeyed i (model.define_program cabinet i n)
model_turn i (Terminal n) = obeyed i (model.define_terminal cabinet i n)
model_turn i (Advance n) = obeyed i (model.advance cabinet i n)
model_turn i AskTicks = obeyed i (model.ask_ticks i)
model_turn i Dispatch = obeyed i (model.dispatch i)
model_turn i (Start a) = obeyed i (model.start cabinet i a)
model_turn i (Cancel n) = obeyed i (model.cancel i n)
model_turn i (Retrieve n room) = obeyed i (model.retrieve i n room)
model_turn i (Remove n) = done (model.remove i n) 0

-- ---- one after the other

-- what is heard of an outcome
pub record Said : Type 0 where
  pub condition : ℕ
  pub number : ℕ
  pub bytes : List ℕ

abbrev pub said : {S : Type 0} → Outcome S → Said
said o = record { condition = o.condition; number = o.number; bytes = o.bytes }

unfoldable pub outcomes : Requests → List Ask → List Said
outcomes t [] = []
outcomes t (a ∷ l) = said (turn t a) ∷ outcomes (turn t a).state l

-- the tables at the end
unfoldable pub tables : Requests → List Ask → Requests
tables t [] = t
tables t (a ∷ l) = tables (turn t a).state l

unfoldable pub model_outcomes : model.Interval → List Ask → List Said
model_outcomes i [] = []
model_outcomes i (a ∷ l) = said (model_turn i a) ∷ model_outcomes (model_turn i a).state l

unfoldable pub model_after : model.Interval → List Ask → model.Interval
model_after i [] = i
model_after i (a ∷ l) = model_after (model_turn i a).state l

-- ---- from another register value: the ticks that are asked for move on by d on the register's circle, and all else is the same

abbrev pub asks_ticks : Ask → Bool
asks_ticks (Program n) = false
asks_ticks (Terminal n) = false
asks_ticks (Advance n) = false
asks_ticks AskTicks = true
asks_ticks Dispatch = false
asks_ticks (Start a) = false
asks_ticks (Cancel n) = false
asks_ticks (Retrieve n room) = false
asks_ticks (Remove n) = false

abbrev pub retick : ℕ → Ask → Said → Said
retick d a x = pick (asks_ticks a) (record { condition = x.condition; number = (x.number + d) % 2 ^ 32; bytes = x.bytes }) x

abbrev pub reticked : ℕ → List Ask → List Said → List Said
reticked d [] l = l
reticked d (a ∷ m) [] = []
reticked d (a ∷ m) (x ∷ l) = retick d a x ∷ reticked d m l
