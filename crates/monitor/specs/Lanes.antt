-- One record by lanes: the part of the tables that it is for is asked, and no other; then the handlers. Laws/Lanes.antt shows that this is `step_on`.
use Rattle.std.specs.Prelude.{ℕ, Bool, true, false, List, Result, Ok, Err, eqb}
use Rattle.base.specs.Choice.{pick}
use Rattle.base.specs.Bytes.{blank}
use Rattle.model.specs.Plans.{normal, Outcome, fault, done, outcome_in}
use Rattle.model.specs.Commands.{command, wrong_kind, row_of, formed}
use Rattle.model.specs.Demands.{Stepped}
use Rattle.interval.specs.Runs as interval
use Rattle.queues.specs.Runs as queues
use Rattle.handlers.specs.Decide.{decide_in}
use Rattle.handlers.specs.declared.Setting.{Setting}
use Rattle.handlers.specs.declared.Setting.TheVariants.{Unset, Ignore, Label}
use Rattle.monitor.specs.declared.Tables.{Tables}
use Rattle.records.specs.Rows.{part_of}
use Rattle.records.specs.declared.Part.{Part}
use Rattle.records.specs.declared.Part.TheVariants.{Interval, Finish, Queues, Settings}
use Rattle.frames.specs.Action.{code_of, label_of}
use Rattle.frames.specs.declared.action.Action.{Action}
use Rattle.frames.specs.declared.action.Action.TheVariants.{GoOn, GoTo, Abend}
use Rattle.monitor.specs.declared.lanes.Refusal.{Refusal}
use Rattle.monitor.specs.declared.lanes.Refusal.TheVariants.{Malformed, Stranger, Wrong}
use Rattle.monitor.specs.declared.lanes.Verdict.{Verdict}
use Rattle.monitor.specs.Requests.{ask_of}
use Rattle.monitor.specs.Settings.{setting_turn}
use Rattle.monitor.specs.Store.{store_ask}
use Rattle.monitor.specs.Table.{with_requests, with_tasks, store_of, with_store, without_task}
use Rattle.monitor.specs.Step.{stepped}

-- ---- the lane

-- the part that a record is for, or why it is for none
abbrev pub Lane : Type 0
Lane = Result Part Refusal

-- of a record from an issuer who may send one, or may not
unfoldable pub lane_of : Bool → ℕ → List ℕ → Lane
lane_of may n r = pick (formed r) (pick may (pick (wrong_kind (row_of (command r)).who n) (Err Wrong) (Ok (part_of (command r)))) (Err Stranger)) (Err Malformed)

-- the part that is asked
abbrev pub for_requests : Lane → Bool
for_requests (Err Malformed) = false
for_requests (Err Stranger) = false
for_requests (Err Wrong) = false
for_requests (Ok Interval) = true
for_requests (Ok Finish) = false
for_requests (Ok Queues) = false
for_requests (Ok Settings) = false

abbrev pub for_store : Lane → Bool
for_store (Err Malformed) = false
for_store (Err Stranger) = false
for_store (Err Wrong) = false
for_store (Ok Interval) = false
for_store (Ok Finish) = false
for_store (Ok Queues) = true
for_store (Ok Settings) = false

abbrev pub for_settings : Lane → Bool
for_settings (Err Malformed) = false
for_settings (Err Stranger) = false
for_settings (Err Wrong) = false
for_settings (Ok Interval) = false
for_settings (Ok Finish) = false
for_settings (Ok Queues) = false
for_settings (Ok Settings) = true

-- the condition where no part is asked
abbrev pub word_of : Lane → ℕ
word_of (Err Malformed) = 33
word_of (Err Stranger) = 34
word_of (Err Wrong) = 10
word_of (Ok Interval) = 0
word_of (Ok Finish) = 0
word_of (Ok Queues) = 0
word_of (Ok Settings) = 0

-- what the part that is asked comes to; a task that finishes is removed after it
abbrev pub laned : Lane → Tables → List ℕ → Outcome Tables
laned (Err Malformed) t r = fault t 33
laned (Err Stranger) t r = fault t 34
laned (Err Wrong) t r = fault t 10
laned (Ok Interval) t r = outcome_in (with_requests t) (interval.turn t.parts.requests (ask_of (command r) r))
laned (Ok Finish) t r = done t 0
laned (Ok Queues) t r = outcome_in (with_store t) (queues.turn (store_of t) (store_ask (command r) r))
laned (Ok Settings) t r = outcome_in (with_tasks t) (setting_turn t.parts.tasks (command r) r)

-- ---- the handlers

-- 33 and 34 are no conditions of a task
abbrev pub heard_in : Lane → Bool
heard_in (Err Malformed) = false
heard_in (Err Stranger) = false
heard_in (Err Wrong) = true
heard_in (Ok Interval) = true
heard_in (Ok Finish) = true
heard_in (Ok Queues) = true
heard_in (Ok Settings) = true

-- whether the handlers decide at all
abbrev pub decides_in : Lane → ℕ → ℕ → Bool
decides_in l c n = pick (eqb c normal) false (pick (eqb n (blank 8)) false (heard_in l))

-- what decides: to ignore, where nothing does
abbrev pub setting_for : Lane → ℕ → Outcome Tables → Setting
setting_for l n o = pick (decides_in l o.condition n) (decide_in o.state.parts.tasks n o.condition) Ignore

abbrev pub finishes_in : Lane → Bool
finishes_in (Err Malformed) = false
finishes_in (Err Stranger) = false
finishes_in (Err Wrong) = false
finishes_in (Ok Interval) = false
finishes_in (Ok Finish) = true
finishes_in (Ok Queues) = false
finishes_in (Ok Settings) = false

abbrev pub verdict : Action → Bool → Verdict
verdict action ends = record { action = action; ends = ends }

abbrev pub action_of : Setting → Action
action_of Unset = Abend
action_of Ignore = GoOn
action_of (Label n) = GoTo n

-- "Finish removes the task"; "Abend removes the task as finish does"
abbrev pub verdict_of : Lane → Setting → Verdict
verdict_of l Unset = verdict Abend true
verdict_of l Ignore = verdict GoOn (finishes_in l)
verdict_of l (Label n) = verdict (GoTo n) (finishes_in l)

-- ---- one record

abbrev pub judged : ℕ → Outcome Tables → Verdict → Stepped Tables
judged n o v = stepped o (code_of v.action) (label_of v.action) (pick v.ends (without_task o.state n) o.state)

unfoldable pub lane_step : Lane → ℕ → Tables → List ℕ → Stepped Tables
lane_step l n t r = judged n (laned l t r) (verdict_of l (setting_for l n (laned l t r)))
