-- One record over lent tables, for all that they hold.
use Rattle.std.specs.Prelude.{ℕ, ◌||◌, List, eqb, ltb, length}
use Rattle.base.specs.Choice.{pick}
use Rattle.base.specs.Bytes.{blank}
use Rattle.base.specs.Lists.{over}
use Rattle.model.specs.Plans.{normal, invalid_request, Outcome, fault, done, outcome_in}
use Rattle.model.specs.Commands.{Who, plain, command, issuer, wrong_kind, row_of, formed}
use Rattle.model.specs.Demands.{Stepped}
use Rattle.model.specs.Lists.{encoded}
use Rattle.records.specs.Rows.{part_of}
use Rattle.records.specs.declared.Part.{Part}
use Rattle.records.specs.declared.Part.TheVariants as part
use Rattle.request_rows.specs.Table.{Requests}
use Rattle.std.specs.Prelude.{Option}
use Rattle.std.specs.Prelude.{Some, None}
use Rattle.request_rows.specs.Active.{task_in}
use Rattle.request_rows.specs.Remove.{remove_at, remove_in}
use Rattle.settings.specs.Decide.{decide_in}
use Rattle.settings.specs.Forget.{forget_in}
use Rattle.settings.specs.declared.Setting.{Setting}
use Rattle.settings.specs.declared.Setting.TheVariants.{Unset, Ignore, Label}
use Rattle.frames.specs.declared.action.Action.{Action}
use Rattle.frames.specs.declared.action.Action.TheVariants.{GoOn, GoTo, Abend}
use Rattle.frames.specs.Action.{code_of, label_of}
use Rattle.turn_rules.specs.Tables.{Tables, interval_in, with_interval, store_in, with_store, with_settings, Known, known, known_in, with_known}
use Rattle.turn_rules.specs.Ask.{ask_interval, ask_queues, ask_settings}

-- ---- who sends it

-- the row of an active task; a blank issuer is the system, which has none and needs none
unfoldable pub sender_in : Requests → ℕ → Option ℕ
sender_in w k = pick (eqb k (blank 8)) (Some 0) (task_in w k)

-- ---- the command

-- "Finish removes the task, its settings and its data.": of the task k in row i
unfoldable pub finish_in : Known → ℕ → ℕ → Outcome Known
finish_in v i k = done (known (remove_at v.requests i) (forget_in v.settings k)) 0

-- for issuer k, whose row is i
unfoldable pub deed : Part → ℕ → ℕ → Tables → List ℕ → Outcome Tables
deed part.Interval k i t r = outcome_in (with_interval t) (ask_interval (command r) i (interval_in t) r)
deed part.Finish k i t r = outcome_in (with_known t) (finish_in (known_in t) i k)
deed part.Queues k i t r = outcome_in (with_store t) (ask_queues (command r) (store_in t) r)
deed part.Settings k i t r = outcome_in (with_settings t) (ask_settings (command r) k t.settings r)

-- "any other issuer gets 10, before every condition in the row"
unfoldable pub obeyed_in : Who → Part → ℕ → ℕ → Tables → List ℕ → Outcome Tables
obeyed_in w p k i t r = pick (wrong_kind w k) (fault t invalid_request) (deed p k i t r)

-- ---- the handlers

pub record Settled : Type 0 where
  pub action : Action
  pub known : Known

abbrev pub settled : Action → Known → Settled
settled a w = record { action = a; known = w }

-- "Abend removes the task as finish does": the command may have moved its row, so it is found by its name
abbrev pub decided_as : Known → ℕ → Setting → Settled
decided_as v k Unset = settled Abend (known (remove_in v.requests k) (forget_in v.settings k))
decided_as v k Ignore = settled GoOn v
decided_as v k (Label l) = settled (GoTo l) v

-- "When condition c of 1..10 arises for a task: setting c decides .. For the system the action is always 0."
unfoldable pub settle_in : Known → ℕ → ℕ → Settled
settle_in v k c = pick (eqb c normal || eqb k (blank 8)) (settled GoOn v) (decided_as v k (decide_in v.settings k c))

-- ---- one record

abbrev pub judged : Outcome Tables → Settled → Stepped Tables
judged o v = record {
  answer = record { condition = o.condition; action = code_of v.action; label = label_of v.action; number = o.number; bytes = o.bytes };
  tables = with_known o.state v.known;
}

abbrev pub settled_of : ℕ → Outcome Tables → Stepped Tables
settled_of k o = judged o (settle_in (known_in o.state) k o.condition)

abbrev pub refused_in : Tables → ℕ → Stepped Tables
refused_in t c = record { answer = plain c; tables = t }

-- the row of the command is read once, and its columns are handed on
abbrev pub heard_as : Who → Part → ℕ → Tables → List ℕ → Option ℕ → Stepped Tables
heard_as w p k t r None = refused_in t 34
heard_as w p k t r (Some i) = settled_of k (obeyed_in w p k i t r)

unfoldable pub turn_of : Tables → List ℕ → Stepped Tables
turn_of t r =
    pick (formed r)
    (heard_as (row_of (command r)).who (part_of (command r)) (issuer r) t r (sender_in t.requests (issuer r)))
    (refused_in t 33)

-- ---- as the code leaves it: how many bytes, the tables, the buffer

pub record Left : Type 0 where
  pub count : ℕ
  pub tables : Tables
  pub buffer : List ℕ

abbrev pub left : ℕ → Tables → List ℕ → Left
left n t b = record { count = n; tables = t; buffer = b }

-- bytes at the front of the buffer
abbrev pub left_over : List ℕ → Tables → List ℕ → Left
left_over e t b = left (length e) t (over e b)

abbrev pub turned : Stepped Tables → List ℕ → Left
turned s b = left_over (encoded s.answer) s.tables b

-- "74 bytes per record" is room for any answer: with less no record is heard
unfoldable pub turned_in : Tables → List ℕ → List ℕ → Left
turned_in t r b = pick (ltb (length b) 74) (left 0 t b) (turned (turn_of t r) b)
