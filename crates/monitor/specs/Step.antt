-- One record, for every value of the tables and every record: which part is asked, what the handlers decide, and the three conditions before.
use Rattle.std.specs.Prelude.{ℕ, Bool, ◌||◌, List, eqb, leb}
use Rattle.base.specs.Choice.{pick}
use Rattle.base.specs.Bytes.{blank}
use Rattle.model.specs.Plans.{normal, invalid_request, Outcome, fault, done, outcome_in}
use Rattle.model.specs.Commands as model
use Rattle.model.specs.Commands.{command, issuer, wrong_kind, row_of, formed}
use Rattle.model.specs.Demands.{Stepped}
use Rattle.interval.specs.Active.{active_in}
use Rattle.interval.specs.Runs as interval
use Rattle.queues.specs.Runs as queues
use Rattle.handlers.specs.Decide.{decide_in}
use Rattle.handlers.specs.declared.Setting.{Setting}
use Rattle.handlers.specs.declared.Setting.TheVariants.{Unset, Ignore, Label}
use Rattle.monitor.specs.declared.Parts.{Parts}
use Rattle.monitor.specs.declared.Tables.{Tables}
use Rattle.monitor.specs.declared.answers.Said.{Said}
use Rattle.monitor.specs.declared.obey.Obeyed.{Obeyed}
use Rattle.monitor.specs.declared.settle.Turned.{Turned}
use Rattle.monitor.specs.declared.step.Stepped as declared
use Rattle.monitor.specs.Answers.{said, answering, laid}
use Rattle.monitor.specs.Requests.{ask_of}
use Rattle.monitor.specs.Settings.{setting_turn}
use Rattle.monitor.specs.Store.{store_ask}
use Rattle.monitor.specs.Table.{tables, with_requests, with_tasks, store_of, with_store, without_in, without_task, sound_p}

-- ---- the command

-- by its number: each part is asked for the commands that are its own; 9, finish, is the monitor's
unfoldable pub deed : ℕ → Tables → List ℕ → Outcome Tables
deed n t r =
    pick (leb n 8) (outcome_in (with_requests t) (interval.turn t.parts.requests (ask_of n r)))
    (pick (eqb n 9) (done (without_task t (issuer r)) 0)
    (pick (leb n 14) (outcome_in (with_store t) (queues.turn (store_of t) (store_ask n r)))
    (outcome_in (with_tasks t) (setting_turn t.parts.tasks n r))))

-- "any other issuer gets 10, before every condition in the row"
unfoldable pub obeyed_in : Tables → List ℕ → Outcome Tables
obeyed_in t r = pick (wrong_kind (row_of (command r)).who (issuer r)) (fault t invalid_request) (deed (command r) t r)

-- ---- the handlers

abbrev pub stepped : Outcome Tables → ℕ → ℕ → Tables → Stepped Tables
stepped o action label t = record {
  answer = record { condition = o.condition; action = action; label = label; number = o.number; bytes = o.bytes };
  tables = t;
}

-- "Abend removes the task as finish does, besides anything the command itself did."
abbrev pub decided_in : Outcome Tables → ℕ → Setting → Stepped Tables
decided_in o n Unset = stepped o 2 0 (without_task o.state n)
decided_in o n Ignore = stepped o 0 0 o.state
decided_in o n (Label l) = stepped o 1 l o.state

-- "When condition c of 1..10 arises for a task: setting c decides .. For the system the action is always 0."
unfoldable pub settle_in : ℕ → Outcome Tables → Stepped Tables
settle_in n o =
    pick (eqb o.condition normal || eqb n (blank 8)) (decided_in o n Ignore) (decided_in o n (decide_in o.state.parts.tasks n o.condition))

-- ---- one record

-- 32, 33 and 34 "have action 0, number 0 and no bytes, and change nothing"
abbrev pub refused_in : Tables → ℕ → Stepped Tables
refused_in t c = record { answer = model.plain c; tables = t }

-- "34 issuer neither blank nor an active task"
abbrev pub allowed_in : Parts → List ℕ → Bool
allowed_in p r = eqb (issuer r) (blank 8) || active_in p.requests (issuer r)

-- from sound tables
unfoldable pub step_on : Tables → List ℕ → Stepped Tables
step_on t r = pick (formed r) (pick (allowed_in t.parts r) (settle_in (issuer r) (obeyed_in t r)) (refused_in t 34)) (refused_in t 33)

-- from any: "These three are tried in that order"
unfoldable pub step_in : Tables → List ℕ → Stepped Tables
step_in t r = pick (sound_p t.parts) (step_on t r) (refused_in t 32)

-- ---- as the code gives it

-- a reply without the bytes of the items, and these bytes as they are left
pub record Lent (A : Type 0) : Type 0 where
  pub reply : A
  pub items : List ℕ

abbrev pub lent : {A : Type 0} → A → List ℕ → Lent A
lent a b = record { reply = a; items = b }

abbrev pub obeys : Outcome Tables → Lent Obeyed
obeys o = lent (record { parts = o.state.parts; said = said o }) o.state.items

abbrev pub turned : Stepped Tables → Lent Turned
turned s = lent (record { parts = s.tables.parts; answer = laid s.answer }) s.tables.items

abbrev pub whole : Stepped Tables → declared.Stepped
whole s = record { tables = s.tables; answer = laid s.answer }

-- of `settle`, which the items do not concern
abbrev pub settled_as : Parts → Said → ℕ → ℕ → Turned
settled_as p s action label = record { parts = p; answer = answering s action label }

abbrev pub decided_as : Parts → Said → ℕ → Setting → Turned
decided_as p s n Unset = settled_as (without_in p n) s 2 0
decided_as p s n Ignore = settled_as p s 0 0
decided_as p s n (Label l) = settled_as p s 1 l

unfoldable pub settle_as : Obeyed → ℕ → Turned
settle_as o n =
    pick (eqb o.said.condition normal || eqb n (blank 8)) (decided_as o.parts o.said n Ignore)
    (decided_as o.parts o.said n (decide_in o.parts.tasks n o.said.condition))
