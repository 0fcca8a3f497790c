-- Interval control (document 01, "Interval rules"; 000, "CICS interval control").
use Rattle.std.specs.Prelude.{ℕ, suc, zero, ◌+◌, ◌%◌, ◌^◌, Bool, true, false, not, ◌&&◌, ◌||◌, List, [], ◌∷◌, ◌++◌, map, length, leb, ltb, eqb}
use Rattle.base.specs.Choice.{pick}
use Rattle.base.specs.Lists.{keep, any, all, first, first_at, has, once}
use Rattle.base.specs.Sort.{sort}
use Rattle.base.specs.Bytes.{bytes_of, blank, is_name}
use Rattle.model.specs.Limits.{Limits, is_data, some}
use Rattle.model.specs.Plans.{normal, no_space, wrong_length, unknown_program, unknown_terminal, not_unique, not_found, end_of_data, invalid_request, check, Outcome, Plan, done, cut, plan}

-- "Each request is in one phase: waiting with its due tick, expired, or active (data taken or not)."
pub data Phase : Type 0 where
  Waiting : ℕ → Phase
  Expired : Phase
  Active : Bool → Phase

-- (Transaction)
pub record Request : Type 0 where
  pub name : ℕ
  pub program : ℕ
  pub terminal : ℕ
  pub phase : Phase
  pub bytes : List ℕ

-- The clock is a whole number that never wraps. Of the requests, the order of the waiting is the order of acceptance,
-- and the order of the expired is the line. (TR, ΔTime)
pub record Interval : Type 0 where
  pub clock : ℕ
  pub programs : List ℕ
  pub terminals : List ℕ
  pub requests : List Request

abbrev pub idle_at : ℕ → Interval
idle_at c = record { clock = c; programs = []; terminals = []; requests = [] }

abbrev pub with_programs : Interval → List ℕ → Interval
with_programs i l = record { clock = i.clock; programs = l; terminals = i.terminals; requests = i.requests }

abbrev pub with_terminals : Interval → List ℕ → Interval
with_terminals i l = record { clock = i.clock; programs = i.programs; terminals = l; requests = i.requests }

abbrev pub with_requests : Interval → List Request → Interval
with_requests i l = record { clock = i.clock; programs = i.programs; terminals = i.terminals; requests = l }

abbrev pub with_clock : Interval → ℕ → Interval
with_clock i c = record { clock = c; programs = i.programs; terminals = i.terminals; requests = i.requests }

abbrev pub in_phase : Phase → Request → Request
in_phase p q = record { name = q.name; program = q.program; terminal = q.terminal; phase = p; bytes = q.bytes }

-- ---- phases

abbrev pub is_expired : Phase → Bool
is_expired (Waiting d) = false
is_expired Expired = true
is_expired (Active t) = false

abbrev pub is_active : Phase → Bool
is_active (Waiting d) = false
is_active Expired = false
is_active (Active t) = true

abbrev pub not_taken : Phase → Bool
not_taken (Waiting d) = false
not_taken Expired = false
not_taken (Active t) = not t

-- "A request is expired as soon as due is at most the clock"
abbrev pub is_due : ℕ → Phase → Bool
is_due c (Waiting d) = leb d c
is_due c Expired = false
is_due c (Active t) = false

-- no later due tick; only the waiting have one
abbrev pub no_later : Phase → Phase → Bool
no_later (Waiting d) (Waiting e) = leb d e
no_later (Waiting d) Expired = true
no_later (Waiting d) (Active t) = true
no_later Expired p = true
no_later (Active t) p = true

-- ---- requests by their names

abbrev pub expired : Request → Bool
expired q = is_expired q.phase

abbrev pub active : Request → Bool
active q = is_active q.phase

abbrev pub no_request : Request
no_request = record { name = 0; program = 0; terminal = 0; phase = Expired; bytes = [] }

abbrev pub known_request : List Request → ℕ → Bool
known_request l n = any (λ (q : Request). eqb q.name n) l

abbrev pub request_of : List Request → ℕ → Request
request_of l n = first (λ (q : Request). eqb q.name n) no_request l

-- "An active task is named by the request that started it."
abbrev pub active_task : Interval → ℕ → Bool
active_task i n = any (λ (q : Request). active q && eqb q.name n) i.requests

abbrev pub at_request : ℕ → (Request → Request) → List Request → List Request
at_request n f l = map (λ (q : Request). pick (eqb q.name n) (f q) q) l

abbrev pub drop_request : ℕ → List Request → List Request
drop_request n l = keep (λ (q : Request). not (eqb q.name n)) l

-- the request goes, and its data with it (Deactivate_TR, DeleteReqId)
abbrev pub remove : Interval → ℕ → Interval
remove i n = with_requests i (drop_request n i.requests)

-- ---- 1 define program, 2 define terminal

-- a new name behind the known ones, of which there are `most` at most
abbrev pub define : ℕ → List ℕ → ℕ → (List ℕ → Interval) → Plan Interval
define most known n put =
    plan (check (eqb n (blank 4)) invalid_request
    ∷ check (has n known) not_unique
    ∷ check (leb most (length known)) no_space
    ∷ [])
    (done (put (known ++ (n ∷ []))) 0)

unfoldable pub define_program : Limits → Interval → ℕ → Plan Interval
define_program L i n = define L.programs i.programs n (with_programs i)

unfoldable pub define_terminal : Limits → Interval → ℕ → Plan Interval
define_terminal L i n = define L.terminals i.terminals n (with_terminals i)

-- ---- 3 advance, 4 ask ticks

-- "newly expired"
abbrev pub newly : ℕ → List Request → List Request
newly c l = keep (λ (q : Request). is_due c q.phase) l

-- "The expired line is ordered by due, then by order of acceptance, and stays in that order however long it waits."
abbrev pub lapse : ℕ → List Request → List Request
lapse c l =
    keep (λ (q : Request). not (is_due c q.phase)) l
    ++ map (in_phase Expired) (sort (λ (q p : Request). no_later q.phase p.phase) (newly c l))

unfoldable pub advance : Limits → Interval → ℕ → Plan Interval
advance L i ticks =
    plan (check (ltb L.advance ticks) invalid_request ∷ [])
    (done (with_clock (with_requests i (lapse (i.clock + ticks) i.requests)) (i.clock + ticks)) (length (newly (i.clock + ticks) i.requests)))

-- "the number of an ask .. is that clock modulo 2^32" (AskTime)
unfoldable pub ask_ticks : Interval → Plan Interval
ask_ticks i = plan [] (done i (i.clock % 2 ^ 32))

-- ---- 5 dispatch

abbrev pub line : Interval → List Request
line i = keep expired i.requests

-- "whose terminal is none or not held by an active task, and whose program has no active task" (Activate_TR)
abbrev pub startable : Interval → Request → Bool
startable i q =
    (eqb q.terminal (blank 4) || not (any (λ (a : Request). active a && eqb a.terminal q.terminal) i.requests))
    && not (any (λ (a : Request). active a && eqb a.program q.program) i.requests)

-- "Bytes: request, program, terminal. Number: how many in the line stood before it."
abbrev pub started : Interval → Request → ℕ → Outcome Interval
started i q passed = record {
  condition = normal;
  number = passed;
  bytes = bytes_of 8 q.name ++ bytes_of 4 q.program ++ bytes_of 4 q.terminal;
  state = with_requests i (at_request q.name (in_phase (Active false)) i.requests);
}

-- "condition 8 on dispatch, whose number is the length of the expired line"
abbrev pub none_startable : Interval → Outcome Interval
none_startable i = record { condition = not_found; number = length (line i); bytes = []; state = i }

-- "Dispatch takes the first in the line" that is startable
unfoldable pub dispatch : Interval → Plan Interval
dispatch i =
    plan []
    (pick (any (startable i) (line i))
    (started i (first (startable i) no_request (line i)) (first_at (startable i) (line i)))
    (none_startable i))

-- ---- 6 start, 7 cancel

-- "Due is clock plus interval. .. interval 0 expires at once."
abbrev pub begun : ℕ → ℕ → Phase
begun c zero = Expired
begun c (suc n) = Waiting (c + suc n)

-- what a start asks for; its phase is not yet reckoned
pub record Asked : Type 0 where
  pub name : ℕ
  pub program : ℕ
  pub terminal : ℕ
  pub interval : ℕ
  pub bytes : List ℕ

abbrev pub accepted : ℕ → Asked → Request
accepted c a = record { name = a.name; program = a.program; terminal = a.terminal; phase = begun c a.interval; bytes = a.bytes }

-- "a blank terminal means none"
abbrev pub none_or_known : ℕ → List ℕ → Bool
none_or_known n l = eqb n (blank 4) || has n l

-- (Start₀; TransIdErr!, TermIdErr!, NonUnique!)
unfoldable pub start : Limits → Interval → Asked → Plan Interval
start L i a =
    plan (check (eqb a.name (blank 8) || ltb L.interval a.interval) invalid_request
    ∷ check (ltb L.item (length a.bytes)) wrong_length
    ∷ check (not (has a.program i.programs)) unknown_program
    ∷ check (not (none_or_known a.terminal i.terminals)) unknown_terminal
    ∷ check (known_request i.requests a.name) not_unique
    ∷ check (leb L.requests (length i.requests)) no_space
    ∷ [])
    (done (with_requests i (i.requests ++ (accepted i.clock a ∷ []))) 0)

-- "Cancel removes a waiting or expired request. An active one gets 8." (CancelTR₀, NotFound!)
unfoldable pub cancel : Interval → ℕ → Plan Interval
cancel i n =
    plan (check (eqb n (blank 8)) invalid_request
    ∷ check (not (known_request i.requests n) || active_task i n) not_found
    ∷ [])
    (done (remove i n) 0)

-- ---- 8 retrieve

-- "the task's own data if it has some not yet taken"
abbrev pub has_own : Request → Bool
has_own q = not_taken q.phase && some q.bytes

-- "with the same program, the same terminal (none equals none) and some data", in the line
abbrev pub serves : Request → Request → Bool
serves t q = expired q && eqb q.program t.program && eqb q.terminal t.terminal && some q.bytes

abbrev pub server : Interval → Request → Request
server i t = first (serves t) no_request i.requests

abbrev pub took_own : Interval → ℕ → Interval
took_own i n = with_requests i (at_request n (in_phase (Active true)) i.requests)

-- "Retrieve gives the task's own data .. Otherwise the first in the line .. that request is removed.
-- A short room cuts as for queues, and the data counts as taken." (Retrieve₀, EndData!)
abbrev pub retrieval : Interval → ℕ → Request → ℕ → Plan Interval
retrieval i n t room =
    plan (check (not (has_own t || any (serves t) i.requests)) end_of_data ∷ [])
    (pick (has_own t)
    (cut (took_own i n) room t.bytes)
    (cut (remove i (server i t).name) room (server i t).bytes))

unfoldable pub retrieve : Interval → ℕ → ℕ → Plan Interval
retrieve i n room = retrieval i n (request_of i.requests n) room

-- ---- sound requests

-- "A waiting request has 1..359,999,000 ticks to go"; "data of 0 bytes is never marked taken"
abbrev pub sound_phase : Limits → ℕ → List ℕ → Phase → Bool
sound_phase L c b (Waiting d) = ltb c d && leb d (c + L.interval)
sound_phase L c b Expired = true
sound_phase L c b (Active t) = not t || some b

-- "every request names a known program and a known terminal or none"
abbrev pub sound_request : Limits → Interval → Request → Bool
sound_request L i q =
    is_name 8 q.name
    && has q.program i.programs
    && none_or_known q.terminal i.terminals
    && is_data L q.bytes
    && sound_phase L i.clock q.bytes q.phase

-- the programs, and the terminals other than none, of the active tasks
abbrev pub running : List Request → List ℕ
running l = map (λ (q : Request). q.program) (keep active l)

abbrev pub held : List Request → List ℕ
held l = map (λ (q : Request). q.terminal) (keep (λ (q : Request). active q && not (eqb q.terminal (blank 4))) l)

-- "the bounds hold; names are unique within their kind .. and not blank; .. no two active tasks share a program, or a terminal other than none"
unfoldable pub sound_interval : Limits → Interval → Bool
sound_interval L i =
    leb (length i.programs) L.programs && once i.programs && all (is_name 4) i.programs
    && leb (length i.terminals) L.terminals && once i.terminals && all (is_name 4) i.terminals
    && leb (length i.requests) L.requests && once (map (λ (q : Request). q.name) i.requests) && all (sound_request L i) i.requests
    && once (running i.requests) && once (held i.requests)
