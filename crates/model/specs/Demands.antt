-- What the user demands, as predicates over any monitor and over any list entry.
use Rattle.std.specs.Prelude.{ℕ, ◌+◌, ◌*◌, ◌-◌, ◌%◌, ◌^◌, ◌<◌, ◌≤◌, ◌≡◌, ◌⊎◌, Bool, true, false, not, ◌&&◌, ◌||◌, List, [], ◌∷◌, length, leb, eqb}
use Rattle.base.specs.Choice.{pick}
use Rattle.base.specs.Lists.{all}
use Rattle.base.specs.Bytes.{is_bytes}
use Rattle.model.specs.Limits.{Limits}
use Rattle.model.specs.Plans.{normal, no_space, wrong_length}
use Rattle.model.specs.Queues.{queue_of, known_queue, items_in, at_queue, point_at, made}
use Rattle.model.specs.Interval.{request_of, server, took_own, remove}
use Rattle.model.specs.State.{State, empty_at, with_interval, with_queues, without_task, sound}
use Rattle.model.specs.Commands.{Answer, command, issuer, operand, formed, allowed, plain, step}
use Rattle.model.specs.Lists.{bad, good, framed, Ran, refusal, answered, answers_from}

pub record Stepped (T : Type 0) : Type 0 where
  pub answer : Answer
  pub tables : T

-- A monitor: its tables, fresh ones for a register value, a step by one record; which tables are sound, and for which states of the
-- model they stand.
pub record Monitor : Type 1 where
  pub Tables : Type 0
  pub fresh : ℕ → Tables
  pub step : Tables → List ℕ → Stepped Tables
  pub Sound : Tables → Type 0
  pub Stands : Tables → State → Type 0

-- ---- demand 1: every input has a reply; what is refused changes nothing; a condition changes only what the rules name for it

-- an answer that can be written: each field in its bytes, the label 0 unless the action is 1, a refusal with nothing else in it
pub record Proper (a : Answer) : Type 0 where
  pub condition : (a.condition ≤ 10) ⊎ ((32 ≤ a.condition) × (a.condition ≤ 34))
  pub action : a.action ≤ 2
  pub unlabelled : (a.action ≡ 1 → ⊥) → a.label ≡ 0
  pub label : a.label < 2 ^ 16
  pub number : a.number < 2 ^ 32
  pub size : length a.bytes ≤ 64
  pub bytes : is_bytes a.bytes ≡ true
  pub refusal : 11 ≤ a.condition → a ≡ plain a.condition

-- the place that a read gives
abbrev pub place_read : State → List ℕ → ℕ
place_read s r = pick (eqb (command r) 11) ((queue_of s.queues (operand 0 8 r)).pointer + 1) (operand 8 2 r)

-- what the rules name for condition c of record r: nothing, but that a full store makes the queue, a short room moves the pointer,
-- and a short room takes the data or removes the other request
pub data Named (s : State) (r : List ℕ) (c : ℕ) (m : State) : Type 0 where
  nothing : m ≡ s → Named s r c m
  makes : command r ≡ 10 → c ≡ no_space → m ≡ with_queues s (made s.queues (operand 0 8 r)) → Named s r c m
  moves : (command r ≡ 11) ⊎ (command r ≡ 12) → c ≡ wrong_length → m ≡ with_queues s (at_queue (operand 0 8 r) (point_at (place_read s r)) s.queues) → Named s r c m
  takes : command r ≡ 8 → c ≡ wrong_length → m ≡ with_interval s (took_own s.interval (issuer r)) → Named s r c m
  removes : command r ≡ 8 → c ≡ wrong_length → m ≡ with_interval s (remove s.interval (server s.interval (request_of s.interval.requests (issuer r))).name) → Named s r c m

-- and an abend removes the task besides
pub record Kept (s : State) (r : List ℕ) (a : Answer) (s' : State) : Type 0 where
  pub between : State
  pub named : Named s r a.condition between
  pub abend : s' ≡ pick (eqb a.action 2) (without_task between (issuer r)) between

-- a heard record: bytes, from sound tables that stand for s, well formed, from one who may send it
pub record Heard (M : Monitor) (t : M.Tables) (s : State) (r : List ℕ) : Type 0 where
  pub bytes : is_bytes r ≡ true
  pub soundly : M.Sound t
  pub stands : M.Stands t s
  pub formed : formed r ≡ true
  pub allowed : allowed s r ≡ true

pub record Demand1 (M : Monitor) : Type 0 where
  pub reply : (t : M.Tables) (r : List ℕ) → is_bytes r ≡ true → Proper (M.step t r).answer
  -- 32, 33, 34: each exactly where its rule says, and no table is changed
  pub unsound : (t : M.Tables) (r : List ℕ) → is_bytes r ≡ true → (M.Sound t → ⊥) → M.step t r ≡ record { answer = plain 32; tables = t }
  pub malformed : (t : M.Tables) (r : List ℕ) → is_bytes r ≡ true → M.Sound t → formed r ≡ false → M.step t r ≡ record { answer = plain 33; tables = t }
  pub stranger : (t : M.Tables) (s : State) (r : List ℕ) → is_bytes r ≡ true → M.Sound t → M.Stands t s → formed r ≡ true → allowed s r ≡ false → M.step t r ≡ record { answer = plain 34; tables = t }
  pub heard : (t : M.Tables) (s : State) (r : List ℕ) → Heard M t s r → (M.step t r).answer.condition ≤ 10
  pub kept : (t : M.Tables) (s : State) (r : List ℕ) → Heard M t s r → ((M.step t r).answer.condition ≡ normal → ⊥)
      → (s' : State) × (M.Stands (M.step t r).tables s' × Kept s r (M.step t r).answer s')

-- ---- demand 2: from sound tables each command does what the model does

-- is the table full that the record asks room of
abbrev pub full : Limits → State → List ℕ → Bool
full L s r =
    pick (eqb (command r) 1) (leb L.programs (length s.interval.programs))
    (pick (eqb (command r) 2) (leb L.terminals (length s.interval.terminals))
    (pick (eqb (command r) 6) (leb L.requests (length s.interval.requests))
    (pick (eqb (command r) 10) ((not (known_queue s.queues (operand 0 8 r)) && leb L.queues (length s.queues)) || leb L.slots (items_in s.queues))
    false)))

-- "Space is refused only when the table in question is full", and a full one takes nothing
pub record Space (L : Limits) (s : State) (r : List ℕ) (condition : ℕ) : Type 0 where
  pub only : condition ≡ no_space → full L s r ≡ true
  pub taken : full L s r ≡ true → condition ≡ normal → ⊥

-- the step is the model's, at each state for which the tables stand
pub record Stepping (L : Limits) (M : Monitor) (t : M.Tables) (s : State) (r : List ℕ) : Type 0 where
  pub answer : (M.step t r).answer ≡ (step L s r).answer
  pub state : M.Stands (M.step t r).tables (step L s r).state
  pub soundly : M.Sound (M.step t r).tables
  pub space : Space L s r (M.step t r).answer.condition

pub record Demand2 (L : Limits) (M : Monitor) : Type 0 where
  -- fresh tables are sound, and stand for the empty state at any clock that the register can mean
  pub begins : (v : ℕ) → v < 2 ^ 32 → M.Sound (M.fresh v)
  pub empty : (v c : ℕ) → v < 2 ^ 32 → c % 2 ^ 32 ≡ v → M.Stands (M.fresh v) (empty_at c)
  -- sound tables stand for a state, for one at each clock, and for sound ones only; each sound state is that of some sound tables
  pub some : (t : M.Tables) → M.Sound t → (s : State) × M.Stands t s
  pub one : (t : M.Tables) (s s' : State) → M.Sound t → M.Stands t s → M.Stands t s' → s.interval.clock ≡ s'.interval.clock → s ≡ s'
  pub only : (t : M.Tables) (s : State) → M.Sound t → M.Stands t s → sound L s ≡ true
  pub every : (s : State) → sound L s ≡ true → (t : M.Tables) × (M.Sound t × M.Stands t s)
  pub steps : (t : M.Tables) (s : State) (r : List ℕ) → is_bytes r ≡ true → M.Sound t → M.Stands t s → Stepping L M t s r

-- two records, to be sent one after the other to sound tables
pub record Pair (M : Monitor) (t : M.Tables) (r a : List ℕ) : Type 0 where
  pub first : is_bytes r ≡ true
  pub second : is_bytes a ≡ true
  pub soundly : M.Sound t

-- the second of two records gets no space
abbrev pub Cramped : (M : Monitor) → M.Tables → List ℕ → List ℕ → Type 0
Cramped M t r a = (M.step (M.step t r).tables a).answer.condition ≡ no_space

-- "freed room serves again": behind a delete that freed an item no append gets 1; behind a cancel, a finish or an abend no start does
pub record Serves (M : Monitor) : Type 0 where
  pub items : (t : M.Tables) (r a : List ℕ) → Pair M t r a → command r ≡ 14 → (M.step t r).answer.condition ≡ normal → 1 ≤ (M.step t r).answer.number → command a ≡ 10 → Cramped M t r a → ⊥
  pub requests : (t : M.Tables) (r a : List ℕ) → Pair M t r a → (command r ≡ 7) ⊎ (command r ≡ 9) → (M.step t r).answer.condition ≡ normal → command a ≡ 6 → Cramped M t r a → ⊥
  pub abend : (t : M.Tables) (r a : List ℕ) → Pair M t r a → (M.step t r).answer.action ≡ 2 → command a ≡ 6 → Cramped M t r a → ⊥

-- ---- demand 3: from fresh tables, any number of records, the answers are those of the clock that never wraps

unfoldable pub answers : (M : Monitor) → M.Tables → List (List ℕ) → List Answer
answers M t [] = []
answers M t (r ∷ rs) = (M.step t r).answer ∷ answers M (M.step t r).tables rs

abbrev pub are_bytes : List (List ℕ) → Bool
are_bytes rs = all is_bytes rs

pub record Demand3 (L : Limits) (M : Monitor) : Type 0 where
  pub runs : (v c : ℕ) → v < 2 ^ 32 → c % 2 ^ 32 ≡ v → (rs : List (List ℕ)) → are_bytes rs ≡ true → answers M (M.fresh v) rs ≡ answers_from L (empty_at c) rs

-- the corollary on two register values: the tick answers move on by d on the register's circle, and all else is the same
abbrev pub retick : ℕ → List ℕ → Answer → Answer
retick d r a =
    pick (eqb (command r) 4 && eqb a.condition normal)
    (record { condition = a.condition; action = a.action; label = a.label; number = (a.number + d) % 2 ^ 32; bytes = a.bytes })
    a

abbrev pub reticked : ℕ → List (List ℕ) → List Answer → List Answer
reticked d [] l = l
reticked d (r ∷ rs) [] = []
reticked d (r ∷ rs) (a ∷ l) = retick d r a ∷ reticked d rs l

pub record Moved (M : Monitor) : Type 0 where
  pub moved : (v w : ℕ) → v < 2 ^ 32 → w < 2 ^ 32 → (rs : List (List ℕ)) → are_bytes rs ≡ true → answers M (M.fresh w) rs ≡ reticked (w + 2 ^ 32 - v) rs (answers M (M.fresh v) rs)

-- ---- the same of a list entry: a list and a buffer in; code, count and buffer out

pub record ListDemands (L : Limits) (entry : List ℕ → List ℕ → Ran) : Type 0 where
  -- 35 and 36, each exactly where its rule says: nothing is run and nothing written
  pub refused : (l b : List ℕ) → is_bytes l ≡ true → framed l ≡ bad → entry l b ≡ refusal 35 b
  pub short : (l b : List ℕ) (v : ℕ) (rs : List (List ℕ)) → is_bytes l ≡ true → framed l ≡ good v rs → length b < 74 * length rs → entry l b ≡ refusal 36 b
  -- otherwise the model's answers, at any clock that the start value can mean, and each byte behind them as it was
  pub runs : (l b : List ℕ) (v c : ℕ) (rs : List (List ℕ)) → is_bytes l ≡ true → framed l ≡ good v rs → 74 * length rs ≤ length b → c % 2 ^ 32 ≡ v
      → entry l b ≡ answered (answers_from L (empty_at c) rs) b
  -- the same records from two start values
  pub moved : (l m b : List ℕ) (v w : ℕ) (rs : List (List ℕ)) → is_bytes l ≡ true → is_bytes m ≡ true → framed l ≡ good v rs → framed m ≡ good w rs → 74 * length rs ≤ length b
      → entry m b ≡ answered (reticked (w + 2 ^ 32 - v) rs (answers_from L (empty_at v) rs)) b
