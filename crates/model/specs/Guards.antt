-- Document 01 sentence by sentence: a table of short lists with the answers that its words give, so that the model cannot drift from them
-- unseen; then the framing and the bytes of answers as they stand, the single record, and which tables are sound. The checker computes all of it.
use Rattle.std.specs.Prelude.{ℕ, suc, zero, ◌+◌, ◌-◌, ◌*◌, ◌≡◌, refl, Bool, true, false, List, [], ◌∷◌, ◌++◌, map, length, replicate}
use Rattle.base.specs.Bytes.{num_from, bytes_of}
use Rattle.model.specs.Limits.{cabinet}
use Rattle.model.specs.Queues.{Queue, append, read_next, read_at, rewrite, delete, sound_queues}
use Rattle.model.specs.Interval.{Phase, Waiting, Expired, Active, Request, define_program, define_terminal, advance, ask_ticks, dispatch, start, cancel, retrieve, sound_interval}
use Rattle.model.specs.Handlers.{Setting, Unset, Ignore, Label, Task, handle, ignore, reset, sound_tasks}
use Rattle.model.specs.State.{State, empty_at, sound}
use Rattle.model.specs.Commands.{Answer, plain, formed, allowed, obeyed, step, step_any}
use Rattle.model.specs.Lists.{framed, answers_from, state_after, Ran, answered, run}
use Rattle.model.specs.Examples.{system, none, long, short, by, defines, ticks, asks, dispatches, starts, appends, next_of, item_of, list_of, ans, ok, gives, Case}

-- ---- how a case is written

-- a record, and the answer that document 01 gives it
pub record Exchange : Type 0 where
  pub sent : List ℕ
  pub answer : Answer

infix 70 ◌⇒◌
abbrev pub ◌⇒◌ : List ℕ → Answer → Exchange
r ⇒ a = record { sent = r; answer = a }

-- the exchanges of one list, from a start value of the register; and from 0
abbrev pub talk_at : ℕ → List Exchange → Case
talk_at value l = record { list = list_of value (map (λ (x : Exchange). x.sent) l); answers = map (λ (x : Exchange). x.answer) l }

abbrev pub talk : List Exchange → Case
talk l = talk_at 0 l

-- n numbers from k on
abbrev pub count : ℕ → ℕ → List ℕ
count zero k = []
count (suc n) k = k ∷ count n (k + 1)

-- ---- how a record is written

-- a terminal's name, and names whose bytes all differ
abbrev pub screen : ℕ → List ℕ
screen k = 0x54 ∷ 0x30 ∷ 0x31 ∷ k ∷ []

abbrev pub four : List ℕ
four = 0x31 ∷ 0x32 ∷ 0x33 ∷ 0x34 ∷ []

abbrev pub eight : List ℕ
eight = 0x41 ∷ 0x42 ∷ 0x43 ∷ 0x44 ∷ 0x45 ∷ 0x46 ∷ 0x47 ∷ 0x48 ∷ []

-- with another first byte, and with another last byte
abbrev pub eight_first : List ℕ
eight_first = 0x61 ∷ 0x42 ∷ 0x43 ∷ 0x44 ∷ 0x45 ∷ 0x46 ∷ 0x47 ∷ 0x48 ∷ []

abbrev pub eight_last : List ℕ
eight_last = 0x41 ∷ 0x42 ∷ 0x43 ∷ 0x44 ∷ 0x45 ∷ 0x46 ∷ 0x47 ∷ 0x68 ∷ []

-- names below the blank ones
abbrev pub low4 : List ℕ
low4 = replicate 4 0

abbrev pub low8 : List ℕ
low8 = replicate 8 0

abbrev pub screens : ℕ → List ℕ
screens k = by system 2 (screen k)

-- a start by the system: request, program, terminal, interval, data
abbrev pub begins : ℕ → ℕ → List ℕ → ℕ → List ℕ → List ℕ
begins request program terminal interval bytes = by system 6 (long request ++ short program ++ terminal ++ bytes_of 4 interval ++ bytes)

-- the answer to a dispatch: passed over, request, program, terminal
abbrev pub goes : ℕ → ℕ → ℕ → List ℕ → Answer
goes passed request program terminal = gives passed (long request ++ short program ++ terminal)

abbrev pub cancels : ℕ → List ℕ
cancels request = by system 7 (long request)

abbrev pub retrieves : ℕ → ℕ → List ℕ
retrieves request room = by (long request) 8 (room ∷ [])

abbrev pub finishes : ℕ → List ℕ
finishes request = by (long request) 9 []

abbrev pub rewrites : ℕ → ℕ → List ℕ → List ℕ
rewrites queue place item = by system 13 (long queue ++ bytes_of 2 place ++ item)

abbrev pub deletes : ℕ → List ℕ
deletes queue = by system 14 (long queue)

abbrev pub handles : ℕ → ℕ → ℕ → List ℕ
handles request condition label = by (long request) 15 (condition ∷ bytes_of 2 label)

abbrev pub ignores : ℕ → ℕ → List ℕ
ignores request condition = by (long request) 16 (condition ∷ [])

abbrev pub resets : ℕ → ℕ → List ℕ
resets request condition = by (long request) 17 (condition ∷ [])

-- a condition with number 0 and no bytes: that goes to a label, and that is an abend
abbrev pub labelled : ℕ → ℕ → Answer
labelled c label = ans c 1 label 0 []

abbrev pub abends : ℕ → Answer
abends c = ans c 2 0 0 []

-- task 5 of program 1 runs at no terminal; and with every condition ignored
abbrev pub tasked : List Exchange
tasked = defines 1 ⇒ ok 0 ∷ starts 5 1 0 ⇒ ok 0 ∷ dispatches ⇒ goes 0 5 1 none ∷ []

abbrev pub calm : List Exchange
calm = tasked ++ ignores 5 0 ⇒ ok 0 ∷ []

-- ---- 1 define program, 2 define terminal

abbrev pub defining : List Case
defining =
    -- "10 if blank"
    talk (by system 1 none ⇒ plain 10 ∷ by system 2 none ⇒ plain 10 ∷ [])
    -- "7 known"
    ∷ talk (defines 1 ⇒ ok 0 ∷ defines 2 ⇒ ok 0 ∷ defines 1 ⇒ plain 7 ∷ screens 1 ⇒ ok 0 ∷ screens 2 ⇒ ok 0 ∷ screens 1 ⇒ plain 7 ∷ [])
    -- "programs .. | 16", "10 if blank, 7 known, 1 full"
    ∷ talk (map (λ k. defines k ⇒ ok 0) (count 16 1) ++ defines 17 ⇒ plain 1 ∷ defines 16 ⇒ plain 7 ∷ by system 1 none ⇒ plain 10 ∷ screens 1 ⇒ ok 0
    ∷ [])
    -- "terminals | .. 8", "10 if blank, 7 known, 1 full"
    ∷ talk (map (λ k. screens k ⇒ ok 0) (count 8 1) ++ screens 9 ⇒ plain 1 ∷ screens 8 ⇒ plain 7 ∷ by system 2 none ⇒ plain 10 ∷ defines 1 ⇒ ok 0
    ∷ [])
    -- "program and terminal names 4. Bytes are compared as they stand."
    ∷ talk (map (λ c. by system c four ⇒ ok 0) (1 ∷ 2 ∷ [])
    ++ map (λ c. by system c (0x61 ∷ 0x32 ∷ 0x33 ∷ 0x34 ∷ []) ⇒ ok 0) (1 ∷ 2 ∷ [])
    ++ map (λ c. by system c (0x31 ∷ 0x32 ∷ 0x33 ∷ 0x61 ∷ []) ⇒ ok 0) (1 ∷ 2 ∷ [])
    ++ map (λ c. by system c four ⇒ plain 7) (1 ∷ 2 ∷ []))
    -- "A name of spaces only (hex 20) is blank."
    ∷ talk (map (λ c. by system c (0x20 ∷ 0x20 ∷ 0x20 ∷ 0x21 ∷ []) ⇒ ok 0) (1 ∷ 2 ∷ [])
    ++ map (λ c. by system c (0x21 ∷ 0x20 ∷ 0x20 ∷ 0x20 ∷ []) ⇒ ok 0) (1 ∷ 2 ∷ [])
    ++ map (λ c. by system c low4 ⇒ ok 0) (1 ∷ 2 ∷ []))
    -- "any other issuer gets 10, before every condition in the row", and nothing is defined
    ∷ talk (calm ++ by (long 5) 1 (short 1) ⇒ plain 10 ∷ by (long 5) 1 (short 2) ⇒ plain 10 ∷ defines 2 ⇒ ok 0
    ∷ screens 1 ⇒ ok 0 ∷ by (long 5) 2 (screen 1) ⇒ plain 10 ∷ by (long 5) 2 (screen 2) ⇒ plain 10 ∷ screens 2 ⇒ ok 0 ∷ [])
    ∷ []

-- ---- 3 advance, 4 ask ticks

abbrev pub ticking : List Case
ticking =
    -- "advance: ticks 4", "ask ticks | none | register", in all four bytes
    talk_at 0xA1B2C3D4 (asks ⇒ ok 0xA1B2C3D4 ∷ ticks 0x12345678 ⇒ ok 0 ∷ asks ⇒ ok 0xB3E71A4C ∷ [])
    -- "tick register | 32 bits, wraps"
    ∷ talk_at 0xFFFFFFFF (asks ⇒ ok 0xFFFFFFFF ∷ ticks 1 ⇒ ok 0 ∷ asks ⇒ ok 0 ∷ ticks 0 ⇒ ok 0 ∷ asks ⇒ ok 0 ∷ [])
    -- "newly expired"
    ∷ talk (defines 1 ⇒ ok 0 ∷ starts 1 1 1 ⇒ ok 0 ∷ starts 2 1 2 ⇒ ok 0 ∷ starts 3 1 2 ⇒ ok 0 ∷ ticks 1 ⇒ ok 1 ∷ ticks 1 ⇒ ok 2 ∷ ticks 1 ⇒ ok 0
    ∷ ticks 0 ⇒ ok 0 ∷ [])
    -- "interval 0 expires at once", so that no advance finds it newly expired
    ∷ talk (defines 1 ⇒ ok 0 ∷ starts 1 1 0 ⇒ ok 0 ∷ ticks 0 ⇒ ok 0 ∷ ticks 1 ⇒ ok 0 ∷ dispatches ⇒ goes 0 1 1 none ∷ ticks 1 ⇒ ok 0 ∷ [])
    -- "10 above bound": no tick has passed
    ∷ talk (defines 1 ⇒ ok 0 ∷ starts 1 1 5 ⇒ ok 0 ∷ ticks 1_000_000_001 ⇒ plain 10 ∷ ticks 0xFFFFFFFF ⇒ plain 10 ∷ ticks 4 ⇒ ok 0 ∷ asks ⇒ ok 4
    ∷ ticks 1 ⇒ ok 1 ∷ [])
    -- "advance: ticks 4 (sys)"; anyone may ask
    ∷ talk_at 77 (calm ++ by (long 5) 3 (bytes_of 4 1) ⇒ plain 10 ∷ by (long 5) 3 (bytes_of 4 1_000_000_001) ⇒ plain 10 ∷ by (long 5) 4 [] ⇒ ok 77 ∷ [])
    -- "A waiting request has 1..359,999,000 ticks to go"
    ∷ talk (defines 1 ⇒ ok 0 ∷ starts 1 1 359_999_000 ⇒ ok 0 ∷ ticks 359_998_999 ⇒ ok 0 ∷ ticks 1 ⇒ ok 1 ∷ [])
    -- "reckoned on the register's circle": due in the last ticks before the wrap, looked at just after it
    ∷ talk_at 0xFFFFFFF0 (defines 1 ⇒ ok 0 ∷ starts 1 1 10 ⇒ ok 0 ∷ ticks 0x20 ⇒ ok 1 ∷ asks ⇒ ok 0x10 ∷ dispatches ⇒ goes 0 1 1 none ∷ [])
    -- "reckoned on the register's circle": due after the wrap, looked at before it
    ∷ talk_at 0xFFFFFFF0 (defines 1 ⇒ ok 0 ∷ starts 1 1 0x20 ⇒ ok 0 ∷ ticks 0xF ⇒ ok 0 ∷ asks ⇒ ok 0xFFFFFFFF ∷ dispatches ⇒ plain 8
    ∷ ticks 1 ⇒ ok 0 ∷ asks ⇒ ok 0 ∷ ticks 0xF ⇒ ok 0 ∷ dispatches ⇒ plain 8 ∷ ticks 1 ⇒ ok 1 ∷ dispatches ⇒ goes 0 1 1 none ∷ [])
    -- "The expired line is ordered by due", also where the wrap lies between
    ∷ talk_at 0xFFFFFFF0 (map (λ k. defines k ⇒ ok 0) (count 3 1) ++ starts 1 1 0x20 ⇒ ok 0 ∷ starts 2 2 8 ⇒ ok 0 ∷ starts 3 3 0x21 ⇒ ok 0
    ∷ ticks 0x30 ⇒ ok 3
    ∷ dispatches ⇒ goes 0 2 2 none ∷ dispatches ⇒ goes 0 1 1 none ∷ dispatches ⇒ goes 0 3 3 none ∷ [])
    -- "a request expired and then left through five advances of 1,000,000,000": it "stays in that order however long it waits"
    ∷ talk_at 0xFFFFFFF0 (map (λ k. defines k ⇒ ok 0) (count 4 1) ++ starts 9 1 5 ⇒ ok 0 ∷ starts 8 2 6 ⇒ ok 0 ∷ ticks 6 ⇒ ok 2
    ∷ replicate 5 (ticks 1_000_000_000 ⇒ ok 0) ++ starts 1 3 1 ⇒ ok 0 ∷ ticks 1 ⇒ ok 1 ∷ starts 2 4 0 ⇒ ok 0 ∷ asks ⇒ ok 705_032_695
    ∷ dispatches ⇒ goes 0 9 1 none ∷ dispatches ⇒ goes 0 8 2 none ∷ dispatches ⇒ goes 0 1 3 none ∷ dispatches ⇒ goes 0 2 4 none ∷ [])
    -- "stays in that order however long it waits": past half of the circle, beside one that is waiting
    ∷ talk (map (λ k. defines k ⇒ ok 0) (count 2 1) ++ starts 9 1 5 ⇒ ok 0 ∷ ticks 5 ⇒ ok 1 ∷ replicate 3 (ticks 1_000_000_000 ⇒ ok 0)
    ++ starts 1 2 1 ⇒ ok 0 ∷ dispatches ⇒ goes 0 9 1 none ∷ dispatches ⇒ plain 8 ∷ ticks 1 ⇒ ok 1 ∷ dispatches ⇒ goes 0 1 2 none ∷ [])
    ∷ []

-- ---- 5 dispatch

abbrev pub dispatching : List Case
dispatching =
    -- "8 nothing startable": an empty line; a waiting request and an active task are not in it
    talk (dispatches ⇒ plain 8 ∷ defines 1 ⇒ ok 0 ∷ defines 2 ⇒ ok 0 ∷ starts 1 1 1 ⇒ ok 0 ∷ dispatches ⇒ plain 8 ∷ starts 2 2 0 ⇒ ok 0
    ∷ dispatches ⇒ goes 0 2 2 none ∷ dispatches ⇒ plain 8 ∷ [])
    -- "The expired line is ordered by due, then by order of acceptance"
    ∷ talk (map (λ k. defines k ⇒ ok 0) (count 4 1) ++ starts 1 1 5 ⇒ ok 0 ∷ starts 2 2 3 ⇒ ok 0 ∷ starts 3 3 5 ⇒ ok 0 ∷ starts 4 4 4 ⇒ ok 0
    ∷ ticks 9 ⇒ ok 4
    ∷ dispatches ⇒ goes 0 2 2 none ∷ dispatches ⇒ goes 0 4 4 none ∷ dispatches ⇒ goes 0 1 1 none ∷ dispatches ⇒ goes 0 3 3 none ∷ [])
    -- "and stays in that order however long it waits": what expires later stands behind
    ∷ talk (map (λ k. defines k ⇒ ok 0) (count 4 1) ++ starts 9 1 2 ⇒ ok 0 ∷ starts 1 2 4 ⇒ ok 0 ∷ starts 5 3 1 ⇒ ok 0 ∷ ticks 1 ⇒ ok 1
    ∷ ticks 1 ⇒ ok 1 ∷ starts 2 4 0 ⇒ ok 0 ∷ ticks 2 ⇒ ok 1
    ∷ dispatches ⇒ goes 0 5 3 none ∷ dispatches ⇒ goes 0 9 1 none ∷ dispatches ⇒ goes 0 2 4 none ∷ dispatches ⇒ goes 0 1 2 none ∷ [])
    -- "Treating the line as sorted by name or slot after a name is used again": a slot is used again
    ∷ talk (map (λ k. defines k ⇒ ok 0) (count 3 1) ++ starts 9 1 3 ⇒ ok 0 ∷ starts 8 2 3 ⇒ ok 0 ∷ cancels 9 ⇒ ok 0 ∷ starts 7 3 3 ⇒ ok 0
    ∷ ticks 3 ⇒ ok 2
    ∷ dispatches ⇒ goes 0 8 2 none ∷ dispatches ⇒ goes 0 7 3 none ∷ [])
    -- "Treating the line as sorted by name or slot after a name is used again": a name is used again, at once expired or not
    ∷ talk (map (λ k. defines k ⇒ ok 0) (count 2 1) ++ starts 3 1 3 ⇒ ok 0 ∷ starts 4 2 3 ⇒ ok 0 ∷ cancels 3 ⇒ ok 0 ∷ starts 3 1 3 ⇒ ok 0
    ∷ ticks 3 ⇒ ok 2
    ∷ cancels 4 ⇒ ok 0 ∷ starts 4 2 0 ⇒ ok 0 ∷ dispatches ⇒ goes 0 3 1 none ∷ dispatches ⇒ goes 0 4 2 none ∷ [])
    -- "whose program has no active task", "how many in the line stood before it", "the length of the expired line"
    ∷ talk (tasked ++ defines 2 ⇒ ok 0 ∷ starts 6 1 0 ⇒ ok 0 ∷ starts 7 1 0 ⇒ ok 0 ∷ starts 8 2 0 ⇒ ok 0 ∷ starts 9 2 5 ⇒ ok 0
    ∷ dispatches ⇒ goes 2 8 2 none ∷ dispatches ⇒ ans 8 0 0 2 []
    ∷ finishes 5 ⇒ ok 0 ∷ dispatches ⇒ goes 0 6 1 none ∷ dispatches ⇒ ans 8 0 0 1 [] ∷ [])
    -- "whose terminal is none or not held by an active task"; finish frees the terminal
    ∷ talk (map (λ k. defines k ⇒ ok 0) (count 3 1) ++ screens 1 ⇒ ok 0 ∷ screens 2 ⇒ ok 0 ∷ begins 1 1 (screen 1) 0 [] ⇒ ok 0
    ∷ dispatches ⇒ goes 0 1 1 (screen 1)
    ∷ begins 2 2 (screen 1) 0 [] ⇒ ok 0 ∷ begins 3 3 (screen 2) 0 [] ⇒ ok 0 ∷ dispatches ⇒ goes 1 3 3 (screen 2) ∷ dispatches ⇒ ans 8 0 0 1 []
    ∷ finishes 1 ⇒ ok 0 ∷ dispatches ⇒ goes 0 2 2 (screen 1) ∷ [])
    -- "Leaving the terminal busy after an abend": it frees the terminal, and the program
    ∷ talk (map (λ k. defines k ⇒ ok 0) (count 2 1) ++ screens 1 ⇒ ok 0 ∷ screens 2 ⇒ ok 0 ∷ begins 1 1 (screen 1) 0 [] ⇒ ok 0
    ∷ dispatches ⇒ goes 0 1 1 (screen 1)
    ∷ begins 2 2 (screen 1) 0 [] ⇒ ok 0 ∷ begins 3 1 (screen 2) 0 [] ⇒ ok 0 ∷ dispatches ⇒ ans 8 0 0 2 [] ∷ by (long 1) 7 (long 9) ⇒ abends 8
    ∷ dispatches ⇒ goes 0 2 2 (screen 1) ∷ dispatches ⇒ goes 0 3 1 (screen 2) ∷ [])
    -- "a blank terminal means none": none is held by no task
    ∷ talk (tasked ++ defines 2 ⇒ ok 0 ∷ starts 6 2 0 ⇒ ok 0 ∷ dispatches ⇒ goes 0 6 2 none ∷ [])
    -- "A name of spaces only (hex 20) is blank.": a terminal below it in name is a terminal, unknown or held
    ∷ talk (defines 1 ⇒ ok 0 ∷ defines 2 ⇒ ok 0 ∷ begins 1 1 low4 0 [] ⇒ plain 6 ∷ by system 2 low4 ⇒ ok 0 ∷ begins 1 1 low4 0 [] ⇒ ok 0
    ∷ begins 2 2 low4 0 [] ⇒ ok 0
    ∷ dispatches ⇒ goes 0 1 1 low4 ∷ dispatches ⇒ ans 8 0 0 1 [] ∷ [])
    -- "held by an active task": a waiting and an expired request hold neither terminal nor program
    ∷ talk (defines 1 ⇒ ok 0 ∷ screens 1 ⇒ ok 0 ∷ begins 1 1 (screen 1) 9 [] ⇒ ok 0 ∷ begins 2 1 (screen 1) 0 [] ⇒ ok 0
    ∷ begins 3 1 (screen 1) 0 [] ⇒ ok 0
    ∷ dispatches ⇒ goes 0 2 1 (screen 1) ∷ [])
    -- "dispatch (sys)": 10 before 8, and nothing is started
    ∷ talk (calm ++ by (long 5) 5 [] ⇒ plain 10 ∷ defines 2 ⇒ ok 0 ∷ starts 6 2 0 ⇒ ok 0 ∷ by (long 5) 5 [] ⇒ plain 10 ∷ dispatches ⇒ goes 0 6 2 none
    ∷ [])
    ∷ []

-- ---- 6 start

-- a start under a name of 8 bytes
abbrev pub starts_as : List ℕ → List ℕ
starts_as name = by system 6 (name ++ short 1 ++ none ++ bytes_of 4 9)

abbrev pub starting : List Case
starting =
    -- "start: request 8, program 4, terminal 4, interval 4, rest data": each at its place; "Bytes: request, program, terminal."
    talk (by system 1 four ⇒ ok 0 ∷ by system 2 (0x61 ∷ 0x62 ∷ 0x63 ∷ 0x64 ∷ []) ⇒ ok 0
    ∷ by system 6 (eight ++ four ++ (0x61 ∷ 0x62 ∷ 0x63 ∷ 0x64 ∷ []) ++ (1 ∷ 2 ∷ 3 ∷ 4 ∷ []) ++ (9 ∷ 8 ∷ 7 ∷ [])) ⇒ ok 0
    ∷ ticks 0x01020303 ⇒ ok 0 ∷ ticks 1 ⇒ ok 1 ∷ dispatches ⇒ gives 0 (eight ++ four ++ 0x61 ∷ 0x62 ∷ 0x63 ∷ 0x64 ∷ [])
    ∷ by eight 8 (255 ∷ []) ⇒ gives 3 (9 ∷ 8 ∷ 7 ∷ []) ∷ [])
    -- "Queue and request names have 8 bytes", "Bytes are compared as they stand."
    ∷ talk (defines 1 ⇒ ok 0 ∷ starts_as eight ⇒ ok 0 ∷ starts_as eight_first ⇒ ok 0 ∷ starts_as eight_last ⇒ ok 0
    ∷ starts_as (replicate 7 0x20 ++ 0x21 ∷ []) ⇒ ok 0 ∷ starts_as low8 ⇒ ok 0 ∷ starts_as eight ⇒ plain 7 ∷ starts_as system ⇒ plain 10 ∷ [])
    -- "10 blank request or interval above bound; 4 data over 64; 5; 6; 7": each before the next
    ∷ talk (defines 1 ⇒ ok 0 ∷ screens 1 ⇒ ok 0 ∷ starts 5 1 9 ⇒ ok 0
    ∷ by system 6 (system ++ short 1 ++ none ++ bytes_of 4 0) ⇒ plain 10
    ∷ by system 6 (system ++ short 1 ++ none ++ bytes_of 4 0 ++ replicate 65 7) ⇒ plain 10
    ∷ begins 6 1 none 359_999_001 (replicate 65 7) ⇒ plain 10
    ∷ begins 6 9 none 359_999_001 [] ⇒ plain 10
    ∷ begins 6 1 none 0x80000000 [] ⇒ plain 10
    ∷ begins 6 1 none 0 (replicate 65 7) ⇒ plain 4
    ∷ begins 6 9 none 0 (replicate 65 7) ⇒ plain 4
    ∷ begins 5 1 none 0 (replicate 65 7) ⇒ plain 4
    ∷ begins 6 9 none 0 [] ⇒ plain 5
    ∷ begins 6 9 (screen 9) 0 [] ⇒ plain 5
    ∷ begins 5 9 none 0 [] ⇒ plain 5
    ∷ begins 6 1 (screen 9) 0 [] ⇒ plain 6
    ∷ begins 5 1 (screen 9) 0 [] ⇒ plain 6
    ∷ begins 5 1 (screen 1) 0 [] ⇒ plain 7
    ∷ dispatches ⇒ plain 8
    ∷ begins 6 1 (screen 1) 0 (replicate 64 7) ⇒ ok 0
    ∷ dispatches ⇒ goes 0 6 1 (screen 1)
    ∷ retrieves 6 64 ⇒ gives 64 (replicate 64 7) ∷ [])
    -- "every other blank is refused as below": a blank program is unknown; a terminal is no program, and a program no terminal
    ∷ talk (defines 1 ⇒ ok 0 ∷ screens 1 ⇒ ok 0 ∷ by system 6 (long 6 ++ none ++ none ++ bytes_of 4 0) ⇒ plain 5
    ∷ by system 6 (long 6 ++ screen 1 ++ none ++ bytes_of 4 0) ⇒ plain 5
    ∷ by system 6 (long 6 ++ short 1 ++ short 1 ++ bytes_of 4 0) ⇒ plain 6 ∷ [])
    -- "Its name is in use until it is removed": waiting, expired, active
    ∷ talk (defines 1 ⇒ ok 0 ∷ starts 5 1 3 ⇒ ok 0 ∷ starts 5 1 3 ⇒ plain 7 ∷ ticks 3 ⇒ ok 1 ∷ starts 5 1 3 ⇒ plain 7 ∷ dispatches ⇒ goes 0 5 1 none
    ∷ starts 5 1 3 ⇒ plain 7
    ∷ finishes 5 ⇒ ok 0 ∷ starts 5 1 3 ⇒ ok 0 ∷ [])
    -- "requests known at once, in every phase | 32"; "7; 1"; what is removed serves again
    ∷ talk (tasked ++ defines 2 ⇒ ok 0 ∷ starts 6 1 0 ⇒ ok 0 ∷ map (λ k. starts k 2 9 ⇒ ok 0) (count 30 7)
    ++ starts 99 2 0 ⇒ plain 1 ∷ starts 5 1 0 ⇒ plain 7 ∷ begins 99 1 (screen 9) 0 [] ⇒ plain 6 ∷ starts 99 9 0 ⇒ plain 5
    ∷ begins 99 1 none 0 (replicate 65 7) ⇒ plain 4 ∷ starts 99 1 359_999_001 ⇒ plain 10
    ∷ cancels 7 ⇒ ok 0 ∷ starts 99 2 0 ⇒ ok 0 ∷ starts 7 2 0 ⇒ plain 1
    ∷ finishes 5 ⇒ ok 0 ∷ starts 7 2 0 ⇒ ok 0 ∷ starts 5 2 0 ⇒ plain 1
    ∷ dispatches ⇒ goes 0 6 1 none ∷ starts 5 2 0 ⇒ plain 1 ∷ by (long 6) 7 (long 98) ⇒ abends 8 ∷ starts 5 2 0 ⇒ ok 0 ∷ starts 6 2 0 ⇒ plain 1 ∷ [])
    -- "start" has no "(sys)": a task may
    ∷ talk (tasked ++ by (long 5) 6 (long 6 ++ short 1 ++ none ++ bytes_of 4 0) ⇒ ok 0
    ∷ by (long 5) 6 (long 6 ++ short 1 ++ none ++ bytes_of 4 0) ⇒ abends 7 ∷ dispatches ⇒ goes 0 6 1 none ∷ [])
    ∷ []

-- ---- 7 cancel

abbrev pub cancelling : List Case
cancelling =
    -- "Cancel removes a waiting or expired request."
    talk (defines 1 ⇒ ok 0 ∷ starts 1 1 2 ⇒ ok 0 ∷ starts 2 1 2 ⇒ ok 0 ∷ starts 3 1 0 ⇒ ok 0 ∷ cancels 1 ⇒ ok 0 ∷ cancels 1 ⇒ plain 8 ∷ ticks 2 ⇒ ok 1
    ∷ cancels 3 ⇒ ok 0 ∷ cancels 3 ⇒ plain 8 ∷ dispatches ⇒ goes 0 2 1 none ∷ [])
    -- "An active one gets 8.", also from its own task
    ∷ talk (calm ++ cancels 5 ⇒ plain 8 ∷ by (long 5) 7 (long 5) ⇒ plain 8 ∷ by (long 5) 4 [] ⇒ ok 0 ∷ [])
    -- "10 if blank, 8"
    ∷ talk (by system 7 system ⇒ plain 10 ∷ cancels 1 ⇒ plain 8 ∷ by system 7 low8 ⇒ plain 8 ∷ [])
    -- "cancel: request 8"
    ∷ talk (defines 1 ⇒ ok 0 ∷ starts_as eight ⇒ ok 0 ∷ by system 7 eight_first ⇒ plain 8 ∷ by system 7 eight_last ⇒ plain 8 ∷ by system 7 eight ⇒ ok 0
    ∷ [])
    -- "cancel: request 8" has no "(sys)": a task may
    ∷ talk (tasked ++ starts 6 1 9 ⇒ ok 0 ∷ by (long 5) 7 (long 6) ⇒ ok 0 ∷ by (long 5) 7 system ⇒ abends 10 ∷ [])
    ∷ []

-- ---- 8 retrieve, 9 finish

-- task 5 of program 1 runs at terminal 1 with data 1 2 3 and every condition ignored; program 2 and terminal 2 are known
abbrev pub served : List Exchange
served =
    defines 1 ⇒ ok 0 ∷ defines 2 ⇒ ok 0 ∷ screens 1 ⇒ ok 0 ∷ screens 2 ⇒ ok 0
    ∷ begins 5 1 (screen 1) 0 (1 ∷ 2 ∷ 3 ∷ []) ⇒ ok 0 ∷ dispatches ⇒ goes 0 5 1 (screen 1) ∷ ignores 5 0 ⇒ ok 0 ∷ []

abbrev pub retrieving : List Case
retrieving =
    -- "the task's own data if it has some not yet taken. Otherwise the first in the line with the same program, the same terminal (..) and some data"
    talk (served ++ begins 6 1 none 0 (9 ∷ []) ⇒ ok 0 ∷ begins 7 2 (screen 1) 0 (9 ∷ []) ⇒ ok 0 ∷ begins 8 1 (screen 2) 0 (9 ∷ []) ⇒ ok 0
    ∷ begins 9 1 (screen 1) 0 [] ⇒ ok 0
    ∷ begins 12 1 (screen 1) 4 (7 ∷ []) ⇒ ok 0 ∷ begins 11 1 (screen 1) 0 (4 ∷ []) ⇒ ok 0 ∷ begins 10 1 (screen 1) 0 (5 ∷ 6 ∷ []) ⇒ ok 0
    ∷ retrieves 5 9 ⇒ gives 3 (1 ∷ 2 ∷ 3 ∷ []) ∷ retrieves 5 9 ⇒ gives 1 (4 ∷ []) ∷ cancels 11 ⇒ plain 8 ∷ retrieves 5 1 ⇒ ans 4 0 0 2 (5 ∷ [])
    ∷ cancels 10 ⇒ plain 8
    ∷ retrieves 5 9 ⇒ plain 9 ∷ dispatches ⇒ ans 8 0 0 4 [] ∷ ticks 4 ⇒ ok 1 ∷ retrieves 5 255 ⇒ gives 1 (7 ∷ []) ∷ retrieves 5 0 ⇒ plain 9
    ∷ finishes 5 ⇒ ok 0 ∷ dispatches ⇒ goes 0 6 1 none ∷ dispatches ⇒ goes 0 7 2 (screen 1) ∷ dispatches ⇒ ans 8 0 0 2 [] ∷ [])
    -- "the same terminal (none equals none)"; "9" is an abend where all is unset
    ∷ talk (tasked ++ screens 1 ⇒ ok 0 ∷ begins 6 1 (screen 1) 0 (1 ∷ []) ⇒ ok 0 ∷ begins 7 1 none 0 (2 ∷ []) ⇒ ok 0
    ∷ retrieves 5 9 ⇒ gives 1 (2 ∷ []) ∷ retrieves 5 9 ⇒ abends 9 ∷ retrieves 5 9 ⇒ plain 34
    ∷ dispatches ⇒ goes 0 6 1 (screen 1) ∷ dispatches ⇒ plain 8 ∷ [])
    -- "the same program", whichever name is the lower
    ∷ talk (defines 1 ⇒ ok 0 ∷ defines 2 ⇒ ok 0 ∷ starts 5 2 0 ⇒ ok 0 ∷ dispatches ⇒ goes 0 5 2 none ∷ begins 6 1 none 0 (1 ∷ []) ⇒ ok 0
    ∷ retrieves 5 9 ⇒ abends 9 ∷ [])
    -- "the first in the line", by due and not by acceptance or name
    ∷ talk (tasked ++ begins 6 1 none 2 (6 ∷ []) ⇒ ok 0 ∷ begins 9 1 none 1 (9 ∷ []) ⇒ ok 0 ∷ ticks 2 ⇒ ok 2 ∷ retrieves 5 9 ⇒ gives 1 (9 ∷ [])
    ∷ retrieves 5 9 ⇒ gives 1 (6 ∷ []) ∷ [])
    -- "A short room cuts as for queues, and the data counts as taken."
    ∷ talk (served ++ retrieves 5 2 ⇒ ans 4 0 0 3 (1 ∷ 2 ∷ []) ∷ retrieves 5 9 ⇒ plain 9 ∷ [])
    -- "A short room cuts as for queues": a room of 0, and one that is just enough
    ∷ talk (served ++ begins 6 1 (screen 1) 0 (8 ∷ 9 ∷ []) ⇒ ok 0 ∷ retrieves 5 0 ⇒ ans 4 0 0 3 [] ∷ retrieves 5 2 ⇒ gives 2 (8 ∷ 9 ∷ []) ∷ [])
    -- "9, then 4": with nothing to give the room does not matter
    ∷ talk (calm ++ retrieves 5 0 ⇒ plain 9 ∷ [])
    -- "start data | 0..64 bytes, 0 meaning none"
    ∷ talk (calm ++ starts 6 1 0 ⇒ ok 0 ∷ retrieves 5 9 ⇒ plain 9 ∷ begins 7 1 none 0 (7 ∷ []) ⇒ ok 0 ∷ retrieves 5 9 ⇒ gives 1 (7 ∷ [])
    ∷ cancels 6 ⇒ ok 0 ∷ [])
    -- "the task's own data": of two tasks each has its own
    ∷ talk (defines 1 ⇒ ok 0 ∷ defines 2 ⇒ ok 0 ∷ begins 5 1 none 0 (1 ∷ []) ⇒ ok 0 ∷ begins 6 2 none 0 (2 ∷ 2 ∷ []) ⇒ ok 0
    ∷ dispatches ⇒ goes 0 5 1 none ∷ dispatches ⇒ goes 0 6 2 none
    ∷ retrieves 6 9 ⇒ gives 2 (2 ∷ 2 ∷ []) ∷ retrieves 5 9 ⇒ gives 1 (1 ∷ []) ∷ retrieves 6 9 ⇒ abends 9 ∷ by (long 5) 4 [] ⇒ ok 0
    ∷ begins 4 2 none 0 (4 ∷ 4 ∷ 4 ∷ []) ⇒ ok 0 ∷ dispatches ⇒ goes 0 4 2 none ∷ retrieves 4 9 ⇒ gives 3 (4 ∷ 4 ∷ 4 ∷ []) ∷ finishes 4 ⇒ ok 0
    ∷ retrieves 5 9 ⇒ abends 9 ∷ [])
    -- "retrieve: room 1 (task)", "finish (task)": the system gets 10
    ∷ talk (by system 8 (9 ∷ []) ⇒ plain 10 ∷ by system 9 [] ⇒ plain 10 ∷ [])
    -- "that request is removed", and another may be started in its stead
    ∷ talk (tasked ++ begins 6 1 none 0 (7 ∷ []) ⇒ ok 0 ∷ map (λ k. starts k 1 9 ⇒ ok 0) (count 30 7) ++ starts 99 1 9 ⇒ plain 1
    ∷ retrieves 5 9 ⇒ gives 1 (7 ∷ []) ∷ starts 99 1 9 ⇒ ok 0 ∷ starts 6 1 9 ⇒ plain 1 ∷ [])
    -- "Finish removes the task, its settings and its data.", and no other task
    ∷ talk (served ++ starts 6 2 0 ⇒ ok 0 ∷ dispatches ⇒ goes 0 6 2 none ∷ finishes 5 ⇒ ok 0 ∷ finishes 5 ⇒ plain 34 ∷ by (long 6) 4 [] ⇒ ok 0
    ∷ begins 5 1 (screen 1) 0 [] ⇒ ok 0 ∷ dispatches ⇒ goes 0 5 1 (screen 1) ∷ retrieves 5 9 ⇒ abends 9 ∷ by (long 6) 4 [] ⇒ ok 0 ∷ [])
    ∷ []

-- ---- 10 append to 14 delete queue

-- "append: queue 8, rest item" and the others under a name of 8 bytes
abbrev pub puts : List ℕ → List ℕ → List ℕ
puts queue item = by system 10 (queue ++ item)

abbrev pub queueing : List Case
queueing =
    -- "10 if blank, 4 length not 1..64, 1": each before the next
    talk (by system 10 (system ++ 7 ∷ []) ⇒ plain 10 ∷ by system 10 system ⇒ plain 10 ∷ by system 10 (system ++ replicate 65 7) ⇒ plain 10 ∷ [])
    -- "10 if blank, 2, 3, then 4"
    ∷ talk (by system 11 (system ++ 9 ∷ []) ⇒ plain 10 ∷ next_of 1 9 ⇒ plain 2 ∷ by system 12 (system ++ 0 ∷ 1 ∷ 9 ∷ []) ⇒ plain 10
    ∷ item_of 1 0 9 ⇒ plain 2 ∷ item_of 1 1 9 ⇒ plain 2
    ∷ appends 1 (7 ∷ []) ⇒ ok 1 ∷ item_of 1 0 0 ⇒ plain 3 ∷ item_of 1 2 0 ⇒ plain 3 ∷ item_of 1 1 0 ⇒ ans 4 0 0 1 [] ∷ next_of 1 0 ⇒ plain 3 ∷ [])
    -- "10 if blank, 4 length not 1..64, 2, 3"
    ∷ talk (by system 13 (system ++ 0 ∷ 1 ∷ []) ⇒ plain 10 ∷ by system 13 (system ++ 0 ∷ 1 ∷ 7 ∷ []) ⇒ plain 10 ∷ rewrites 1 1 [] ⇒ plain 4
    ∷ rewrites 1 1 (replicate 65 7) ⇒ plain 4 ∷ rewrites 1 0 (7 ∷ []) ⇒ plain 2
    ∷ rewrites 1 1 (7 ∷ []) ⇒ plain 2 ∷ appends 1 (7 ∷ []) ⇒ ok 1 ∷ rewrites 1 0 [] ⇒ plain 4 ∷ rewrites 1 2 (replicate 65 7) ⇒ plain 4
    ∷ rewrites 1 0 (8 ∷ []) ⇒ plain 3 ∷ rewrites 1 2 (8 ∷ []) ⇒ plain 3
    ∷ next_of 1 64 ⇒ gives 1 (7 ∷ []) ∷ rewrites 1 1 (replicate 64 8) ⇒ ok 0 ∷ item_of 1 1 64 ⇒ gives 64 (replicate 64 8) ∷ [])
    -- "delete queue: 8 | 10 if blank, 2 | items freed"
    ∷ talk (by system 14 system ⇒ plain 10 ∷ deletes 1 ⇒ plain 2 ∷ appends 1 (7 ∷ []) ⇒ ok 1 ∷ appends 2 (7 ∷ []) ⇒ ok 1 ∷ appends 1 (8 ∷ []) ⇒ ok 2
    ∷ next_of 1 9 ⇒ gives 1 (7 ∷ []) ∷ deletes 1 ⇒ ok 2 ∷ deletes 1 ⇒ plain 2
    ∷ next_of 1 9 ⇒ plain 2 ∷ next_of 2 9 ⇒ gives 1 (7 ∷ []) ∷ appends 1 (9 ∷ []) ⇒ ok 1 ∷ next_of 1 9 ⇒ gives 1 (9 ∷ []) ∷ [])
    -- "Queue .. names have 8 bytes", "Bytes are compared as they stand."
    ∷ talk (puts eight (1 ∷ []) ⇒ ok 1 ∷ puts eight_first (2 ∷ []) ⇒ ok 1 ∷ puts eight_last (3 ∷ []) ⇒ ok 1 ∷ puts eight (4 ∷ []) ⇒ ok 2
    ∷ by system 11 (eight_first ++ 9 ∷ []) ⇒ gives 1 (2 ∷ []) ∷ by system 11 (eight_last ++ 9 ∷ []) ⇒ gives 1 (3 ∷ [])
    ∷ by system 12 (eight_first ++ 0 ∷ 1 ∷ 9 ∷ []) ⇒ gives 1 (2 ∷ []) ∷ by system 12 (eight_last ++ 0 ∷ 1 ∷ 9 ∷ []) ⇒ gives 1 (3 ∷ [])
    ∷ by system 13 (eight_first ++ 0 ∷ 1 ∷ 5 ∷ 5 ∷ []) ⇒ ok 0 ∷ by system 13 (eight_last ++ 0 ∷ 1 ∷ 6 ∷ 6 ∷ 6 ∷ []) ⇒ ok 0
    ∷ by system 12 (eight ++ 0 ∷ 1 ∷ 9 ∷ []) ⇒ gives 1 (1 ∷ [])
    ∷ by system 12 (eight_first ++ 0 ∷ 1 ∷ 9 ∷ []) ⇒ gives 2 (5 ∷ 5 ∷ []) ∷ by system 12 (eight_last ++ 0 ∷ 1 ∷ 9 ∷ []) ⇒ gives 3 (6 ∷ 6 ∷ 6 ∷ [])
    ∷ by system 14 eight_first ⇒ ok 1 ∷ by system 14 eight_last ⇒ ok 1 ∷ by system 14 eight ⇒ ok 2 ∷ [])
    -- "A name of spaces only (hex 20) is blank."
    ∷ talk (puts (replicate 7 0x20 ++ 0x21 ∷ []) (1 ∷ []) ⇒ ok 1 ∷ by system 14 (replicate 7 0x20 ++ 0x21 ∷ []) ⇒ ok 1
    ∷ puts low8 (1 ∷ []) ⇒ ok 1 ∷ by system 11 (low8 ++ 9 ∷ []) ⇒ gives 1 (1 ∷ []) ∷ by system 12 (low8 ++ 0 ∷ 1 ∷ 9 ∷ []) ⇒ gives 1 (1 ∷ [])
    ∷ by system 13 (low8 ++ 0 ∷ 1 ∷ 9 ∷ []) ⇒ ok 0 ∷ by system 14 low8 ⇒ ok 1 ∷ [])
    -- "read at: queue 8, place 2, room 1", "rewrite: queue 8, place 2, rest item": both bytes of the place
    ∷ talk (appends 1 (1 ∷ 2 ∷ 3 ∷ []) ⇒ ok 1 ∷ appends 1 (4 ∷ 5 ∷ []) ⇒ ok 2 ∷ item_of 1 0x0001 2 ⇒ ans 4 0 0 3 (1 ∷ 2 ∷ [])
    ∷ item_of 1 0x0100 2 ⇒ plain 3 ∷ item_of 1 0x0101 2 ⇒ plain 3 ∷ item_of 1 0x0002 2 ⇒ gives 2 (4 ∷ 5 ∷ [])
    ∷ rewrites 1 0x0100 (2 ∷ 9 ∷ []) ⇒ plain 3 ∷ rewrites 1 0x0101 (2 ∷ 9 ∷ []) ⇒ plain 3 ∷ rewrites 1 0x0002 (2 ∷ 9 ∷ 8 ∷ []) ⇒ ok 0
    ∷ item_of 1 1 9 ⇒ gives 3 (1 ∷ 2 ∷ 3 ∷ []) ∷ item_of 1 2 9 ⇒ gives 3 (2 ∷ 9 ∷ 8 ∷ []) ∷ [])
    -- "moves the pointer there; 3 if none is left. The item stays stored. Read at gives the item and sets the pointer to it."
    ∷ talk (appends 1 (1 ∷ []) ⇒ ok 1 ∷ appends 1 (2 ∷ []) ⇒ ok 2 ∷ appends 1 (3 ∷ []) ⇒ ok 3 ∷ next_of 1 9 ⇒ gives 1 (1 ∷ [])
    ∷ item_of 1 3 9 ⇒ gives 1 (3 ∷ []) ∷ next_of 1 9 ⇒ plain 3 ∷ item_of 1 4 9 ⇒ plain 3 ∷ item_of 1 0 9 ⇒ plain 3 ∷ next_of 1 9 ⇒ plain 3
    ∷ appends 1 (4 ∷ []) ⇒ ok 4 ∷ next_of 1 9 ⇒ gives 1 (4 ∷ []) ∷ item_of 1 1 9 ⇒ gives 1 (1 ∷ []) ∷ item_of 1 9 9 ⇒ plain 3
    ∷ next_of 1 9 ⇒ gives 1 (2 ∷ []) ∷ [])
    -- "Rewrite keeps the pointer."
    ∷ talk (appends 1 (1 ∷ []) ⇒ ok 1 ∷ appends 1 (2 ∷ []) ⇒ ok 2 ∷ appends 1 (3 ∷ []) ⇒ ok 3 ∷ next_of 1 9 ⇒ gives 1 (1 ∷ [])
    ∷ rewrites 1 3 (7 ∷ 7 ∷ []) ⇒ ok 0 ∷ rewrites 1 2 (8 ∷ 8 ∷ 8 ∷ []) ⇒ ok 0
    ∷ next_of 1 9 ⇒ gives 3 (8 ∷ 8 ∷ 8 ∷ []) ∷ next_of 1 9 ⇒ gives 2 (7 ∷ 7 ∷ []) ∷ next_of 1 9 ⇒ plain 3 ∷ item_of 1 1 9 ⇒ gives 1 (1 ∷ []) ∷ [])
    -- "Taking a cut-off read as no read": "The pointer moves all the same."
    ∷ talk (appends 1 (1 ∷ 1 ∷ []) ⇒ ok 1 ∷ appends 1 (2 ∷ 2 ∷ []) ⇒ ok 2 ∷ appends 1 (3 ∷ 4 ∷ []) ⇒ ok 3 ∷ next_of 1 1 ⇒ ans 4 0 0 2 (1 ∷ [])
    ∷ next_of 1 2 ⇒ gives 2 (2 ∷ 2 ∷ []) ∷ item_of 1 1 0 ⇒ ans 4 0 0 2 [] ∷ next_of 1 1 ⇒ ans 4 0 0 2 (2 ∷ [])
    ∷ next_of 1 3 ⇒ gives 2 (3 ∷ 4 ∷ []) ∷ next_of 1 1 ⇒ plain 3 ∷ [])
    -- "a pointer, 0 at first", one to each queue
    ∷ talk (appends 1 (1 ∷ []) ⇒ ok 1 ∷ appends 2 (2 ∷ []) ⇒ ok 1 ∷ appends 1 (3 ∷ []) ⇒ ok 2 ∷ appends 2 (4 ∷ []) ⇒ ok 2
    ∷ next_of 1 9 ⇒ gives 1 (1 ∷ []) ∷ next_of 2 9 ⇒ gives 1 (2 ∷ []) ∷ next_of 1 9 ⇒ gives 1 (3 ∷ []) ∷ next_of 2 9 ⇒ gives 1 (4 ∷ []) ∷ [])
    -- "No space: the name is unknown and 16 queues exist (no queue is made)"; "4 .., 1"; a queue deleted serves again
    ∷ talk (map (λ k. appends k (7 ∷ []) ⇒ ok 1) (count 16 1) ++ appends 17 (7 ∷ []) ⇒ plain 1 ∷ next_of 17 9 ⇒ plain 2 ∷ appends 17 [] ⇒ plain 4
    ∷ appends 17 (replicate 65 7) ⇒ plain 4 ∷ by system 10 (system ++ 7 ∷ []) ⇒ plain 10
    ∷ appends 16 (7 ∷ []) ⇒ ok 2 ∷ deletes 9 ⇒ ok 1 ∷ appends 17 (7 ∷ []) ⇒ ok 1 ∷ appends 9 (7 ∷ []) ⇒ plain 1 ∷ [])
    -- "or 128 items are in use", over all queues; "In the second case an unknown name is made an empty queue"; "Delete frees every place."
    ∷ talk (map (λ n. appends 1 (7 ∷ []) ⇒ ok n) (count 100 1) ++ map (λ n. appends 2 (8 ∷ []) ⇒ ok n) (count 28 1) ++ appends 2 (8 ∷ []) ⇒ plain 1
    ∷ appends 3 [] ⇒ plain 4 ∷ next_of 3 9 ⇒ plain 2
    ∷ appends 3 (9 ∷ []) ⇒ plain 1 ∷ next_of 3 9 ⇒ plain 3 ∷ appends 3 (9 ∷ []) ⇒ plain 1 ∷ deletes 3 ⇒ ok 0 ∷ next_of 3 9 ⇒ plain 2
    ∷ rewrites 2 28 (5 ∷ 5 ∷ []) ⇒ ok 0 ∷ item_of 2 28 9 ⇒ gives 2 (5 ∷ 5 ∷ [])
    ∷ deletes 2 ⇒ ok 28 ∷ appends 1 (7 ∷ []) ⇒ ok 101 ∷ deletes 1 ⇒ ok 101 ∷ appends 3 (9 ∷ []) ⇒ ok 1 ∷ [])
    -- "item length | 1..64 bytes", each byte kept
    ∷ talk (appends 1 (count 64 100) ⇒ ok 1 ∷ next_of 1 64 ⇒ gives 64 (count 64 100) ∷ item_of 1 1 63 ⇒ ans 4 0 0 64 (count 63 100)
    ∷ item_of 1 1 255 ⇒ gives 64 (count 64 100) ∷ [])
    -- "append: queue 8, rest item", and so on, without "(sys)" or "(task)": a task may, and finds the queues of others
    ∷ talk (tasked ++ by (long 5) 10 (long 1 ++ 7 ∷ []) ⇒ ok 1 ∷ appends 1 (8 ∷ []) ⇒ ok 2 ∷ by (long 5) 11 (long 1 ++ 9 ∷ []) ⇒ gives 1 (7 ∷ [])
    ∷ next_of 1 9 ⇒ gives 1 (8 ∷ []) ∷ by (long 5) 12 (long 1 ++ 0 ∷ 1 ∷ 9 ∷ []) ⇒ gives 1 (7 ∷ [])
    ∷ by (long 5) 13 (long 1 ++ 0 ∷ 1 ∷ 9 ∷ []) ⇒ ok 0 ∷ by (long 5) 14 (long 1) ⇒ ok 2 ∷ [])
    ∷ []

-- ---- 15 handle, 16 ignore, 17 reset

-- what task 5 sends so that each of the conditions 1 to 10 arises: 16 queues stand, 6 and 7 are unknown, 8 is a request
abbrev pub faults : List (List ℕ)
faults =
    by (long 5) 10 (long 17 ++ 7 ∷ [])
    ∷ by (long 5) 11 (long 17 ++ 9 ∷ [])
    ∷ by (long 5) 12 (long 1 ++ 0 ∷ 9 ∷ 9 ∷ [])
    ∷ by (long 5) 10 (long 1)
    ∷ by (long 5) 6 (long 6 ++ short 9 ++ none ++ bytes_of 4 0)
    ∷ by (long 5) 6 (long 6 ++ short 1 ++ screen 9 ++ bytes_of 4 0)
    ∷ by (long 5) 6 (long 8 ++ short 1 ++ none ++ bytes_of 4 0)
    ∷ by (long 5) 7 (long 7)
    ∷ by (long 5) 8 (9 ∷ [])
    ∷ by (long 5) 14 system
    ∷ []

-- a record of the faults with each of the answers
abbrev pub each : List (List ℕ) → List Answer → List Exchange
each [] l = []
each (r ∷ rs) [] = []
each (r ∷ rs) (a ∷ l) = r ⇒ a ∷ each rs l

abbrev pub faulty : List Exchange
faulty = tasked ++ starts 8 1 9 ⇒ ok 0 ∷ map (λ k. appends k (7 ∷ []) ⇒ ok 1) (count 16 1)

-- the task reads at a place that is not there
abbrev pub astray : ℕ → List ℕ
astray request = by (long request) 12 (long 1 ++ 0 ∷ 9 ∷ 9 ∷ [])

-- task 5, and a queue with an item of 3 bytes and one of 1
abbrev pub stocked : List Exchange
stocked = tasked ++ appends 1 (1 ∷ 2 ∷ 3 ∷ []) ⇒ ok 1 ∷ appends 1 (4 ∷ []) ⇒ ok 2 ∷ []

abbrev pub handling : List Case
handling =
    -- "When condition c of 1..10 arises for a task: setting c decides"
    talk (faulty ++ map (λ c. handles 5 c (c + 500) ⇒ ok 0) (count 10 1) ++ ignores 5 0 ⇒ ok 0
    ∷ each faults (map (λ c. labelled c (c + 500)) (count 10 1)))
    -- "if unset, setting 0"
    ∷ talk (faulty ++ handles 5 0 0x0102 ⇒ ok 0 ∷ each faults (map (λ c. labelled c 0x0102) (count 10 1)))
    -- "setting c decides": ignored each, with a general label; reset each, and the general one decides
    ∷ talk (faulty ++ handles 5 0 7 ⇒ ok 0 ∷ map (λ c. ignores 5 c ⇒ ok 0) (count 10 1) ++ each faults (map plain (count 10 1))
    ++ map (λ c. resets 5 c ⇒ ok 0) (count 10 1) ++ each faults (map (λ c. labelled c 7) (count 10 1)))
    -- "if that is unset too, abend"; "Abend removes the task as finish does"
    ∷ talk (stocked ++ handles 5 0 7 ⇒ ok 0 ∷ resets 5 0 ⇒ ok 0 ∷ astray 5 ⇒ abends 3 ∷ astray 5 ⇒ plain 34 ∷ starts 5 1 0 ⇒ ok 0
    ∷ dispatches ⇒ goes 0 5 1 none ∷ astray 5 ⇒ abends 3 ∷ [])
    -- "Each task has a setting for conditions 0..10": reset of one leaves the others
    ∷ talk (stocked ++ handles 5 3 7 ⇒ ok 0 ∷ handles 5 2 8 ⇒ ok 0 ∷ resets 5 0 ⇒ ok 0 ∷ resets 5 4 ⇒ ok 0 ∷ astray 5 ⇒ labelled 3 7
    ∷ resets 5 2 ⇒ ok 0 ∷ astray 5 ⇒ labelled 3 7 ∷ resets 5 3 ⇒ ok 0 ∷ astray 5 ⇒ abends 3 ∷ [])
    -- "unset, ignore, or a label 1..65535": a later setting takes the place of an earlier
    ∷ talk (stocked ++ handles 5 3 7 ⇒ ok 0 ∷ handles 5 3 8 ⇒ ok 0 ∷ astray 5 ⇒ labelled 3 8 ∷ ignores 5 3 ⇒ ok 0 ∷ astray 5 ⇒ plain 3
    ∷ handles 5 3 9 ⇒ ok 0 ∷ astray 5 ⇒ labelled 3 9 ∷ [])
    -- "a label 1..65535", "10 .. label 0": which sets nothing
    ∷ talk (stocked ++ handles 5 3 1 ⇒ ok 0 ∷ astray 5 ⇒ labelled 3 1 ∷ handles 5 3 65535 ⇒ ok 0 ∷ astray 5 ⇒ labelled 3 65535
    ∷ handles 5 3 0x0100 ⇒ ok 0 ∷ astray 5 ⇒ labelled 3 0x0100 ∷ ignores 5 10 ⇒ ok 0 ∷ handles 5 3 0 ⇒ plain 10 ∷ astray 5 ⇒ labelled 3 0x0100 ∷ [])
    -- "10 condition above 10", for 15, 16 and 17; 0 and 10 may be set
    ∷ talk (stocked ++ handles 5 10 7 ⇒ ok 0 ∷ handles 5 11 8 ⇒ labelled 10 7 ∷ ignores 5 11 ⇒ labelled 10 7 ∷ resets 5 11 ⇒ labelled 10 7
    ∷ handles 5 255 8 ⇒ labelled 10 7 ∷ ignores 5 255 ⇒ labelled 10 7 ∷ resets 5 255 ⇒ labelled 10 7
    ∷ handles 5 11 0 ⇒ labelled 10 7 ∷ ignores 5 10 ⇒ ok 0 ∷ handles 5 11 8 ⇒ plain 10 ∷ resets 5 10 ⇒ ok 0 ∷ handles 5 0 9 ⇒ ok 0
    ∷ resets 5 11 ⇒ labelled 10 9 ∷ resets 5 0 ⇒ ok 0 ∷ ignores 5 11 ⇒ abends 10 ∷ [])
    -- "handle: condition 1, label 2 (task)", "ignore: ..", "reset: ..": the system gets 10
    ∷ talk (by system 15 (3 ∷ 0 ∷ 7 ∷ []) ⇒ plain 10 ∷ by system 16 (3 ∷ []) ⇒ plain 10 ∷ by system 17 (3 ∷ []) ⇒ plain 10 ∷ [])
    -- "Each task has a setting": of two tasks each has its own
    ∷ talk (stocked ++ defines 2 ⇒ ok 0 ∷ starts 6 2 0 ⇒ ok 0 ∷ dispatches ⇒ goes 0 6 2 none ∷ handles 5 3 7 ⇒ ok 0 ∷ handles 6 3 8 ⇒ ok 0
    ∷ astray 5 ⇒ labelled 3 7 ∷ astray 6 ⇒ labelled 3 8
    ∷ finishes 5 ⇒ ok 0 ∷ astray 6 ⇒ labelled 3 8 ∷ starts 4 1 0 ⇒ ok 0 ∷ dispatches ⇒ goes 0 4 1 none ∷ handles 4 3 9 ⇒ ok 0
    ∷ astray 4 ⇒ labelled 3 9 ∷ astray 6 ⇒ labelled 3 8
    ∷ resets 6 3 ⇒ ok 0 ∷ astray 6 ⇒ abends 3 ∷ astray 4 ⇒ labelled 3 9 ∷ [])
    -- "All are unset at dispatch": settings go with the task, at a finish
    ∷ talk (stocked ++ handles 5 3 7 ⇒ ok 0 ∷ ignores 5 0 ⇒ ok 0 ∷ finishes 5 ⇒ ok 0 ∷ starts 5 1 0 ⇒ ok 0 ∷ dispatches ⇒ goes 0 5 1 none
    ∷ astray 5 ⇒ abends 3 ∷ [])
    -- "All are unset at dispatch": and at an abend
    ∷ talk (stocked ++ handles 5 3 7 ⇒ ok 0 ∷ by (long 5) 14 system ⇒ abends 10 ∷ starts 5 1 0 ⇒ ok 0 ∷ dispatches ⇒ goes 0 5 1 none
    ∷ astray 5 ⇒ abends 3 ∷ [])
    -- "When condition c of 1..10 arises": 0 is none of them, so that a general label leaves action 0
    ∷ talk (stocked ++ handles 5 0 7 ⇒ ok 0 ∷ by (long 5) 4 [] ⇒ ok 0 ∷ by (long 5) 11 (long 1 ++ 9 ∷ []) ⇒ gives 3 (1 ∷ 2 ∷ 3 ∷ [])
    ∷ finishes 5 ⇒ ok 0 ∷ [])
    -- "For the system the action is always 0.", whatever tasks have set
    ∷ talk (stocked ++ handles 5 0 7 ⇒ ok 0 ∷ item_of 1 9 9 ⇒ plain 3 ∷ next_of 1 1 ⇒ ans 4 0 0 3 (1 ∷ []) ∷ dispatches ⇒ plain 8
    ∷ by (long 5) 4 [] ⇒ ok 0 ∷ [])
    -- "The action alters neither number nor bytes.": a cut-off read that goes to a label, and is ignored
    ∷ talk (stocked ++ handles 5 4 0x0102 ⇒ ok 0 ∷ by (long 5) 11 (long 1 ++ 2 ∷ []) ⇒ ans 4 1 0x0102 3 (1 ∷ 2 ∷ [])
    ∷ by (long 5) 12 (long 1 ++ 0 ∷ 1 ∷ 1 ∷ []) ⇒ ans 4 1 0x0102 3 (1 ∷ []) ∷ ignores 5 4 ⇒ ok 0
    ∷ by (long 5) 12 (long 1 ++ 0 ∷ 1 ∷ 1 ∷ []) ⇒ ans 4 0 0 3 (1 ∷ []) ∷ next_of 1 9 ⇒ gives 1 (4 ∷ []) ∷ [])
    -- "Abend removes the task as finish does, besides anything the command itself did.": the pointer has moved
    ∷ talk (stocked ++ by (long 5) 11 (long 1 ++ 2 ∷ []) ⇒ ans 4 2 0 3 (1 ∷ 2 ∷ []) ∷ by (long 5) 4 [] ⇒ plain 34 ∷ next_of 1 9 ⇒ gives 1 (4 ∷ [])
    ∷ [])
    -- "besides anything the command itself did": the data of the line is taken
    ∷ talk (tasked ++ begins 6 1 none 0 (7 ∷ 8 ∷ []) ⇒ ok 0 ∷ retrieves 5 1 ⇒ ans 4 2 0 2 (7 ∷ []) ∷ cancels 6 ⇒ plain 8 ∷ cancels 5 ⇒ plain 8
    ∷ dispatches ⇒ plain 8 ∷ [])
    -- "and the data counts as taken", also where the condition goes to a label
    ∷ talk (defines 1 ⇒ ok 0 ∷ begins 5 1 none 0 (7 ∷ 8 ∷ []) ⇒ ok 0 ∷ dispatches ⇒ goes 0 5 1 none ∷ handles 5 4 9 ⇒ ok 0
    ∷ retrieves 5 1 ⇒ ans 4 1 9 2 (7 ∷ []) ∷ retrieves 5 9 ⇒ abends 9 ∷ [])
    ∷ []

-- ---- 33 and 34

-- n operands of no meaning
abbrev pub sized : ℕ → ℕ → List ℕ
sized command n = by system command (replicate n 0x41)

abbrev pub forming : List Case
forming =
    -- "operands not of the size below": one byte too few
    talk (sized 1 3 ⇒ plain 33 ∷ sized 2 3 ⇒ plain 33 ∷ sized 3 3 ⇒ plain 33 ∷ sized 6 19 ⇒ plain 33 ∷ sized 7 7 ⇒ plain 33 ∷ sized 8 0 ⇒ plain 33
    ∷ sized 10 7 ⇒ plain 33 ∷ sized 11 8 ⇒ plain 33 ∷ sized 12 10 ⇒ plain 33 ∷ sized 13 9 ⇒ plain 33
    ∷ sized 14 7 ⇒ plain 33 ∷ sized 15 2 ⇒ plain 33 ∷ sized 16 0 ⇒ plain 33 ∷ sized 17 0 ⇒ plain 33 ∷ [])
    -- "operands not of the size below": one byte too many, where no rest may stand
    ∷ talk (sized 1 5 ⇒ plain 33 ∷ sized 2 5 ⇒ plain 33 ∷ sized 3 5 ⇒ plain 33 ∷ sized 4 1 ⇒ plain 33 ∷ sized 5 1 ⇒ plain 33 ∷ sized 7 9 ⇒ plain 33
    ∷ sized 8 2 ⇒ plain 33 ∷ sized 9 1 ⇒ plain 33 ∷ sized 11 10 ⇒ plain 33 ∷ sized 12 12 ⇒ plain 33
    ∷ sized 14 9 ⇒ plain 33 ∷ sized 15 4 ⇒ plain 33 ∷ sized 16 2 ⇒ plain 33 ∷ sized 17 2 ⇒ plain 33 ∷ [])
    -- "is every byte left": the rest may be none, and more than there is use for
    ∷ talk (sized 6 20 ⇒ plain 10 ∷ sized 10 8 ⇒ plain 4 ∷ sized 13 10 ⇒ plain 4 ∷ defines 1 ⇒ ok 0 ∷ begins 6 1 none 0 (replicate 300 7) ⇒ plain 4
    ∷ sized 10 300 ⇒ plain 4 ∷ sized 13 300 ⇒ plain 4 ∷ [])
    -- "command not 1..17"
    ∷ talk (sized 0 0 ⇒ plain 33 ∷ sized 18 0 ⇒ plain 33 ∷ sized 255 0 ⇒ plain 33 ∷ sized 0 4 ⇒ plain 33 ∷ sized 18 4 ⇒ plain 33
    ∷ sized 18 1 ⇒ plain 33 ∷ [])
    -- "33 .., 34 issuer neither blank nor an active task", "tried in that order"; before the 10 of the row
    ∷ talk (by (long 5) 0 [] ⇒ plain 33 ∷ by (long 5) 4 (7 ∷ []) ⇒ plain 33 ∷ by (long 5) 4 [] ⇒ plain 34 ∷ by (long 5) 1 (short 1) ⇒ plain 34
    ∷ by (long 5) 9 [] ⇒ plain 34 ∷ by (long 5) 14 system ⇒ plain 34 ∷ defines 1 ⇒ ok 0 ∷ [])
    -- "An active task is named by the request that started it.": neither a waiting nor an expired request, nor a program
    ∷ talk (defines 1 ⇒ ok 0 ∷ starts 5 1 1 ⇒ ok 0 ∷ by (long 5) 4 [] ⇒ plain 34 ∷ ticks 1 ⇒ ok 1 ∷ by (long 5) 4 [] ⇒ plain 34
    ∷ dispatches ⇒ goes 0 5 1 none ∷ by (long 5) 4 [] ⇒ ok 1 ∷ by (long 6) 4 [] ⇒ plain 34 ∷ by (none ++ short 1) 4 [] ⇒ plain 34
    ∷ finishes 5 ⇒ ok 0 ∷ by (long 5) 4 [] ⇒ plain 34 ∷ [])
    -- "8-byte issuer", "A blank issuer is the system"
    ∷ talk (defines 1 ⇒ ok 0 ∷ by system 6 (eight ++ short 1 ++ none ++ bytes_of 4 0) ⇒ ok 0 ∷ dispatches ⇒ gives 0 (eight ++ short 1 ++ none)
    ∷ by eight_first 4 [] ⇒ plain 34 ∷ by eight_last 4 [] ⇒ plain 34 ∷ by (replicate 7 0x20 ++ 0x21 ∷ []) 4 [] ⇒ plain 34
    ∷ by low8 4 [] ⇒ plain 34 ∷ by eight 4 [] ⇒ ok 0 ∷ [])
    -- "A name of spaces only (hex 20) is blank.": a task whose name is below it is a task all the same
    ∷ talk (defines 1 ⇒ ok 0 ∷ by system 6 (low8 ++ short 1 ++ none ++ bytes_of 4 0) ⇒ ok 0 ∷ dispatches ⇒ gives 0 (low8 ++ short 1 ++ none)
    ∷ by low8 4 [] ⇒ ok 0
    ∷ by low8 15 (10 ∷ 0 ∷ 7 ∷ []) ⇒ ok 0 ∷ by low8 1 (short 2) ⇒ labelled 10 7 ∷ by low8 17 (10 ∷ []) ⇒ ok 0 ∷ by low8 1 (short 2) ⇒ abends 10
    ∷ by low8 4 [] ⇒ plain 34 ∷ [])
    -- 33 and 34 "pass by the handlers, have action 0, number 0 and no bytes, and change nothing"
    ∷ talk (tasked ++ by (long 5) 4 (7 ∷ []) ⇒ plain 33 ∷ by (long 5) 0 [] ⇒ plain 33 ∷ handles 5 0 7 ⇒ ok 0 ∷ by (long 5) 9 (7 ∷ []) ⇒ plain 33
    ∷ by (long 6) 9 [] ⇒ plain 34 ∷ by (long 5) 4 [] ⇒ ok 0 ∷ [])
    ∷ []

-- ---- the table and its statement

abbrev pub guards : List Case
guards = defining ++ ticking ++ dispatching ++ starting ++ cancelling ++ retrieving ++ queueing ++ handling ++ forming

-- the buffer as it is lent, no longer than it has to be: "74 bytes per record"
abbrev pub lent : Case → List ℕ
lent c = replicate (74 * length c.answers) 0xEE

abbrev pub got : Case → Ran
got c = run cabinet c.list (lent c)

abbrev pub wanted : Case → Ran
wanted c = answered c.answers (lent c)

pub all_guards : map got guards ≡ map wanted guards
unfolding run framed answers_from step formed allowed obeyed define_program define_terminal advance ask_ticks dispatch start cancel retrieve append read_next read_at rewrite delete handle ignore reset
all_guards = refl

-- ---- the list and the answers, byte by byte

-- a list, the buffer that is lent for it, and what comes of the two
pub record Lending : Type 0 where
  pub list : List ℕ
  pub buffer : List ℕ
  pub ran : Ran

-- "A refused list runs nothing and writes nothing."
abbrev pub refused_with : ℕ → List ℕ → List ℕ → Lending
refused_with code l b = record { list = l; buffer = b; ran = record { code = code; written = 0; buffer = b } }

-- so many bytes written over the first of the buffer, and what stands behind them
abbrev pub writes : List ℕ → List ℕ → ℕ → List ℕ → List ℕ → Lending
writes l b n answer kept = record { list = l; buffer = b; ran = record { code = 0; written = n; buffer = answer ++ kept } }

-- an ask with its length field, and its answer where the register holds 0x05060708
abbrev pub an_ask : List ℕ
an_ask = 0 ∷ 9 ∷ 4 ∷ system

abbrev pub its_answer : List ℕ
its_answer = 0 ∷ 8 ∷ 0 ∷ 0 ∷ 0 ∷ 0 ∷ 5 ∷ 6 ∷ 7 ∷ 8 ∷ []

-- a header with a length, version 1 and that start value
abbrev pub header : ℕ → List ℕ
header n = 0 ∷ 0 ∷ 0 ∷ n ∷ 1 ∷ 5 ∷ 6 ∷ 7 ∷ 8 ∷ []

abbrev pub lendings : List Lending
lendings =
    -- "A list of no records is accepted and has no answers.", with a buffer of no bytes
    writes (header 5) [] 0 [] []
    ∷ writes (header 5) (1 ∷ 2 ∷ 3 ∷ []) 0 [] (1 ∷ 2 ∷ 3 ∷ [])
    -- "total outside 9..4,096"
    ∷ refused_with 35 (0 ∷ 0 ∷ 0 ∷ 4 ∷ 1 ∷ 5 ∷ 6 ∷ 7 ∷ []) (replicate 74 0xEE)
    ∷ refused_with 35 [] (replicate 74 0xEE)
    ∷ writes (0 ∷ 0 ∷ 0x0F ∷ 0xFC ∷ 1 ∷ 0 ∷ 0 ∷ 0 ∷ 0 ∷ 0x0F ∷ 0xF5 ∷ 4 ∷ system ++ replicate 4076 7) (replicate 74 0xEE) 10 (0 ∷ 8 ∷ 33
    ∷ replicate 7 0) (replicate 64 0xEE)
    ∷ refused_with 35 (0 ∷ 0 ∷ 0x0F ∷ 0xFD ∷ 1 ∷ 0 ∷ 0 ∷ 0 ∷ 0 ∷ 0x0F ∷ 0xF6 ∷ 4 ∷ system ++ replicate 4077 7) (replicate 74 0xEE)
    -- "length field not matching", in each of its four bytes
    ∷ refused_with 35 (header 4) []
    ∷ refused_with 35 (header 6) []
    ∷ refused_with 35 (0 ∷ 0 ∷ 1 ∷ 5 ∷ 1 ∷ 5 ∷ 6 ∷ 7 ∷ 8 ∷ []) []
    ∷ refused_with 35 (0 ∷ 1 ∷ 0 ∷ 5 ∷ 1 ∷ 5 ∷ 6 ∷ 7 ∷ 8 ∷ []) []
    ∷ refused_with 35 (1 ∷ 0 ∷ 0 ∷ 5 ∷ 1 ∷ 5 ∷ 6 ∷ 7 ∷ 8 ∷ []) []
    -- "version not 1"
    ∷ refused_with 35 (0 ∷ 0 ∷ 0 ∷ 5 ∷ 0 ∷ 5 ∷ 6 ∷ 7 ∷ 8 ∷ []) []
    ∷ refused_with 35 (0 ∷ 0 ∷ 0 ∷ 5 ∷ 2 ∷ 5 ∷ 6 ∷ 7 ∷ 8 ∷ []) []
    -- "a record length below 9"
    ∷ refused_with 35 (header 15 ++ 0 ∷ 8 ∷ 4 ∷ replicate 7 0x20) (replicate 74 0xEE)
    ∷ writes (header 16 ++ an_ask) (replicate 74 0xEE) 10 its_answer (replicate 64 0xEE)
    -- "or a record (its length field too) running past the end"
    ∷ refused_with 35 (header 16 ++ 0 ∷ 10 ∷ 4 ∷ system) (replicate 74 0xEE)
    ∷ refused_with 35 (header 17 ++ an_ask ++ 9 ∷ []) (replicate 148 0xEE)
    ∷ refused_with 35 (header 18 ++ an_ask ++ 0 ∷ 9 ∷ []) (replicate 148 0xEE)
    ∷ refused_with 35 (header 18 ++ an_ask ++ 0 ∷ 0 ∷ []) (replicate 148 0xEE)
    ∷ refused_with 35 (header 26 ++ an_ask ++ 0 ∷ 9 ∷ 4 ∷ replicate 7 0x20) (replicate 148 0xEE)
    -- "It is framed whole before anything runs."
    ∷ refused_with 35 (header 27 ++ an_ask ++ 0 ∷ 8 ∷ 4 ∷ system) (replicate 148 0xEE)
    -- "Then, 36 exactly if the answer buffer has fewer than 74 bytes per record.": 35 goes before it
    ∷ refused_with 36 (header 16 ++ an_ask) []
    ∷ refused_with 36 (header 16 ++ an_ask) (replicate 73 0xEE)
    ∷ refused_with 36 (header 27 ++ an_ask ++ an_ask) (replicate 147 0xEE)
    ∷ writes (header 27 ++ an_ask ++ an_ask) (replicate 148 0xEE) 20 (its_answer ++ its_answer) (replicate 128 0xEE)
    ∷ refused_with 35 (header 16 ++ 0 ∷ 10 ∷ 4 ∷ system) []
    -- "Each answer goes into the lent buffer behind the one before it; bytes past the last answer keep their values."
    ∷ writes (list_of 0xA1B2C3D4 (asks ∷ defines 1 ∷ starts 5 1 0 ∷ dispatches ∷ appends 1 (1 ∷ 2 ∷ 3 ∷ [])
    ∷ handles 5 3 0x1234 ∷ astray 5 ∷ by (long 5) 11 (long 1 ++ 2 ∷ []) ∷ []))
    (replicate 98 0xEE ++ count 200 1 ++ replicate 294 0xDD)
    98
    (0 ∷ 8 ∷ 0 ∷ 0 ∷ 0 ∷ 0 ∷ 0xA1 ∷ 0xB2 ∷ 0xC3 ∷ 0xD4
    ∷ 0 ∷ 8 ∷ 0 ∷ 0 ∷ 0 ∷ 0 ∷ 0 ∷ 0 ∷ 0 ∷ 0
    ∷ 0 ∷ 8 ∷ 0 ∷ 0 ∷ 0 ∷ 0 ∷ 0 ∷ 0 ∷ 0 ∷ 0
    ∷ 0 ∷ 24 ∷ 0 ∷ 0 ∷ 0 ∷ 0 ∷ 0 ∷ 0 ∷ 0 ∷ 0 ∷ 0x52 ∷ 0x52 ∷ 0x52 ∷ 0x52 ∷ 0x52 ∷ 0x52 ∷ 0x52 ∷ 5 ∷ 0x53 ∷ 0x50 ∷ 0x45 ∷ 1 ∷ 0x20 ∷ 0x20 ∷ 0x20 ∷ 0x20
    ∷ 0 ∷ 8 ∷ 0 ∷ 0 ∷ 0 ∷ 0 ∷ 0 ∷ 0 ∷ 0 ∷ 1
    ∷ 0 ∷ 8 ∷ 0 ∷ 0 ∷ 0 ∷ 0 ∷ 0 ∷ 0 ∷ 0 ∷ 0
    ∷ 0 ∷ 8 ∷ 3 ∷ 1 ∷ 0x12 ∷ 0x34 ∷ 0 ∷ 0 ∷ 0 ∷ 0
    ∷ 0 ∷ 10 ∷ 4 ∷ 2 ∷ 0 ∷ 0 ∷ 0 ∷ 0 ∷ 0 ∷ 3 ∷ 1 ∷ 2 ∷ [])
    (count 200 1 ++ replicate 294 0xDD)
    ∷ []

pub all_lendings : map (λ (l : Lending). run cabinet l.list l.buffer) lendings ≡ map (λ (l : Lending). l.ran) lendings
unfolding run framed answers_from step formed allowed obeyed define_program define_terminal advance ask_ticks dispatch start cancel retrieve append read_next read_at rewrite delete handle ignore reset
all_lendings = refl

-- ---- sound tables

-- names as numbers
abbrev pub program : ℕ → ℕ
program k = num_from 0 (short k)

abbrev pub terminal : ℕ → ℕ
terminal k = num_from 0 (screen k)

abbrev pub name : ℕ → ℕ
name k = num_from 0 (long k)

abbrev pub no_terminal : ℕ
no_terminal = num_from 0 none

abbrev pub request : ℕ → ℕ → ℕ → Phase → List ℕ → Request
request n p t phase b = record { name = n; program = p; terminal = t; phase = phase; bytes = b }

abbrev pub queue : ℕ → ℕ → List (List ℕ) → Queue
queue n p l = record { name = n; pointer = p; items = l }

abbrev pub settings : ℕ → List Setting → Task
settings n l = record { name = n; settings = l }

-- tables at clock 1000, and at another
abbrev pub tables_at : ℕ → List ℕ → List ℕ → List Request → List Queue → List Task → State
tables_at c ps ts rs qs l = record { interval = record { clock = c; programs = ps; terminals = ts; requests = rs }; queues = qs; tasks = l }

-- programs 1 to 4, terminals 1 to 3
abbrev pub programs : List ℕ
programs = map program (count 4 1)

abbrev pub terminals : List ℕ
terminals = map terminal (count 3 1)

-- a task at terminal 1 whose data is taken, one without data; an expired request; the two bounds of the waiting; a task with data
abbrev pub r1 : Request
r1 = request (name 1) (program 1) (terminal 1) (Active true) (1 ∷ [])

abbrev pub r2 : Request
r2 = request (name 2) (program 2) no_terminal (Active false) []

abbrev pub r3 : Request
r3 = request (name 3) (program 1) (terminal 1) Expired (2 ∷ [])

abbrev pub r4 : Request
r4 = request (name 4) (program 1) no_terminal (Waiting 1001) []

abbrev pub r5 : Request
r5 = request (name 5) (program 3) (terminal 2) (Waiting 360_000_000) (replicate 64 255)

abbrev pub r6 : Request
r6 = request (name 6) (program 4) no_terminal (Active false) (3 ∷ [])

-- requests in every phase: tasks 1, 2 and 6 are active, program 3 is idle, terminals 2 and 3 are not held
abbrev pub requests : List Request
requests = r1 ∷ r2 ∷ r3 ∷ r4 ∷ r5 ∷ r6 ∷ []

abbrev pub q1 : Queue
q1 = queue (name 1) 2 ((1 ∷ []) ∷ replicate 64 255 ∷ [])

abbrev pub q2 : Queue
q2 = queue (name 2) 0 []

abbrev pub q3 : Queue
q3 = queue (name 3) 0 ((1 ∷ []) ∷ [])

abbrev pub queues : List Queue
queues = q1 ∷ q2 ∷ q3 ∷ []

abbrev pub some_set : List Setting
some_set = Ignore ∷ Label 1 ∷ Label 65535 ∷ replicate 8 Unset

abbrev pub tasks : List Task
tasks = settings (name 1) some_set ∷ settings (name 2) (replicate 11 Unset) ∷ []

-- those tables with other programs, terminals, queues or tasks, and with one more request
abbrev pub programmed : List ℕ → State
programmed l = tables_at 1000 l terminals requests queues tasks

abbrev pub screened : List ℕ → State
screened l = tables_at 1000 programs l requests queues tasks

abbrev pub queued : List Queue → State
queued l = tables_at 1000 programs terminals requests l tasks

abbrev pub settled : List Task → State
settled l = tables_at 1000 programs terminals requests queues l

abbrev pub besides : Request → State
besides q = tables_at 1000 programs terminals (requests ++ q ∷ []) queues tasks

pub record Verdict : Type 0 where
  pub tables : State
  pub verdict : Bool

infix 70 ◌is◌
abbrev pub ◌is◌ : State → Bool → Verdict
s is b = record { tables = s; verdict = b }

abbrev pub verdicts : List Verdict
verdicts =
    -- "fresh, empty tables for any register value"
    empty_at 0 is true
    ∷ empty_at 0xFFFFFFFF is true
    -- tables that a list leads to
    ∷ state_after cabinet (empty_at 0xFFFFFFF0) (map (λ (x : Exchange). x.sent)
    (served ++ begins 6 1 none 0 (9 ∷ []) ⇒ ok 0 ∷ begins 7 2 none 20 [] ⇒ ok 0 ∷ begins 8 2 none 359_999_000 [] ⇒ ok 0 ∷ ticks 20 ⇒ ok 1 ∷ retrieves 5 1 ⇒ ans 4 0 0 3 (1 ∷ [])
    ∷ handles 5 10 65535 ⇒ ok 0 ∷ dispatches ⇒ goes 1 7 2 none ∷ appends 1 (1 ∷ []) ⇒ ok 1 ∷ next_of 1 0 ⇒ ans 4 0 0 1 [] ∷ [])) is true
    -- tables in which each rule is met at its bounds
    ∷ programmed programs is true
    -- "the bounds hold": programs
    ∷ programmed (map program (count 16 1)) is true
    ∷ programmed (map program (count 17 1)) is false
    -- terminals
    ∷ screened (map terminal (count 8 1)) is true
    ∷ screened (map terminal (count 9 1)) is false
    -- requests
    ∷ tables_at 1000 programs terminals (requests ++ map (λ k. request (name k) (program 1) no_terminal Expired []) (count 26 7)) queues tasks is true
    ∷ tables_at 1000 programs terminals (requests ++ map (λ k. request (name k) (program 1) no_terminal Expired []) (count 27 7)) queues tasks is false
    -- queues
    ∷ queued (map (λ k. queue (name k) 0 []) (count 16 1)) is true
    ∷ queued (map (λ k. queue (name k) 0 []) (count 17 1)) is false
    -- items over all queues
    ∷ queued (queue (name 1) 0 (replicate 100 (1 ∷ [])) ∷ queue (name 2) 0 (replicate 28 (1 ∷ [])) ∷ []) is true
    ∷ queued (queue (name 1) 0 (replicate 100 (1 ∷ [])) ∷ queue (name 2) 0 (replicate 29 (1 ∷ [])) ∷ []) is false
    -- item length, and bytes
    ∷ queued (queue (name 1) 0 ([] ∷ []) ∷ []) is false
    ∷ queued (queue (name 1) 0 ((1 ∷ []) ∷ replicate 65 1 ∷ []) ∷ []) is false
    ∷ queued (queue (name 1) 0 ((1 ∷ 256 ∷ []) ∷ []) ∷ []) is false
    -- start data
    ∷ besides (request (name 7) (program 1) no_terminal Expired (replicate 64 1)) is true
    ∷ besides (request (name 7) (program 1) no_terminal Expired (replicate 65 1)) is false
    ∷ besides (request (name 7) (program 1) no_terminal Expired (256 ∷ [])) is false
    -- names of 8 bytes and of 4
    ∷ besides (request (num_from 0 (replicate 8 255)) (program 1) no_terminal Expired []) is true
    ∷ besides (request (num_from 0 (1 ∷ replicate 8 0)) (program 1) no_terminal Expired []) is false
    ∷ queued (queue (num_from 0 (replicate 8 255)) 0 [] ∷ []) is true
    ∷ queued (queue (num_from 0 (1 ∷ replicate 8 0)) 0 [] ∷ []) is false
    ∷ programmed (num_from 0 (replicate 4 255) ∷ programs) is true
    ∷ programmed (num_from 0 (1 ∷ replicate 4 0) ∷ programs) is false
    ∷ screened (num_from 0 (replicate 4 255) ∷ terminals) is true
    ∷ screened (num_from 0 (1 ∷ replicate 4 0) ∷ terminals) is false
    -- "names are unique within their kind (programs, terminals, requests, queues)": a program and a terminal may share one, and so may a request and a queue
    ∷ programmed (programs ++ program 1 ∷ []) is false
    ∷ screened (terminals ++ terminal 1 ∷ []) is false
    ∷ besides (request (name 3) (program 1) no_terminal Expired []) is false
    ∷ queued (queues ++ queue (name 3) 0 [] ∷ []) is false
    ∷ screened (terminals ++ program 1 ∷ []) is true
    -- "and not blank"
    ∷ programmed (0 ∷ programs) is true
    ∷ programmed (num_from 0 none ∷ programs) is false
    ∷ screened (num_from 0 none ∷ terminals) is false
    ∷ besides (request (num_from 0 system) (program 1) no_terminal Expired []) is false
    ∷ queued (queue (num_from 0 system) 0 [] ∷ []) is false
    -- "pointers lie in 0..count"
    ∷ queued (queue (name 1) 2 ((1 ∷ []) ∷ (2 ∷ []) ∷ []) ∷ []) is true
    ∷ queued (queue (name 1) 3 ((1 ∷ []) ∷ (2 ∷ []) ∷ []) ∷ []) is false
    ∷ queued (queue (name 1) 1 [] ∷ []) is false
    -- "every waiting request has its ticks to go in the range above", 1..359,999,000
    ∷ besides (request (name 7) (program 1) no_terminal (Waiting 1001) []) is true
    ∷ besides (request (name 7) (program 1) no_terminal (Waiting 1000) []) is false
    ∷ besides (request (name 7) (program 1) no_terminal (Waiting 360_000_000) []) is true
    ∷ besides (request (name 7) (program 1) no_terminal (Waiting 360_000_001) []) is false
    -- "every request names a known program and a known terminal or none"
    ∷ besides (request (name 7) (program 9) no_terminal Expired []) is false
    ∷ besides (request (name 7) (program 1) (terminal 9) Expired []) is false
    ∷ besides (request (name 7) (program 1) (terminal 3) Expired []) is true
    -- "no two active tasks share a program, or a terminal other than none"
    ∷ besides (request (name 7) (program 3) no_terminal (Active false) []) is true
    ∷ besides (request (name 7) (program 1) no_terminal (Active false) []) is false
    ∷ besides (request (name 7) (program 3) (terminal 2) (Active false) []) is true
    ∷ besides (request (name 7) (program 3) (terminal 1) (Active false) []) is false
    ∷ tables_at 1000 programs (0 ∷ []) (request (name 1) (program 1) 0 (Active false) [] ∷ request (name 2) (program 2) 0 (Active false) []
    ∷ []) [] [] is false
    -- "handler labels are not 0"; "a label 1..65535"
    ∷ settled (settings (name 1) (Label 0 ∷ replicate 10 Unset) ∷ []) is false
    ∷ settled (settings (name 1) (replicate 10 Unset ++ Label 65536 ∷ []) ∷ []) is false
    -- "Each task has a setting for conditions 0..10"
    ∷ settled (settings (name 1) (replicate 10 Unset) ∷ []) is false
    ∷ settled (settings (name 1) (replicate 12 Unset) ∷ []) is false
    ∷ settled (settings (name 1) some_set ∷ settings (name 1) some_set ∷ []) is false
    -- "only an active task has settings"
    ∷ settled (settings (name 3) some_set ∷ []) is false
    ∷ settled (settings (name 4) some_set ∷ []) is false
    ∷ settled (settings (name 9) some_set ∷ []) is false
    -- "data of 0 bytes is never marked taken"
    ∷ besides (request (name 7) (program 3) no_terminal (Active true) (1 ∷ [])) is true
    ∷ besides (request (name 7) (program 3) no_terminal (Active true) []) is false
    ∷ []

pub all_verdicts : map (λ (v : Verdict). sound cabinet v.tables) verdicts ≡ map (λ (v : Verdict). v.verdict) verdicts
unfolding sound sound_interval sound_queues sound_tasks state_after step formed allowed obeyed define_program define_terminal advance ask_ticks dispatch start cancel retrieve append read_next read_at rewrite delete handle ignore reset
all_verdicts = refl

-- ---- one record and a set of tables

-- the tables, the record, its answer, and the tables after it
pub record Single : Type 0 where
  pub tables : State
  pub sent : List ℕ
  pub answer : Answer
  pub after : State

abbrev pub single : State → List ℕ → Answer → State → Single
single s r a after = record { tables = s; sent = r; answer = a; after = after }

-- where no table is changed
abbrev pub keeps : State → List ℕ → Answer → Single
keeps s r a = single s r a s

-- tables that keep each rule, and tables that break one
abbrev pub whole : State
whole = programmed programs

abbrev pub broken : State
broken = besides (request (name 7) (program 1) no_terminal (Waiting 1000) [])

-- the sound tables with other requests
abbrev pub requested : List Request → State
requested l = tables_at 1000 programs terminals l queues tasks

-- so many queues, and 128 items in them
abbrev pub stored : ℕ → List Queue
stored n = queue (name 99) 0 (replicate 128 (1 ∷ [])) ∷ map (λ k. queue (name k) 0 []) (count (n - 1) 1)

abbrev pub singles : List Single
singles =
    -- "A record of fewer than 9 bytes is malformed there."
    keeps (empty_at 7) [] (plain 33)
    ∷ keeps (empty_at 7) (4 ∷ replicate 7 0x20) (plain 33)
    ∷ keeps (empty_at 7) asks (ok 7)
    -- "fresh, empty tables for any register value"; the number of an ask is the register, however often it has wrapped
    ∷ keeps (empty_at 0xFFFFFFFF) asks (ok 0xFFFFFFFF)
    ∷ keeps (empty_at 0x100000007) asks (ok 7)
    ∷ keeps (empty_at 0x2FFFFFFFF) asks (ok 0xFFFFFFFF)
    -- "32 tables unsound, 33 malformed .., 34 issuer neither blank nor an active task", "tried in that order", "and change nothing"
    ∷ keeps broken [] (plain 32)
    ∷ keeps broken (by (long 9) 0 []) (plain 32)
    ∷ keeps broken (by (long 9) 4 []) (plain 32)
    ∷ keeps broken asks (plain 32)
    ∷ keeps broken (ticks 5) (plain 32)
    ∷ keeps whole (by (long 9) 0 []) (plain 33)
    ∷ keeps whole (by (long 9) 4 []) (plain 34)
    ∷ keeps whole (by (long 1) 4 (7 ∷ [])) (plain 33)
    -- sound tables are not refused, and an ask changes nothing
    ∷ keeps whole asks (ok 1000)
    ∷ keeps whole (by (long 1) 4 []) (ok 1000)
    -- a condition changes nothing where no rule says so
    ∷ keeps whole dispatches (ans 8 0 0 1 [])
    ∷ keeps whole (defines 1) (plain 7)
    ∷ keeps whole (starts 1 1 0) (plain 7)
    ∷ keeps whole (cancels 1) (plain 8)
    ∷ keeps whole (next_of 1 9) (plain 3)
    -- "Handling and ignoring change no other table."
    ∷ keeps whole (by (long 1) 7 (long 9)) (plain 8)
    ∷ keeps whole (by (long 1) 11 (long 9 ++ 9 ∷ [])) (labelled 2 65535)
    -- each command changes its own table, and that only: 1 and 2 define a name
    ∷ single whole (defines 9) (ok 0) (programmed (programs ++ program 9 ∷ []))
    ∷ single whole (screens 9) (ok 0) (screened (terminals ++ terminal 9 ∷ []))
    -- 3: "A request is expired as soon as due is at most the clock", and goes to the end of the line
    ∷ single whole (ticks 1) (ok 1)
    (tables_at 1001 programs terminals (r1 ∷ r2 ∷ r3 ∷ r5 ∷ r6 ∷ request (name 4) (program 1) no_terminal Expired [] ∷ []) queues tasks)
    ∷ single whole (ticks 359_999_000) (ok 2)
    (tables_at 360_000_000 programs terminals (r1 ∷ r2 ∷ r3 ∷ r6 ∷ request (name 4) (program 1) no_terminal Expired []
    ∷ request (name 5) (program 3) (terminal 2) Expired (replicate 64 255) ∷ []) queues tasks)
    -- 5: the first that may start is active, its data not taken
    ∷ single (besides (request (name 7) (program 3) (terminal 3) Expired [])) dispatches (goes 1 7 3 (screen 3))
    (besides (request (name 7) (program 3) (terminal 3) (Active false) []))
    ∷ single (besides (request (name 7) (program 3) no_terminal Expired (7 ∷ []))) dispatches (goes 1 7 3 none)
    (besides (request (name 7) (program 3) no_terminal (Active false) (7 ∷ [])))
    -- 6: "Due is clock plus interval. .. interval 0 expires at once."
    ∷ single whole (begins 7 3 (screen 2) 5 (8 ∷ [])) (ok 0) (besides (request (name 7) (program 3) (terminal 2) (Waiting 1005) (8 ∷ [])))
    ∷ single whole (begins 7 3 none 0 []) (ok 0) (besides (request (name 7) (program 3) no_terminal Expired []))
    -- 7: "Cancel removes a waiting or expired request."
    ∷ single whole (cancels 3) (ok 0) (requested (r1 ∷ r2 ∷ r4 ∷ r5 ∷ r6 ∷ []))
    ∷ single whole (cancels 4) (ok 0) (requested (r1 ∷ r2 ∷ r3 ∷ r5 ∷ r6 ∷ []))
    -- 8: own data is taken; of another's "that request is removed"; "the data counts as taken"
    ∷ single whole (retrieves 6 9) (gives 1 (3 ∷ [])) (requested (r1 ∷ r2 ∷ r3 ∷ r4 ∷ r5 ∷ request (name 6) (program 4) no_terminal (Active true) (3 ∷ []) ∷ []))
    ∷ single whole (retrieves 1 9) (gives 1 (2 ∷ [])) (requested (r1 ∷ r2 ∷ r4 ∷ r5 ∷ r6 ∷ []))
    ∷ single whole (retrieves 1 0) (ans 4 0 0 1 []) (requested (r1 ∷ r2 ∷ r4 ∷ r5 ∷ r6 ∷ []))
    ∷ single (besides (request (name 7) (program 2) no_terminal Expired (7 ∷ []))) (retrieves 2 9) (gives 1 (7 ∷ [])) whole
    -- 9: "Finish removes the task, its settings and its data."
    ∷ single whole (finishes 1) (ok 0) (tables_at 1000 programs terminals (r2 ∷ r3 ∷ r4 ∷ r5 ∷ r6 ∷ []) queues (settings (name 2) (replicate 11 Unset) ∷ []))
    -- 10: "Append adds at the end and makes an unknown queue."
    ∷ single whole (appends 3 (7 ∷ [])) (ok 2) (queued (q1 ∷ q2 ∷ queue (name 3) 0 ((1 ∷ []) ∷ (7 ∷ []) ∷ []) ∷ []))
    ∷ single whole (appends 4 (7 ∷ [])) (ok 1) (queued (queues ++ queue (name 4) 0 ((7 ∷ []) ∷ []) ∷ []))
    -- 11 and 12: "moves the pointer there", "sets the pointer to it"
    ∷ single whole (next_of 3 9) (gives 1 (1 ∷ [])) (queued (q1 ∷ q2 ∷ queue (name 3) 1 ((1 ∷ []) ∷ []) ∷ []))
    ∷ single whole (item_of 1 1 0) (ans 4 0 0 1 []) (queued (queue (name 1) 1 ((1 ∷ []) ∷ replicate 64 255 ∷ []) ∷ q2 ∷ q3 ∷ []))
    -- 13: "Rewrite keeps the pointer."
    ∷ single whole (rewrites 1 1 (8 ∷ 8 ∷ [])) (ok 0) (queued (queue (name 1) 2 ((8 ∷ 8 ∷ []) ∷ replicate 64 255 ∷ []) ∷ q2 ∷ q3 ∷ []))
    -- 14: "Delete frees every place."
    ∷ single whole (deletes 1) (ok 2) (queued (q2 ∷ q3 ∷ []))
    ∷ single whole (deletes 2) (ok 0) (queued (q1 ∷ q3 ∷ []))
    -- 15, 16 and 17: "unset, ignore, or a label"
    ∷ single whole (handles 2 10 7) (ok 0) (settled (settings (name 1) some_set ∷ settings (name 2) (replicate 10 Unset ++ Label 7 ∷ []) ∷ []))
    ∷ single whole (ignores 1 1) (ok 0) (settled (settings (name 1) (Ignore ∷ Ignore ∷ Label 65535 ∷ replicate 8 Unset) ∷ settings (name 2) (replicate 11 Unset) ∷ []))
    ∷ single whole (resets 1 2) (ok 0) (settled (settings (name 1) (Ignore ∷ Label 1 ∷ replicate 9 Unset) ∷ settings (name 2) (replicate 11 Unset) ∷ []))
    ∷ single whole (handles 6 0 9) (ok 0) (settled (tasks ++ settings (name 6) (Label 9 ∷ replicate 10 Unset) ∷ []))
    -- "Abend removes the task as finish does, besides anything the command itself did."
    ∷ single whole (by (long 2) 12 (long 1 ++ 0 ∷ 1 ∷ 0 ∷ [])) (ans 4 2 0 1 [])
    (tables_at 1000 programs terminals (r1 ∷ r3 ∷ r4 ∷ r5 ∷ r6 ∷ []) (queue (name 1) 1 ((1 ∷ []) ∷ replicate 64 255 ∷ []) ∷ q2 ∷ q3 ∷ []) (settings (name 1) some_set ∷ []))
    -- "or 128 items are in use": "an unknown name is made an empty queue", also by a task that abends
    ∷ single (queued (stored 15)) (appends 98 (7 ∷ [])) (plain 1) (queued (stored 15 ++ queue (name 98) 0 [] ∷ []))
    ∷ single (queued (stored 15)) (by (long 2) 10 (long 98 ++ 7 ∷ [])) (abends 1)
    (tables_at 1000 programs terminals (r1 ∷ r3 ∷ r4 ∷ r5 ∷ r6 ∷ []) (stored 15 ++ queue (name 98) 0 [] ∷ []) (settings (name 1) some_set ∷ []))
    ∷ keeps (queued (stored 15)) (appends 1 (7 ∷ [])) (plain 1)
    -- "Where both hold, the first decides."
    ∷ keeps (queued (stored 16)) (appends 98 (7 ∷ [])) (plain 1)
    ∷ keeps (queued (stored 16)) (appends 1 (7 ∷ [])) (plain 1)
    ∷ keeps (queued (stored 16)) (appends 98 []) (plain 4)
    ∷ []

pub all_singles : map (λ (x : Single). step_any cabinet x.tables x.sent) singles ≡ map (λ (x : Single). record { answer = x.answer; state = x.after }) singles
unfolding step_any sound sound_interval sound_queues sound_tasks step formed allowed obeyed define_program define_terminal advance ask_ticks dispatch start cancel retrieve append read_next read_at rewrite delete handle ignore reset
all_singles = refl

-- ---- a list of records and the tables after it

-- "Each request is in one phase: waiting with its due tick, expired, or active (data taken or not)."; the clock of the model does not wrap
pub all_records : state_after cabinet (empty_at 0xFFFFFFF0) (map (λ (x : Exchange). x.sent)
    (served ++ begins 6 1 none 0 (9 ∷ []) ⇒ ok 0 ∷ begins 7 2 none 9 [] ⇒ ok 0 ∷ begins 8 2 none 20 [] ⇒ ok 0 ∷ begins 9 2 none 20 (4 ∷ []) ⇒ ok 0
    ∷ ticks 19 ⇒ ok 1
    ∷ ticks 1 ⇒ ok 2 ∷ begins 10 1 none 3 [] ⇒ ok 0 ∷ retrieves 5 1 ⇒ ans 4 0 0 3 (1 ∷ []) ∷ handles 5 10 65535 ⇒ ok 0 ∷ dispatches ⇒ goes 1 7 2 none
    ∷ appends 1 (1 ∷ []) ⇒ ok 1 ∷ appends 2 (2 ∷ []) ⇒ ok 1 ∷ next_of 1 0 ⇒ ans 4 0 0 1 [] ∷ rewrites 2 1 (3 ∷ []) ⇒ ok 0 ∷ []))
    ≡ tables_at 0x100000004 (program 1 ∷ program 2 ∷ []) (terminal 1 ∷ terminal 2 ∷ [])
    (request (name 5) (program 1) (terminal 1) (Active true) (1 ∷ 2 ∷ 3 ∷ [])
    ∷ request (name 6) (program 1) no_terminal Expired (9 ∷ [])
    ∷ request (name 7) (program 2) no_terminal (Active false) []
    ∷ request (name 8) (program 2) no_terminal Expired []
    ∷ request (name 9) (program 2) no_terminal Expired (4 ∷ [])
    ∷ request (name 10) (program 1) no_terminal (Waiting 0x100000007) []
    ∷ [])
    (queue (name 1) 1 ((1 ∷ []) ∷ []) ∷ queue (name 2) 0 ((3 ∷ []) ∷ []) ∷ [])
    (settings (name 5) (Ignore ∷ replicate 9 Unset ++ Label 65535 ∷ []) ∷ [])
unfolding state_after step formed allowed obeyed define_program define_terminal advance ask_ticks dispatch start cancel retrieve append read_next read_at rewrite delete handle ignore reset
all_records = refl
