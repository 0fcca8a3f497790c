-- Document 01, "Examples to prove": P1 to P10 as one table under one statement, which the checker computes.
use Rattle.std.specs.Prelude.{ℕ, ◌+◌, ◌≡◌, refl, List, [], ◌∷◌, ◌++◌, map, length, replicate}
use Rattle.base.specs.Bytes.{bytes_of}
use Rattle.model.specs.Limits.{cabinet}
use Rattle.model.specs.Queues.{append, read_next, read_at, rewrite, delete}
use Rattle.model.specs.Interval.{define_program, define_terminal, advance, ask_ticks, dispatch, start, cancel, retrieve}
use Rattle.model.specs.Handlers.{handle, ignore, reset}
use Rattle.model.specs.Commands.{Answer, plain, formed, allowed, obeyed, step}
use Rattle.model.specs.Lists.{framed, answers_from, Ran, answered, run}

-- ---- how a record is written

abbrev pub system : List ℕ
system = replicate 8 0x20

abbrev pub none : List ℕ
none = replicate 4 0x20

-- a name of 8 bytes, and one of 4
abbrev pub long : ℕ → List ℕ
long k = replicate 7 0x52 ++ (k ∷ [])

abbrev pub short : ℕ → List ℕ
short k = 0x53 ∷ 0x50 ∷ 0x45 ∷ k ∷ []

abbrev pub by : List ℕ → ℕ → List ℕ → List ℕ
by who command operands = command ∷ who ++ operands

abbrev pub defines : ℕ → List ℕ
defines k = by system 1 (short k)

abbrev pub ticks : ℕ → List ℕ
ticks n = by system 3 (bytes_of 4 n)

abbrev pub asks : List ℕ
asks = by system 4 []

abbrev pub dispatches : List ℕ
dispatches = by system 5 []

-- a start by the system at no terminal, without data
abbrev pub starts : ℕ → ℕ → ℕ → List ℕ
starts request program interval = by system 6 (long request ++ short program ++ none ++ bytes_of 4 interval)

abbrev pub appends : ℕ → List ℕ → List ℕ
appends queue item = by system 10 (long queue ++ item)

abbrev pub next_of : ℕ → ℕ → List ℕ
next_of queue room = by system 11 (long queue ++ (room ∷ []))

abbrev pub item_of : ℕ → ℕ → ℕ → List ℕ
item_of queue place room = by system 12 (long queue ++ bytes_of 2 place ++ (room ∷ []))

-- ---- how a list and an answer are written

abbrev pub laid : List (List ℕ) → List ℕ
laid [] = []
laid (r ∷ rs) = bytes_of 2 (length r) ++ r ++ laid rs

abbrev pub list_of : ℕ → List (List ℕ) → List ℕ
list_of value rs = bytes_of 4 (5 + length (laid rs)) ++ (1 ∷ bytes_of 4 value) ++ laid rs

-- condition, action, label, number, bytes
abbrev pub ans : ℕ → ℕ → ℕ → ℕ → List ℕ → Answer
ans c a l n b = record { condition = c; action = a; label = l; number = n; bytes = b }

-- condition 0 with a number, and with bytes besides
abbrev pub ok : ℕ → Answer
ok n = ans 0 0 0 n []

abbrev pub gives : ℕ → List ℕ → Answer
gives n b = ans 0 0 0 n b

pub record Case : Type 0 where
  pub list : List ℕ
  pub answers : List Answer

abbrev pub case : List (List ℕ) → List Answer → Case
case rs a = record { list = list_of 0 rs; answers = a }

-- ---- the examples

-- P1: the bytes as document 01 prints them
abbrev pub p1 : Case
p1 = record {
  list = 0x00 ∷ 0x00 ∷ 0x00 ∷ 0x5c ∷ 0x01 ∷ 0xff ∷ 0xff ∷ 0xff ∷ 0xfa
      ∷ 0x00 ∷ 0x0d ∷ 0x01 ∷ 0x20 ∷ 0x20 ∷ 0x20 ∷ 0x20 ∷ 0x20 ∷ 0x20 ∷ 0x20 ∷ 0x20 ∷ 0x53 ∷ 0x50 ∷ 0x45 ∷ 0x44
      ∷ 0x00 ∷ 0x1d ∷ 0x06 ∷ 0x20 ∷ 0x20 ∷ 0x20 ∷ 0x20 ∷ 0x20 ∷ 0x20 ∷ 0x20 ∷ 0x20 ∷ 0x52 ∷ 0x30 ∷ 0x30 ∷ 0x30 ∷ 0x30 ∷ 0x30 ∷ 0x30 ∷ 0x31
      ∷ 0x53 ∷ 0x50 ∷ 0x45 ∷ 0x44 ∷ 0x20 ∷ 0x20 ∷ 0x20 ∷ 0x20 ∷ 0x00 ∷ 0x00 ∷ 0x00 ∷ 0x0a
      ∷ 0x00 ∷ 0x0d ∷ 0x03 ∷ 0x20 ∷ 0x20 ∷ 0x20 ∷ 0x20 ∷ 0x20 ∷ 0x20 ∷ 0x20 ∷ 0x20 ∷ 0x00 ∷ 0x00 ∷ 0x00 ∷ 0x09
      ∷ 0x00 ∷ 0x0d ∷ 0x03 ∷ 0x20 ∷ 0x20 ∷ 0x20 ∷ 0x20 ∷ 0x20 ∷ 0x20 ∷ 0x20 ∷ 0x20 ∷ 0x00 ∷ 0x00 ∷ 0x00 ∷ 0x01
      ∷ 0x00 ∷ 0x09 ∷ 0x04 ∷ 0x20 ∷ 0x20 ∷ 0x20 ∷ 0x20 ∷ 0x20 ∷ 0x20 ∷ 0x20 ∷ 0x20 ∷ [];
  answers = ok 0 ∷ ok 0 ∷ ok 0 ∷ ok 1 ∷ ok 4 ∷ [];
}

-- "P2 interval 359,999,000 accepted, 359,999,001 gets 10."
abbrev pub p2 : Case
p2 = case (defines 1 ∷ starts 1 1 359_999_000 ∷ starts 2 1 359_999_001 ∷ []) (ok 0 ∷ ok 0 ∷ plain 10 ∷ [])

-- "P3 advance 1,000,000,000 accepted, one more gets 10."
abbrev pub p3 : Case
p3 = case (ticks 1_000_000_000 ∷ ticks 1_000_000_001 ∷ asks ∷ []) (ok 0 ∷ plain 10 ∷ ok 1_000_000_000 ∷ [])

-- "P4 item of 64 bytes accepted, 65 and 0 get 4."
abbrev pub p4 : Case
p4 = case (appends 1 (replicate 64 7) ∷ appends 1 (replicate 65 7) ∷ appends 1 [] ∷ []) (ok 1 ∷ plain 4 ∷ plain 4 ∷ [])

-- "P5 place 0 and place count+1 get 3."
abbrev pub p5 : Case
p5 = case (appends 1 (7 ∷ []) ∷ item_of 1 0 9 ∷ item_of 1 2 9 ∷ []) (ok 1 ∷ plain 3 ∷ plain 3 ∷ [])

-- "P6 in a queue of two, read next after the last gets 3; after a read at 1 it gives item 2."
abbrev pub p6 : Case
p6 = case (appends 1 (7 ∷ []) ∷ appends 1 (8 ∷ 9 ∷ []) ∷ next_of 1 9 ∷ next_of 1 9 ∷ next_of 1 9 ∷ item_of 1 1 9 ∷ next_of 1 9 ∷ [])
    (ok 1 ∷ ok 2 ∷ gives 1 (7 ∷ []) ∷ gives 2 (8 ∷ 9 ∷ []) ∷ plain 3 ∷ gives 1 (7 ∷ []) ∷ gives 2 (8 ∷ 9 ∷ []) ∷ [])

-- "P7 room 0 on a 1-byte item: 4, number 1, no bytes, pointer moved."
abbrev pub p7 : Case
p7 = case (appends 1 (7 ∷ []) ∷ next_of 1 0 ∷ next_of 1 9 ∷ []) (ok 1 ∷ ans 4 0 0 1 [] ∷ plain 3 ∷ [])

-- "P8 two starts due at the same tick dispatch in order of acceptance." The first accepted has the later name.
abbrev pub p8 : Case
p8 = case (defines 1 ∷ defines 2 ∷ starts 5 1 3 ∷ starts 4 2 3 ∷ ticks 3 ∷ dispatches ∷ dispatches ∷ [])
    (ok 0 ∷ ok 0 ∷ ok 0 ∷ ok 0 ∷ ok 2 ∷ gives 0 (long 5 ++ short 1 ++ none) ∷ gives 0 (long 4 ++ short 2 ++ none) ∷ [])

-- a task that is running, and a queue of one item
abbrev pub tasked : List (List ℕ)
tasked = defines 1 ∷ starts 5 1 0 ∷ dispatches ∷ appends 1 (7 ∷ []) ∷ []

abbrev pub tasked_answers : List Answer
tasked_answers = ok 0 ∷ ok 0 ∷ gives 0 (long 5 ++ short 1 ++ none) ∷ ok 1 ∷ []

-- the task reads at a place that is not there
abbrev pub astray : List ℕ
astray = by (long 5) 12 (long 1 ++ (0 ∷ 9 ∷ 9 ∷ []))

-- "P9 general ignore with nothing set for 3: action 0."
abbrev pub p9 : Case
p9 = case (tasked ++ (by (long 5) 16 (0 ∷ []) ∷ astray ∷ [])) (tasked_answers ++ (ok 0 ∷ plain 3 ∷ []))

-- "P10 all unset: action 2, and the task's next command gets 34."
abbrev pub p10 : Case
p10 = case (tasked ++ (astray ∷ by (long 5) 4 [] ∷ [])) (tasked_answers ++ (ans 3 2 0 0 [] ∷ plain 34 ∷ []))

abbrev pub examples : List Case
examples = p1 ∷ p2 ∷ p3 ∷ p4 ∷ p5 ∷ p6 ∷ p7 ∷ p8 ∷ p9 ∷ p10 ∷ []

-- ---- the statement

-- the buffer as it is lent
abbrev pub lent : List ℕ
lent = replicate 1000 0xee

abbrev pub got : Case → Ran
got c = run cabinet c.list lent

abbrev pub wanted : Case → Ran
wanted c = answered c.answers lent

pub all_examples : map got examples ≡ map wanted examples
unfolding run framed answers_from step formed allowed obeyed define_program define_terminal advance ask_ticks dispatch start cancel retrieve append read_next read_at rewrite delete handle ignore reset
all_examples = refl
