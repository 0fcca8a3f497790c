-- Document 01, "The program and its printed form": the lines of answers.
use Rattle.std.specs.Prelude.{Option, Some, None, ℕ, zero, suc, ◌+◌, Bool, ◌&&◌, List, [], ◌∷◌, ◌++◌, length, take, drop, leb, eqb}
use Rattle.base.specs.Choice.{pick}
use Rattle.base.specs.Bytes.{num}
use Rattle.model.specs.Commands.{Answer}
use Rattle.model.specs.Lists.{Ran}
use Rattle.print.specs.Text.{decimal, hex_of}

-- a number "in decimal", "one space between"
abbrev pub word : ℕ → List ℕ
word n = decimal n ++ (32 ∷ [])

-- "the bytes in lower-case hex or "-" if there are none"
abbrev pub bytes_text : List ℕ → List ℕ
bytes_text l = pick (eqb (length l) 0) (45 ∷ []) (hex_of l)

-- "place (from 1), condition, action, label and number in decimal, then the bytes"
abbrev pub line_of : ℕ → Answer → List ℕ
line_of place a =
    word place ++ word a.condition ++ word a.action ++ word a.label ++ word a.number ++ bytes_text a.bytes ++ (10 ∷ [])

-- "a line for each answer", the first of them at a place
abbrev pub lines_from : ℕ → List Answer → List ℕ
lines_from place [] = []
lines_from place (a ∷ l) = line_of place a ++ lines_from (place + 1) l

-- ---- the answers that stand one behind the other in a buffer

-- does an answer stand at its front: its length field, and as many bytes behind it, eight at least
abbrev pub is_answer : List ℕ → Bool
is_answer l = leb 10 (length l) && leb 8 (num 0 2 l) && leb (2 + num 0 2 l) (length l)

-- how many bytes it has there, its length field counted
unfoldable pub answer_size : List ℕ → Option ℕ
answer_size l = pick (is_answer l) (Some (2 + num 0 2 l)) None

-- the answer of these bytes
abbrev pub answer_of : List ℕ → Answer
answer_of l = record { condition = num 2 1 l; action = num 3 1 l; label = num 4 2 l; number = num 6 4 l; bytes = drop 10 l }

-- those that stand there up to the first that is none, f at most
abbrev pub answers_by : ℕ → List ℕ → List Answer
answers_by zero l = []
answers_by (suc f) l =
    pick (is_answer l) (answer_of (take (2 + num 0 2 l) l) ∷ answers_by f (drop (2 + num 0 2 l) l)) []

-- what is printed of them
unfoldable pub lines_of : List ℕ → List ℕ
lines_of l = lines_from 1 (answers_by (length l) l)

-- "A refused list prints the single line `0 35 0 0 0 -`."
abbrev pub refusal_line : List ℕ
refusal_line = line_of 0 (record { condition = 35; action = 0; label = 0; number = 0; bytes = [] })

-- what is printed of a run that ended so: the answers are the bytes written
abbrev pub form_of : Ran → List ℕ
form_of r = pick (eqb r.code 0) (lines_of (take r.written r.buffer)) refusal_line
