-- A command list and its answers (document 01, "The list and the answers").
use Rattle.std.specs.Prelude.{ℕ, suc, zero, ◌+◌, ◌*◌, Bool, ◌&&◌, List, [], ◌∷◌, ◌++◌, length, take, drop, leb, eqb}
use Rattle.base.specs.Choice.{pick}
use Rattle.base.specs.Lists.{over}
use Rattle.base.specs.Bytes.{num, bytes_of}
use Rattle.model.specs.Limits.{Limits}
use Rattle.model.specs.State.{State, empty_at}
use Rattle.model.specs.Commands.{Answer, step}

-- ---- framing

-- a list that is refused, or the start value of the register and the records
pub data Framed : Type 0 where
  bad : Framed
  good : ℕ → List (List ℕ) → Framed

abbrev pub behind : List ℕ → Framed → Framed
behind r bad = bad
behind r (good v rs) = good v (r ∷ rs)

-- "2-byte length of what follows it, command byte, 8-byte issuer, operands": bad where "a record length below 9, or a record (its length field too) running past the end"
abbrev pub whole : List ℕ → Bool
whole l = leb 2 (length l) && leb 9 (num 0 2 l) && leb (2 + num 0 2 l) (length l)

-- "Records fill the list exactly": those that fill l, f at most
abbrev pub records : ℕ → ℕ → List ℕ → Framed
records v zero l = pick (eqb (length l) 0) (good v []) bad
records v (suc f) l =
    pick (eqb (length l) 0) (good v [])
    (pick (whole l) (behind (take (num 0 2 l) (drop 2 l)) (records v f (drop (2 + num 0 2 l) l))) bad)

-- "Header: 4-byte length of what follows it, version byte 1, 4-byte start value of the register."
abbrev pub headed : List ℕ → Bool
headed l = leb 9 (length l) && leb (length l) 4096 && eqb (num 0 4 l + 4) (length l) && eqb (num 4 1 l) 1

unfoldable pub framed : List ℕ → Framed
framed l = pick (headed l) (records (num 5 4 l) (length l) (drop 9 l)) bad

-- ---- the run

unfoldable pub answers_from : Limits → State → List (List ℕ) → List Answer
answers_from L s [] = []
answers_from L s (r ∷ rs) = (step L s r).answer ∷ answers_from L (step L s r).state rs

unfoldable pub state_after : Limits → State → List (List ℕ) → State
state_after L s [] = s
state_after L s (r ∷ rs) = state_after L (step L s r).state rs

-- "An answer: 2-byte length of what follows it, condition, action .., 2-byte label .., 4-byte number, 0..64 bytes."
abbrev pub encoded : Answer → List ℕ
encoded a = bytes_of 2 (8 + length a.bytes) ++ (a.condition ∷ a.action ∷ []) ++ bytes_of 2 a.label ++ bytes_of 4 a.number ++ a.bytes

-- "Each answer goes into the lent buffer behind the one before it"
abbrev pub encoded_all : List Answer → List ℕ
encoded_all [] = []
encoded_all (a ∷ l) = encoded a ++ encoded_all l

-- "The list entry returns 0, 35 or 36 and the number of bytes written", and leaves the buffer so
pub record Ran : Type 0 where
  pub code : ℕ
  pub written : ℕ
  pub buffer : List ℕ

-- "A refused list runs nothing and writes nothing."
abbrev pub refusal : ℕ → List ℕ → Ran
refusal c b = record { code = c; written = 0; buffer = b }

-- "bytes past the last answer keep their values"
abbrev pub answered : List Answer → List ℕ → Ran
answered l b = record { code = 0; written = length (encoded_all l); buffer = over (encoded_all l) b }

-- "Then, 36 exactly if the answer buffer has fewer than 74 bytes per record."
abbrev pub ran : Limits → List ℕ → Framed → Ran
ran L b bad = refusal 35 b
ran L b (good v rs) = pick (leb (74 * length rs) (length b)) (answered (answers_from L (empty_at v) rs) b) (refusal 36 b)

-- "A list runs from fresh, empty tables whose register holds the start value. It is framed whole before anything runs."
unfoldable pub run : Limits → List ℕ → List ℕ → Ran
run L l b = ran L b (framed l)
