-- What a command says and leaves, beside the outcome that its definition gives.
use Rattle.std.specs.Prelude.{ℕ, ◌≤◌, List, length, take}
use Rattle.std.proofs.Common.{lit≤}
use Rattle.base.specs.Lists.{over}
use Rattle.model.specs.Plans.{normal, no_space, unknown_queue, no_such_item, wrong_length, unknown_program, unknown_terminal, not_unique, not_found, end_of_data, invalid_request, Outcome}
use Rattle.words.specs.declared.said.Condition.{Condition}
use Rattle.words.specs.declared.said.Condition.TheVariants.{Normal, NoSpace, UnknownQueue, NoSuchItem, WrongLength, UnknownProgram, UnknownTerminal, NotUnique, NotFound, EndOfData, InvalidRequest}
use Rattle.words.specs.declared.said.Said.{Said}

abbrev pub code_of : Condition → ℕ
code_of Normal = normal
code_of NoSpace = no_space
code_of UnknownQueue = unknown_queue
code_of NoSuchItem = no_such_item
code_of WrongLength = wrong_length
code_of UnknownProgram = unknown_program
code_of UnknownTerminal = unknown_terminal
code_of NotUnique = not_unique
code_of NotFound = not_found
code_of EndOfData = end_of_data
code_of InvalidRequest = invalid_request

-- with k bytes, which are at most 64
abbrev pub saying : Condition → ℕ → (k : ℕ) → k ≤ 64 → Said
saying c n k h = record { condition = c; number = n; len = k; short = h }

-- with no bytes
abbrev pub plainly : Condition → ℕ → Said
plainly c n = saying c n 0 (lit≤ tt)

-- what is said, the tables as they are left, the body as it is left
pub record Gave (S : Type 0) : Type 0 where
  pub condition : ℕ
  pub number : ℕ
  pub len : ℕ
  pub state : S
  pub body : List ℕ

abbrev pub gave : {S : Type 0} → Said → S → List ℕ → Gave S
gave s t b = record { condition = code_of s.condition; number = s.number; len = s.len; state = t; body = b }

-- an outcome, with its bytes at the front of the body, as many as it has room for
abbrev pub handed : {S : Type 0} → Outcome S → List ℕ → Gave S
handed o b = record {
  condition = o.condition;
  number = o.number;
  len = length o.bytes;
  state = o.state;
  body = over (take (length b) o.bytes) b;
}

-- what is said, as an outcome: with the bytes and over the tables that are named
abbrev pub told : {S : Type 0} → Said → List ℕ → S → Outcome S
told r b s = record { condition = code_of r.condition; number = r.number; bytes = b; state = s }
