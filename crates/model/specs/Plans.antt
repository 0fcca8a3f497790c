-- Conditions, and a command as a plan: its checks in order, and its effect where none of them holds.
-- One definition obeys a plan, so what is true of all commands is proved at once.
use Rattle.std.specs.Prelude.{ℕ, suc, zero, ◌≡◌, Bool, List, [], ◌∷◌, length, take, ltb}
use Rattle.base.specs.Choice.{pick}

-- "Conditions: 0 normal, 1 no space, 2 unknown queue, .."
abbrev pub normal : ℕ
normal = 0

abbrev pub no_space : ℕ
no_space = 1

abbrev pub unknown_queue : ℕ
unknown_queue = 2

abbrev pub no_such_item : ℕ
no_such_item = 3

abbrev pub wrong_length : ℕ
wrong_length = 4

abbrev pub unknown_program : ℕ
unknown_program = 5

abbrev pub unknown_terminal : ℕ
unknown_terminal = 6

abbrev pub not_unique : ℕ
not_unique = 7

abbrev pub not_found : ℕ
not_found = 8

abbrev pub end_of_data : ℕ
end_of_data = 9

-- the last that a handler can be set for
abbrev pub invalid_request : ℕ
invalid_request = 10

-- "a condition", where a test holds
pub record Check : Type 0 where
  pub when : Bool
  pub gives : ℕ

abbrev pub check : Bool → ℕ → Check
check b c = record { when = b; gives = c }

-- "Conditions in order": the first whose test holds, normal where none does
abbrev pub first_of : List Check → ℕ
first_of [] = normal
first_of (k ∷ l) = pick k.when k.gives (first_of l)

-- what a command comes to, over tables of any kind
pub record Outcome (S : Type 0) : Type 0 where
  pub condition : ℕ
  pub number : ℕ
  pub bytes : List ℕ
  pub state : S

pub record Plan (S : Type 0) : Type 0 where
  pub checks : List Check
  pub effect : Outcome S

module _ {S : Type 0} where
  -- "On any condition but 0 the number is 0 and there are no bytes"
  abbrev pub fault : S → ℕ → Outcome S
  fault s c = record { condition = c; number = 0; bytes = []; state = s }

  abbrev pub done : S → ℕ → Outcome S
  done s n = record { condition = normal; number = n; bytes = []; state = s }

  -- "A reader whose room is shorter than the item gets the first room bytes and condition 4, the number being the full length"
  abbrev pub cut : S → ℕ → List ℕ → Outcome S
  cut s room b = record { condition = pick (ltb room (length b)) wrong_length normal; number = length b; bytes = take room b; state = s }

  abbrev pub plan : List Check → Outcome S → Plan S
  plan l o = record { checks = l; effect = o }

  -- "a faulty command changes nothing": the first check that holds, or else the effect
  abbrev pub obey : S → ℕ → Outcome S → Outcome S
  obey s zero o = o
  obey s (suc c) o = fault s (suc c)

module _ {S T : Type 0} where
  -- a part's outcome, and its plan, put into tables that hold the part
  abbrev pub outcome_in : (T → S) → Outcome T → Outcome S
  outcome_in put o = record { condition = o.condition; number = o.number; bytes = o.bytes; state = put o.state }

  abbrev pub plan_in : (T → S) → Plan T → Plan S
  plan_in put p = record { checks = p.checks; effect = outcome_in put p.effect }

-- What it is for tables of another kind to follow the model: with what they stand for, an outcome over them is what the plan comes to from m;
-- and they are sound after it.
pub record Follows {S M : Type 0} (stands : S → M) (Sound : S → Type 0) (o : Outcome S) (m : M) (p : Plan M) : Type 0 where
  pub outcome : outcome_in stands o ≡ obey m (first_of p.checks) p.effect
  pub soundly : Sound o.state
