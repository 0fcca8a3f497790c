-- The run of a framed list over the monitor's tables, into a lent buffer (document 01, "The list and the answers").
use Rattle.std.specs.Prelude.{ℕ, ◌*◌, ◌≤◌, List, [], ◌∷◌, length, leb, Result, Ok, Err}
use Rattle.base.specs.Choice.{pick}
use Rattle.model.specs.Commands.{Answer}
use Rattle.model.specs.Lists as model
use Rattle.monitor.specs.Step.{step_on}
use Rattle.monitor.specs.Table.{fresh_tables}
use Rattle.monitor.specs.declared.Tables.{Tables}
use Rattle.frames.specs.Reading.{records_from, Filled}
use Rattle.frames.specs.Refused.{code_of}
use Rattle.frames.specs.declared.refused.Refused.{Refused}

-- the answers of the monitor, from tables, one after the other
unfoldable pub answers_on : Tables → List (List ℕ) → List Answer
answers_on t [] = []
answers_on t (r ∷ rs) = (step_on t r).answer ∷ answers_on (step_on t r).tables rs

-- the run of a framed list, into a buffer
unfoldable pub run_on : model.Framed → List ℕ → model.Ran
run_on model.bad b = model.refusal 35 b
run_on (model.good v rs) b = pick (leb (74 * length rs) (length b)) (model.answered (answers_on (fresh_tables v) rs) b) (model.refusal 36 b)

-- what is returned, and the buffer as it is left
abbrev pub reply : ℕ → ℕ → List ℕ → model.Ran
reply c w b = record { code = c; written = w; buffer = b }

abbrev pub ran : Result ℕ Refused → List ℕ → model.Ran
ran (Ok n) b = reply 0 n b
ran (Err r) b = model.refusal (code_of r) b

-- records fill the list behind the header, and the buffer has 74 bytes for each
pub record Fitting (l b : List ℕ) : Type 0 where
  pub filled : Filled l 9
  pub room : 74 * length (records_from l 9) ≤ length b
