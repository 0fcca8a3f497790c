-- A list over lent tables, for all that they hold (document 01, "The list and the answers").
use Rattle.std.specs.Prelude.{ℕ, ◌*◌, ◌≤◌, List, leb, length, Result, Ok, Err}
use Rattle.base.specs.Choice.{pick}
use Rattle.model.specs.Lists.{Framed, bad, good, encoded_all}
use Rattle.frames.specs.Reading.{records_from, Filled}
use Rattle.turn_rules.specs.Tables.{Tables}
use Rattle.turn_rules.specs.Turn.{Left, left_over}
use Rattle.turn_rules.specs.Standing.{fresh_of}
use Rattle.turn_rules.specs.Run.{answers_in, tables_after}
use Rattle.frames.specs.Refused.{code_of}
use Rattle.frames.specs.declared.refused.Refused.{Refused}

-- "bytes past the last answer keep their values"
unfoldable pub run_of : Tables → List (List ℕ) → List ℕ → Left
run_of t rs b = left_over (encoded_all (answers_in t rs)) (tables_after t rs) b

-- records fill the list behind the header, and the buffer has 74 bytes for each
pub record Fitting (l b : List ℕ) : Type 0 where
  pub filled : Filled l 9
  pub room : 74 * length (records_from l 9) ≤ length b

-- ---- the list

-- what is returned, and all that was lent as it is left
pub record Ended : Type 0 where
  pub code : ℕ
  pub written : ℕ
  pub tables : Tables
  pub buffer : List ℕ

-- "A refused list runs nothing and writes nothing."
abbrev pub refusal : ℕ → Tables → List ℕ → Ended
refusal c t b = record { code = c; written = 0; tables = t; buffer = b }

-- "returns 0, 35 or 36 and the number of bytes written"
abbrev pub ended : Result ℕ Refused → Tables → List ℕ → Ended
ended (Ok n) t b = record { code = 0; written = n; tables = t; buffer = b }
ended (Err r) t b = refusal (code_of r) t b

abbrev pub finished : Left → Ended
finished l = record { code = 0; written = l.count; tables = l.tables; buffer = l.buffer }

-- "35": it is not framed; "Then, 36 exactly if the answer buffer has fewer than 74 bytes per record."
unfoldable pub run_in : Framed → Tables → List ℕ → Ended
run_in bad t b = refusal 35 t b
run_in (good v rs) t b = pick (leb (74 * length rs) (length b)) (finished (run_of (fresh_of t v) rs b)) (refusal 36 t b)
