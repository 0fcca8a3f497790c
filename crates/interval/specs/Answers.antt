-- What the operations come to, under the names that the code gives them.
use Rattle.std.specs.Prelude.{ℕ, Option, Result}
use Rattle.interval.specs.declared.answers.After.{After}
use Rattle.interval.specs.declared.answers.Data.{Data}
use Rattle.interval.specs.declared.answers.DefineError.{DefineError}
use Rattle.interval.specs.declared.answers.StartError.{StartError}
use Rattle.interval.specs.declared.answers.CancelError.{CancelError}
use Rattle.interval.specs.declared.advance.Invalid.{Invalid}

abbrev pub Defined : Type 0
Defined = After (Result (Unit {0}) DefineError)

abbrev pub Started : Type 0
Started = After (Result (Unit {0}) StartError)

abbrev pub Cancelled : Type 0
Cancelled = After (Result (Unit {0}) CancelError)

abbrev pub Advanced : Type 0
Advanced = After (Result ℕ Invalid)

abbrev pub Retrieved : Type 0
Retrieved = After (Option Data)
