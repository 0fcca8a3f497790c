-- Answers as the code holds them: their bytes are the first of 64, with zeros behind them.
use Rattle.std.specs.Prelude.{ℕ, List, length, replicate}
use Rattle.base.specs.Lists.{over}
use Rattle.model.specs.Plans.{Outcome}
use Rattle.model.specs.Commands as model
use Rattle.monitor.specs.declared.answers.Answer.{Answer}
use Rattle.monitor.specs.declared.answers.Said.{Said}

abbrev pub padded : List ℕ → List ℕ
padded b = over b (replicate 64 0)

-- what an outcome says, of tables of any kind
abbrev pub saying : ℕ → ℕ → List ℕ → Said
saying c n b = record { condition = c; number = n; len = length b; bytes = padded b }

abbrev pub said : {S : Type 0} → Outcome S → Said
said o = saying o.condition o.number o.bytes

-- what is said, with what the handlers decide
abbrev pub answering : Said → ℕ → ℕ → Answer
answering s action label = record { condition = s.condition; action = action; label = label; number = s.number; len = s.len; bytes = s.bytes }

-- an answer of the model, laid out so
abbrev pub laid : model.Answer → Answer
laid a = record { condition = a.condition; action = a.action; label = a.label; number = a.number; len = length a.bytes; bytes = padded a.bytes }
