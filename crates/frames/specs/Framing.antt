-- What framing answers, by the model's definition of a framed list.
use Rattle.std.specs.Prelude.{ℕ, length, Option, None, Some}
use Rattle.model.specs.Lists.{Framed, bad, good}
use Rattle.frames.specs.declared.framing.Framed.{Framed as Accepted}

-- the number of the records, and the start value of the register
abbrev pub accepted : ℕ → ℕ → Accepted
accepted n v = record { records = n; start = v }

-- nothing for "List refused (35)"
abbrev pub framing : Framed → Option Accepted
framing bad = None
framing (good v rs) = Some (accepted (length rs) v)
