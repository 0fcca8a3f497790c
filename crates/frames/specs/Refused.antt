-- The codes of refused lists (document 01, "The list and the answers").
use Rattle.std.specs.Prelude.{ℕ}
use Rattle.frames.specs.declared.refused.Refused.{Refused}
use Rattle.frames.specs.declared.refused.Refused.TheVariants.{NotFramed, NoRoom}

-- "35": it is not framed; "Then, 36 exactly if the answer buffer has fewer than 74 bytes per record."
abbrev pub code_of : Refused → ℕ
code_of NotFramed = 35
code_of NoRoom = 36
