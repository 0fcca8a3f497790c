-- What the type of the queues tells of every value that a program holds is what `Typed` says: from the relation of a parameter or of a call's
-- result. Assumes nothing.
use mathlib.Core.List.{List}
use mir.Val.{Val}
use borrow.Author.Rules.{rules}
use Rattle.base.specs.Laws.Told.{Told}
use Rattle.queues.specs.declared.Queues.{Queues}
use Rattle.queues.specs.Laws.Typed.{Typed, word, byte}
use Rattle.queues.specs.contracts.Queues as queues

pub told_typed : (q : Queues) (vs : List Val) → Told queues.the_field q vs → Typed q
told_typed q vs s = search (rules, word, byte)
