-- "action (0 go on, 1 go to label, 2 abend), 2-byte label (0 unless action 1)"
use Rattle.std.specs.Prelude.{ℕ}
use Rattle.frames.specs.declared.action.Action.{Action}
use Rattle.frames.specs.declared.action.Action.TheVariants.{GoOn, GoTo, Abend}

abbrev pub code_of : Action → ℕ
code_of GoOn = 0
code_of (GoTo _) = 1
code_of Abend = 2

abbrev pub label_of : Action → ℕ
label_of GoOn = 0
label_of (GoTo l) = l
label_of Abend = 0
