-- Commands 1 to 8: what a record asks of interval control, and what that comes to. `turn` is what each operation's own promise says.
use Rattle.std.specs.Prelude.{ℕ, List, eqb}
use Rattle.base.specs.Choice.{pick}
use Rattle.model.specs.Plans.{Outcome}
use Rattle.model.specs.Commands.{issuer, operand, asked}
use Rattle.interval.specs.Runs.{Ask, Program, Terminal, Advance, AskTicks, Dispatch, Start, Cancel, Retrieve}
use Rattle.interval.specs.declared.Requests.{Requests}
use Rattle.monitor.specs.declared.requests.Asked.{Asked}
use Rattle.monitor.specs.Answers.{said}

abbrev pub asks : Outcome Requests → Asked
asks o = record { requests = o.state; said = said o }

-- by the number of the command
unfoldable pub ask_of : ℕ → List ℕ → Ask
ask_of n r =
    pick (eqb n 1) (Program (operand 0 4 r))
    (pick (eqb n 2) (Terminal (operand 0 4 r))
    (pick (eqb n 3) (Advance (operand 0 4 r))
    (pick (eqb n 4) AskTicks
    (pick (eqb n 5) Dispatch
    (pick (eqb n 6) (Start (asked r))
    (pick (eqb n 7) (Cancel (operand 0 8 r))
    (Retrieve (issuer r) (operand 0 1 r))))))))
