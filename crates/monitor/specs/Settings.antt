-- Commands 15 to 17: what a record asks of condition handling, and what that comes to.
use Rattle.std.specs.Prelude.{ℕ, List, [], eqb}
use Rattle.base.specs.Choice.{pick}
use Rattle.model.specs.Plans.{Outcome}
use Rattle.model.specs.Commands.{issuer, operand}
use Rattle.handlers.specs.Set.{condition_of, handle_in, ignore_in, reset_in}
use Rattle.handlers.specs.declared.Tasks.{Tasks}
use Rattle.handlers.specs.declared.answers.Handled.{Handled}
use Rattle.monitor.specs.declared.settings.Made.{Made}
use Rattle.monitor.specs.Answers.{said}

abbrev pub sets : Outcome Tasks → Made
sets o = record { tasks = o.state; said = said o }

abbrev pub sets_by : Handled → Outcome Tasks
sets_by h = record { condition = condition_of h.outcome; number = 0; bytes = []; state = h.tasks }

-- by the number of the command
unfoldable pub setting_turn : Tasks → ℕ → List ℕ → Outcome Tasks
setting_turn t n r =
    pick (eqb n 15) (sets_by (handle_in t (issuer r) (operand 0 1 r) (operand 1 2 r)))
    (pick (eqb n 16) (sets_by (ignore_in t (issuer r) (operand 0 1 r)))
    (sets_by (reset_in t (issuer r) (operand 0 1 r))))
