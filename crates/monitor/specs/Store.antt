-- Commands 10 to 14: what a record asks of temporary storage, and what that comes to. `turn` is what each operation's own promise says.
use Rattle.std.specs.Prelude.{ℕ, List, eqb}
use Rattle.base.specs.Choice.{pick}
use Rattle.model.specs.Plans.{Outcome}
use Rattle.model.specs.Commands.{operand, rest}
use Rattle.queues.specs.Runs.{Ask, Append, Next, At, Rewrite, Delete, Store}
use Rattle.monitor.specs.declared.store.Stored.{Stored}
use Rattle.monitor.specs.Answers.{said}

-- what a command gives, and the bytes that it was lent as it leaves them
pub record Lent : Type 0 where
  pub stored : Stored
  pub items : List ℕ

abbrev pub lent : Stored → List ℕ → Lent
lent r b = record { stored = r; items = b }

abbrev pub stores : Outcome Store → Lent
stores o = lent (record { queues = o.state.queues; said = said o }) o.state.items

-- by the number of the command
unfoldable pub store_ask : ℕ → List ℕ → Ask
store_ask n r =
    pick (eqb n 10) (Append (operand 0 8 r) (rest 8 r))
    (pick (eqb n 11) (Next (operand 0 8 r) (operand 8 1 r))
    (pick (eqb n 12) (At (operand 0 8 r) (operand 8 2 r) (operand 10 1 r))
    (pick (eqb n 13) (Rewrite (operand 0 8 r) (operand 8 2 r) (rest 10 r))
    (Delete (operand 0 8 r)))))
