-- `queue_rows::layout` meets its contract. Assumes nothing.
use Rattle.std.proofs.Common.{◌≡◌, ◌-◌, arith}
use Rattle.queue_rows.specs.Table.{slots_for, rows_for}
use Rattle.queue_rows.proofs.layout.Goals as goal

pub returns-clause-sized : goal.returns-clause-sized
unfolding slots_for rows_for
returns-clause-sized c =
    let head : c.args.words - c.min-names.result ≡ c.args.words - 3 = omega arith in
    record { rows = cc; slots = cc; few = omega arith; lent = omega arith }
