-- What `columns::unique` keeps: none of the rows passed has in the column what another has.
use Rattle.std.proofs.Common.{◌≡◌, true, take, map}
use Rattle.base.specs.Lists.{once}
use Rattle.request_rows.specs.Rows.{row_of}
use Rattle.request_sound.specs.Sound.{column}
use Rattle.request_sound.proofs.columns.unique.Given as goal

abbrev pub invariant-loop-i : goal.invariant-loop-i
invariant-loop-i l = once (column l.which (take l.i (map row_of l.rows))) ≡ true
