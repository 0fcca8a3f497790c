-- `formed` meets its contract, by the row of the command (specs/Laws.antt, `shaped_row`).
-- Assumes nothing.
use mathlib.Core.Path.{◌∙◌}
use Rattle.records.specs.Laws.{shaped_row}
use Rattle.records.proofs.formed.Goals as goal

pub returns : goal.returns
returns c = record { exact = c.shaped.ensures.exact ∙ shaped_row _ _ c.row_of-size.ensures.exact _ c.command.ensures.exact }
