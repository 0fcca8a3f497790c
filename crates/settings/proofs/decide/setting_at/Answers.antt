-- `decide::setting_at` meets its contract: a row has eleven settings. Assumes nothing.
use Rattle.std.proofs.Common.{sym, ap, get_or, arith}
use Rattle.std.proofs.Math.ListN.{get_or-eq_default}
use Rattle.settings.specs.Rows.{read_setting, no_line}
use Rattle.settings.specs.Table.{view_of}
use Rattle.settings.specs.Laws.Lent.{row_long}
use Rattle.settings.proofs.decide.setting_at.Goals as goal

pub returns-then-condition-gt-LAST : goal.returns-then-condition-gt-LAST
unfolding read_setting
returns-then-condition-gt-LAST c =
    let a = c.args in
    let w = a.settings.now in
    let cells = (get_or (view_of w).rows a.i no_line).cells in
    let n = row_long w a.i c.requires in
    sym (ap read_setting (get_or-eq_default cells 0 {n = a.condition} (omega arith)))
