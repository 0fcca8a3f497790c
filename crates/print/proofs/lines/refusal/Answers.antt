-- `lines::refusal` meets its contract. Assumes nothing.
use Rattle.std.proofs.Common.{◌∙◌}
use Rattle.print.specs.Lines.{refusal_line}
use Rattle.print.specs.Laws.Text.{puts_laid, laid_within}
use Rattle.print.proofs.lines.refusal.Goals as goal

pub returns : goal.returns
returns c =
    let a = c.args in
    let e = c.put_line.ensures ∙ puts_laid refusal_line a.out.now in
    record { within = laid_within _ _ refusal_line a.out.now c.put_line.auto.out e; exact = e }
