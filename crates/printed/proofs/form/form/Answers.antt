-- `form::form` meets its contract: the refusal's line, or the lines of what the run wrote (proofs/Formed.antt). Assumes nothing.
use Rattle.std.specs.Prelude.{ℕ, List}
use Rattle.std.proofs.Common.{ap, ◌∙◌}
use Rattle.print.specs.Text.{laid}
use Rattle.print.specs.Lines.{lines_of}
use Rattle.printed.proofs.Formed.{formed_refused, formed_lines}
use Rattle.printed.proofs.form.form.Goals as goal

pub returns-in_default : goal.returns-in_default
returns-in_default c =
    let a = c.args in
    let text = formed_refused a.list.now _ c.in_default.field-0 c.in_default.ensures.model in
    record { within = c.refusal.ensures.within; exact = c.refusal.ensures.exact ∙ ap (λ (t : List ℕ). laid t a.out.now) text }

pub returns : goal.returns
returns c =
    let a = c.args in
    let text = formed_lines a.list.now _ c.in-Ok.written c.in-Ok.ensures.model in
    record { within = c.lines.ensures.within; exact = c.lines.ensures.exact ∙ ap (λ (t : List ℕ). laid t a.out.now) (ap lines_of c.front.ensures.exact ∙ text) }
