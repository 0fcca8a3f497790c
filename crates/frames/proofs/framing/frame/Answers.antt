-- `framing::frame` meets its contract: by the header, then by the records.
-- Assumes nothing.
use mathlib.Core.Path.{ap, sym, ◌∙◌}
use Prim.Native.Nat.{ℕ}
use Rattle.frames.specs.Framing.{framing}
use Rattle.frames.specs.Reading.{left}
use Rattle.frames.specs.Laws.Framing.{framed_left, framed_bad}
use Rattle.frames.proofs.framing.frame.Goals as goal

pub returns-then-headed : goal.returns-then-headed
returns-then-headed c =
    let l = c.args.list.now in
    let t = sym c.headed.ensures ∙ c.if-headed.true in
    record { exact = c.scan.ensures ∙ ap (λ (k : ℕ). framing (left k l 9)) c.number_at.ensures.exact ∙ ap framing (sym (framed_left l t)) }

pub returns-else-headed : goal.returns-else-headed
returns-else-headed c = record { exact = ap framing (sym (framed_bad c.args.list.now (sym c.headed.ensures ∙ c.if-headed.false))) }
