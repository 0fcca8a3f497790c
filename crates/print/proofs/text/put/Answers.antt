-- `text::put` meets its contract. Assumes nothing.
use mathlib.Core.Path.{sym}
use Rattle.print.specs.Laws.Text.{put_room, put_full}
use Rattle.print.proofs.text.put.Goals as goal

pub returns-then-at-out : goal.returns-then-at-out
returns-then-at-out c = sym (put_room _ _ _ c.if-at-out.true)

pub returns-else-at-out : goal.returns-else-at-out
returns-else-at-out c = sym (put_full _ _ _ c.if-at-out.false)
