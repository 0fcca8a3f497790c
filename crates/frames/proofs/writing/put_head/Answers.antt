-- `writing::put_head` meets its contract: no room, or four stores (proofs/Puts.antt, `head_put`).
-- Assumes nothing.
use mathlib.Core.Path.{sym, ◌∙◌}
use Rattle.frames.specs.Laws.Encoded.{head_not}
use Rattle.frames.proofs.Puts.{head_put}
use Rattle.frames.proofs.writing.put_head.Goals as goal

pub returns-then-out-lt-HEAD : goal.returns-then-out-lt-HEAD
returns-then-out-lt-HEAD c = record { exact = sym (head_not _ _ _ _ _ _ c.if-out-lt-HEAD.true) }

pub returns : goal.returns
returns c =
    let a = c.args in
    let s = c.copy_from_slice.ensures.after ∙ c.to_be_bytes.ensures in
    let t = c.copy_from_slice-3.ensures.after ∙ c.to_be_bytes-2.ensures in
    let u = c.copy_from_slice-4.ensures.after ∙ c.to_be_bytes-3.ensures in
    record { exact = head_put a.condition a.action a.label a.number a.n a.out.now _ _ _ _ c.if-out-lt-HEAD.false s c.copy_from_slice-2.ensures.after t u }
