-- `lines::put_line` meets its contract: its seven parts, one behind the other (specs/Laws/Lines.antt). Assumes nothing.
use Prim.Native.Nat.{◌-◌}
use lib.ListN.{length, take, drop, length-drop}
use lib.Seq.{take_all}
use native.Mathlib.Omega.{arith}
use Rattle.print.specs.Lines.{answer_of}
use Rattle.print.specs.Laws.Lines.{line_put, word_told, bytes_told}
use Rattle.print.proofs.lines.put_line.Goals as goal

pub returns : goal.returns
returns c =
    let a = c.args in
    let left = length-drop 10 a.answer.now in
    let rest = take_all (length a.answer.now - 10) (drop 10 a.answer.now) (omega arith) in
    line_put a.place (answer_of a.answer.now) _ _ _ _ _ _ _ _ c.put_word-a.ensures
    (word_told _ _ _ _ c.number_at.ensures.exact c.put_word-b.ensures)
    (word_told _ _ _ _ c.number_at-2.ensures.exact c.put_word-c.ensures)
    (word_told _ _ _ _ c.number_at-3.ensures.exact c.put_word-d.ensures)
    (word_told _ _ _ _ c.number_at-4.ensures.exact c.put_word-e.ensures)
    (bytes_told _ _ (take (length a.answer.now - 10) (drop 10 a.answer.now)) (drop 10 a.answer.now) rest c.put_bytes-f.ensures) c.put.ensures
