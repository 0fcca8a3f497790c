-- `lines::lines` meets its contract. The invariant: the lines put and those left are all of them (proofs/Printed.antt). Assumes nothing.
use Rattle.std.proofs.Common.{arith}
use Rattle.print.specs.Laws.Lines.{size_told}
use Rattle.print.specs.Laws.Text.{laid_within}
use Rattle.print.specs.Lines.{lines_of}
use Rattle.print.proofs.Printed.{printed_none, printed_all, printed_more}
use Rattle.print.proofs.lines.lines.Goals as goal

pub loop-n-init : goal.loop-n-init
loop-n-init c = printed_none _ _

pub split_at-requires : goal.split_at-requires
split_at-requires c = (size_told _ _ c.in-Some.ensures).3

pub put_line-end-requires : goal.put_line-end-requires
put_line-end-requires c = let t = size_told _ _ c.in-Some.ensures in let e = c.split_at.ensures.front_len in omega arith

pub loop-n-smaller : goal.loop-n-smaller
loop-n-smaller c = let t = size_told _ _ c.in-Some.ensures in let e = c.split_at.ensures.back_len in omega arith

pub loop-n-preserved : goal.loop-n-preserved
loop-n-preserved c =
    let a = c.args in
    let l = c.loop-n in
    let s = c.split_at.ensures in
    rw s.back (printed_more a.answers.now a.out.now l.out l.end l.place l.left.now l.invariant c.in-Some.n c.in-Some.ensures _ _ c.put_line-end.auto.out (rw (← s.front) c.put_line-end.ensures))

pub returns : goal.returns
returns c =
    let a = c.args in
    let l = c.loop-n in
    let all = printed_all a.answers.now a.out.now l.out l.end l.place l.left.now l.invariant c.in_default.ensures in
    record { within = laid_within l.end l.out (lines_of a.answers.now) a.out.now l.invariant.same all; exact = all }
