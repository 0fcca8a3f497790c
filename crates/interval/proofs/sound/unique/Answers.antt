-- `sound::unique` meets its contract. Assumes nothing.
use Rattle.std.proofs.Common.{take, sym, ◌∙◌}
use Rattle.interval.proofs.SoundLaws.{taken_is, nothing_here, key_new, key_twice}
use Rattle.interval.proofs.sound.unique.Goals as goal
use Rattle.interval.proofs.sound.unique.Goals.{in-Some+else-is_taken, in_default}

pub returns-then-is_taken : goal.returns-then-is_taken
returns-then-is_taken c =
    let l = c.loop-i in
    let rows = c.args.rows.now in
    sym (key_twice c.args.c rows l.i c.loop-i-test.true c.in-Some.key c.in-Some.ensures
    (sym (c.is_taken.ensures ∙ taken_is c.args.c (take l.i rows) c.in-Some.key) ∙ c.if-is_taken.true))

pub loop-i-preserved : goal.loop-i-preserved
loop-i-preserved c =
    let l = c.loop-i in
    let rows = c.args.rows.now in
    elim c.match-key_of.branch [
      | in-Some+else-is_taken w ↦
          key_new c.args.c rows l.i c.loop-i-test.true w.in-Some.key w.in-Some.ensures
          (sym (w.is_taken.ensures ∙ taken_is c.args.c (take l.i rows) w.in-Some.key) ∙ w.if-is_taken.false) l.invariant
      | in_default w ↦ nothing_here c.args.c rows l.i c.loop-i-test.true w.in_default.ensures l.invariant
    ]
