-- `step::step` meets its contract. Assumes nothing.
use mathlib.Core.Path.{sym, ◌∙◌}
use Rattle.base.specs.Laws.Told.{bytes_told}
use Rattle.monitor.proofs.Laws.Demands.{replies}
use Rattle.monitor.proofs.Told.{tables_typed}
use Rattle.monitor.proofs.Stepping.{unsound, stepped}
use Rattle.monitor.proofs.step.step.Goals as goal

pub returns-then-not-sound : goal.returns-then-not-sound
returns-then-not-sound c =
    let a = c.args in
    let all =
    replies (record { tables = a.t; typed = tables_typed a.t _ c.well_formed.0 }) a.rec.now _ (bytes_told a.rec.now c.type_inv.rec)
    (unsound a.t a.rec.now _ _ (sym c.sound.ensures.exact ∙ c.if-not-sound.true) c.plain.ensures.exact c.answered.ensures.exact)
    in
    record { exact = all.0; monitor = all.1 }

pub returns : goal.returns
returns c =
    let a = c.args in
    let all =
    replies (record { tables = a.t; typed = tables_typed a.t _ c.well_formed.0 }) a.rec.now _ (bytes_told a.rec.now c.type_inv.rec)
    (stepped a.t a.rec.now c.step_on-s.result _ (sym c.sound.ensures.exact ∙ c.if-not-sound.false) c.step_on-s.ensures.exact)
    in
    record { exact = all.0; monitor = all.1 }
