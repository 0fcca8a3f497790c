-- `set::handle` meets its contract. Assumes nothing.
use Rattle.std.proofs.Common.{arith}
use Rattle.words.specs.declared.said.Condition.TheVariants.{InvalidRequest}
use Rattle.words.specs.Laws.Said.{said_plain}
use Rattle.settings.specs.Table.{view_of}
use Rattle.settings.specs.Set.{handle_in}
use Rattle.settings.proofs.Clauses.{says_as, handle_zero, handle_some, handle_obeys}
use Rattle.settings.proofs.set.handle.Goals as goal

pub returns-then-label-eq0 : goal.returns-then-label-eq0
returns-then-label-eq0 c =
    let a = c.args in
    let t = view_of a.settings.now in
    let r = c.plain.result in
    let s = said_plain r InvalidRequest 0 t (handle_in t a.task a.condition a.label) c.plain.ensures.exact
    (handle_zero t a.task a.condition a.label c.if-label-eq0.true) in
    record { exact = s; model = handle_obeys t a.task a.condition r t a.label (omega arith) s }

pub returns : goal.returns
returns c =
    let a = c.args in
    let t = view_of a.settings.now in
    let r = c.set_to.result in
    let v = view_of c.set_to.new.settings in
    let s = says_as r v (handle_some t a.task a.condition a.label c.if-label-eq0.false) c.set_to.ensures in
    record { exact = s; model = handle_obeys t a.task a.condition r v a.label (omega arith) s }
