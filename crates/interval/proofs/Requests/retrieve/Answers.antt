-- `Requests::retrieve` meets its contract. Assumes nothing.
use Rattle.std.proofs.Common.{◌≡◌, false, sym, ap, ◌∙◌}
use Rattle.interval.specs.Retrieve.{task_of, has_own, retrieved}
use Rattle.interval.proofs.Laws.Retrieve.{own_row, own_none, retrieve_own, retrieve_served, retrieve_nothing}
use Rattle.interval.proofs.Requests.retrieve.Goals as goal
use Rattle.interval.proofs.Requests.retrieve.Goals.{After-server, in-Some+else-has_own, in_default}

-- q is the task's request, or none, and has no data of its own
own : (c : After-server) → (c.match-place.q ≡ task_of c.args.self.now c.args.task) × (has_own c.match-place.q ≡ false)
own c =
    let a = c.args in
    elim c.match-place.branch [
      | in-Some+else-has_own w ↦ (
        w.q-is ∙ own_row a.self.now a.task a.room w.in-Some.i w.in-Some.ensures,
        ap has_own w.q-is ∙ sym w.has_own.ensures ∙ w.if-has_own.false,
      )
      | in_default w ↦ (
        w.q-is ∙ c.no_row-q.ensures ∙ own_none a.self.now a.task a.room w.in_default.ensures,
        ap has_own (w.q-is ∙ c.no_row-q.ensures),
      )
    ]

pub returns-then-has_own-clause-exact : goal.returns-then-has_own-clause-exact
returns-then-has_own-clause-exact c =
    let a = c.args in
    rw c.given.ensures.exact
    (retrieve_own a.self.now a.task a.room c.in-Some.i c.in-Some.ensures (sym c.has_own.ensures ∙ c.if-has_own.true) _ c.in_phase.ensures)

pub returns-in_err-j-clause-exact : goal.returns-in_err-j-clause-exact
returns-in_err-j-clause-exact c =
    let a = c.args in
    let h = own (goal.at.returns-in_err-j-clause-exact c).After-server in
    ap (retrieved a.self.now) c.from_residual.ensures ∙ retrieve_nothing a.self.now a.task a.room _ h.0 h.1 c.in_err-j.ensures

pub returns-clause-exact : goal.returns-clause-exact
returns-clause-exact c =
    let a = c.args in
    let h = own (goal.at.returns-clause-exact c).After-server in
    rw c.given-2.ensures.exact (retrieve_served a.self.now a.task a.room _ h.0 h.1 c.in_ok-j.j c.in_ok-j.ensures _ c.close.ensures)
