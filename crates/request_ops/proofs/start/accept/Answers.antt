-- `start::accept` meets its contract. Assumes nothing.
use Rattle.std.proofs.lemmas.Result.{err_from_is_err_and}
use Rattle.model.specs.Plans.{fault}
use Rattle.names.specs.Names as names
use Rattle.words.specs.Said.{code_of}
use Rattle.request_rows.specs.Start.{kept}
use Rattle.request_rows.specs.Table.{view_of}
use Rattle.request_ops.specs.Laws.Start.{start_refused}
use Rattle.request_ops.specs.Start.{asks}
use Rattle.request_ops.proofs.start.accept.Goals as goal

pub returns-in_err-check : goal.returns-in_err-check
returns-in_err-check c =
    let a = c.args in
    let v = view_of a.requests.now in
    let p = err_from_is_err_and c.from_residual.result c.from_residual.ensures.1 in
    rw (p.1, p.2)
    (start_refused (names.view_of a.programs.now) (names.view_of a.terminals.now) v a.area.now (asks a.a.now)
    (fault (kept v a.area.now) (code_of c.in_err-check.field-0.0)) (c.in_err-check.ensures.exact (kept v a.area.now)))
