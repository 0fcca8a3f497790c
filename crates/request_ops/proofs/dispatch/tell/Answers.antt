-- `dispatch::tell` meets its contract: the library's bytes of the three numbers are the sixteen. Assumes nothing.
use Rattle.std.proofs.Common.{ℕ, List, length, take, sym, ap, ◌∙◌}
use Rattle.base.specs.Lists.{over}
use Rattle.request_ops.specs.Laws.Laid.{laid_out_lem}
use Rattle.request_ops.proofs.dispatch.tell.Goals as goal

pub returns : goal.returns
returns c =
    let a = c.args in
    let body = a.body.now in
    let name = c.copy_from_slice.ensures.after ∙ c.to_be_bytes.ensures in
    let program = c.copy_from_slice-2.ensures.after ∙ c.to_be_bytes-2.ensures in
    let terminal = c.copy_from_slice-3.ensures.after ∙ c.to_be_bytes-3.ensures in
    rw (name, program, terminal) at c.lay.ensures.exact
    ∙ ap (λ (l : List ℕ). over (take (length body) l) body) (sym (laid_out_lem a.q.name a.q.program a.q.terminal))
