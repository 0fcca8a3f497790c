-- `forget::forget` meets its contract: the rows behind the one that goes move down. Assumes nothing.
use Rattle.std.proofs.Common.{◌≡◌, ◌+◌, ◌-◌, List, length, ap, ◌∙◌}
use Rattle.std.specs.List.{copy_within}
use Rattle.handlers.specs.declared.Task.{Task}
use Rattle.handlers.specs.Forget.{forget_in}
use Rattle.handlers.proofs.Typed.{tabled}
use Rattle.handlers.proofs.Coded.{forget_held, forget_none}
use Rattle.handlers.proofs.Clauses.{forget_both}
use Rattle.handlers.proofs.forget.forget.Goals as goal

pub returns-in-Some : goal.returns-in-Some
returns-in-Some c =
    let a = c.args in
    let e : tabled (length c.live-n.result.now - 1) c.copy_within.new.self ≡ forget_in a.t a.name =
    ap (tabled (length c.live-n.result.now - 1)) c.copy_within.ensures.after
    ∙ ap (λ (l : List Task). tabled (length l - 1) (copy_within a.t.rows (c.in-Some.i + 1) (length l) c.in-Some.i)) c.live-n.ensures.exact
    ∙ forget_held a.t a.name c.in-Some.i c.in-Some.ensures in
    let all = forget_both a.t a.name _ e in
    record { exact = all.0; model = all.1 }

pub returns-in_default : goal.returns-in_default
returns-in_default c =
    let a = c.args in
    let all = forget_both a.t a.name _ (forget_none a.t a.name c.in_default.ensures) in
    record { exact = all.0; model = all.1 }
