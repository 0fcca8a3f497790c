-- `dispatch::dispatch` meets its contract. Assumes nothing.
use Rattle.std.proofs.Common.{◌≡◌, ℕ, Some, None, List, take, sym, ap, ◌∙◌}
use Rattle.std.specs.List.{position, count_by}
use Rattle.std.proofs.Math.Seq.{take-length}
use Rattle.base.specs.Laws.Library.{position_none}
use Rattle.interval.specs.declared.Request.{Request}
use Rattle.interval.specs.Rows.{expired}
use Rattle.interval.specs.Dispatch.{ready}
use Rattle.interval.proofs.Places.{placed}
use Rattle.interval.proofs.Laws.Dispatch.{dispatch_both, dispatch_hit, dispatch_none}
use Rattle.interval.proofs.dispatch.dispatch.Goals as goal

pub returns-in_default : goal.returns-in_default
returns-in_default c =
    let rows : List Request = c.live-rows.result.now in
    let none : None ≡ position (ready rows) rows = sym c.in_default.is ∙ c.pick-at.ensures.at in
    let line : c.pick-at.result.passed ≡ count_by expired rows =
    c.pick-at.ensures.passed ∙ ap (λ (k : ℕ). count_by expired (take k rows)) (position_none (ready rows) rows (sym none))
    ∙ ap (count_by expired) (take-length rows) in
    let all = dispatch_both c.args.t _ (dispatch_none c.args.t rows c.live-rows.ensures none _ line) in
    record { exact = all.0; model = all.1 }

pub returns : goal.returns
returns c =
    let rows : List Request = c.live-rows.result.now in
    let found : Some c.in-Some.i ≡ position (ready rows) rows = sym c.in-Some.is ∙ c.pick-at.ensures.at in
    let before : c.pick-at.result.passed ≡ count_by expired (take c.in-Some.i rows) =
    c.pick-at.ensures.passed ∙ ap (λ (k : ℕ). count_by expired (take k rows)) (sym (placed (ready rows) rows c.in-Some.i found).1) in
    let all = dispatch_both c.args.t _ (dispatch_hit c.args.t rows c.live-rows.ensures c.in-Some.i found _ before _ c.in_phase.ensures) in
    record { exact = all.0; model = all.1 }
