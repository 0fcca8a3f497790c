-- `dispatch::choose` meets its contract. Assumes nothing.
use Rattle.std.proofs.Common.{◌≡◌, ℕ, Option, position, length, take, sym, ap, ap₂, ◌∙◌, rules, tests}
use Rattle.std.proofs.lemmas.Iterator.{YieldsList-from_slice}
use Rattle.std.proofs.lemmas.Iterator.Search.{position_from_yields_List}
use Rattle.std.proofs.lemmas.Iterator.Consumers.{YieldsList-from_filter, count_from_yields_List}
use Rattle.std.proofs.lemmas.List.{take-map}
use Rattle.std.specs.Option.{unwrap_or}
use Rattle.request_rows.specs.Dispatch.{ready, passed_by}
use Rattle.request_rows.specs.Rows.{row_of, expired}
use Rattle.request_rows.specs.Table.{view_of, live}
use Rattle.request_rows.specs.Laws.View.{position_rows, keep_rows}
use Rattle.request_ops.proofs.dispatch.choose.Goals as goal

pub returns : goal.returns
returns c =
    let l = live (view_of c.args.requests.now) in
    let w = c.live-rows.result.now in
    let n = c.unwrap_or.result in
    let e = c.position-started in
    let started : e.result ≡ position (ready l) l =
    position_from_yields_List (λ x. ready l (row_of x)) _ _ e.result e.ensures.ran (YieldsList-from_slice w cc)
    (λ x b q k. search (rules, tests))
    ∙ position_rows w l c.live-rows.ensures.exact (ready l) in
    let passed : c.count-passed.result ≡ passed_by n l =
    count_from_yields_List c.filter.result _ c.count-passed.ensures.ran
    (YieldsList-from_filter _ (λ x. expired (row_of x)) (YieldsList-from_slice (take n w) cc) c.filter.ensures.closure (λ x b q k. search (rules, tests)))
    ∙ keep_rows (take n w) (take n l) (sym (take-map row_of n w) ∙ ap (take n) c.live-rows.ensures.exact) expired in
    let before : n ≡ unwrap_or (position (ready l) l) (length l) = c.unwrap_or.ensures ∙ ap₂ unwrap_or started c.live-rows.ensures.len in
    ap₂ (λ (i : Option ℕ) (k : ℕ). record { started = i; passed = k }) started (passed ∙ ap (λ (k : ℕ). passed_by k l) before)
