-- `start::new_row` meets its contract. Assumes nothing.
use Rattle.std.proofs.Common.{◌≡◌, ℕ, List, replicate, ap, ◌∙◌, take_all}
use Rattle.base.specs.Lists.{over}
use Rattle.interval.proofs.start.new_row.Goals as goal

pub returns : goal.returns
returns c =
    let b : List ℕ = c.args.bytes.now in
    let e : c.lay.new.d ≡ over b (replicate 64 0) = c.lay.ensures.exact ∙ ap (λ (x : List ℕ). over x (replicate 64 0)) (take_all 64 b c.requires) in
    rw (c.begun.ensures, e)
