-- `columns::unique` meets its contract: none of the rows passed has in the column what one before it has. Assumes nothing.
use Rattle.std.proofs.Common.{◌≡◌, [], sym, ap, ap₂, ◌∙◌, arith, length, take, map, get_or}
use Rattle.std.proofs.Math.Seq.{take-length}
use Rattle.std.proofs.Math.ListN.{length-map, get_or-map}
use Rattle.base.specs.Lists.{once}
use Rattle.base.specs.Laws.Maps.{map_take}
use Rattle.request_rows.specs.Rows.{row_of, no_row}
use Rattle.request_sound.specs.Sound.{key_in, column, seen}
use Rattle.request_sound.specs.Laws.Columns.{once_more, once_not}
use Rattle.request_sound.proofs.columns.unique.Goals as goal
use Rattle.request_sound.proofs.columns.unique.Goals.{After-seen}

-- what was looked for, among the rows as they are read
looked : (c : After-seen) → let l = map row_of c.args.rows.now in c.seen.result ≡ seen c.args.which (get_or l c.loop-i.i no_row) (take c.loop-i.i l)
looked c =
    let r = c.args.rows.now in
    c.seen.ensures ∙ ap₂ (seen c.args.which) (sym (get_or-map row_of r c.loop-i.i [])) (map_take row_of c.loop-i.i r)

pub returns-then-seen : goal.returns-then-seen
returns-then-seen c =
    let l = map row_of c.args.rows.now in
    let n : length l ≡ length c.args.rows.now = length-map c.args.rows.now row_of in
    sym (sym (ap (λ r. once (column c.args.which r)) (take-length l))
    ∙ once_not (key_in c.args.which) l (length l) c.loop-i.i no_row (omega arith) (omega arith) (sym (looked (goal.at.returns-then-seen c).After-seen) ∙ c.if-seen.true))

pub loop-i-preserved : goal.loop-i-preserved
loop-i-preserved c =
    let l = map row_of c.args.rows.now in
    let n : length l ≡ length c.args.rows.now = length-map c.args.rows.now row_of in
    once_more (key_in c.args.which) l (length l) c.loop-i.i no_row (omega arith) (omega arith) (sym (looked (goal.at.loop-i-preserved c).After-seen) ∙ c.if-seen.false) c.loop-i.invariant

pub returns : goal.returns
returns c =
    let l = map row_of c.args.rows.now in
    let e : c.loop-i.i ≡ length l = omega (arith, length-map c.args.rows.now row_of) in
    sym c.loop-i.invariant ∙ ap (λ k. once (column c.args.which (take k l))) e ∙ ap (λ r. once (column c.args.which r)) (take-length l)
