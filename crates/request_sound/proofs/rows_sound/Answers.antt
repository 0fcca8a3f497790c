-- `rows_sound` meets its contract: each row is tested as it is read. Assumes nothing.
use Rattle.std.proofs.Common.{ℕ, List, ◌∙◌, refl, sym, ap, rules, tests}
use Rattle.std.proofs.lemmas.Iterator.{YieldsList-from_slice}
use Rattle.std.proofs.lemmas.Iterator.Search.{all_from_yields_List}
use Rattle.base.specs.Lists.{all}
use Rattle.base.specs.Laws.Maps.{all_map}
use Rattle.names.specs.Names as names
use Rattle.request_rows.specs.Rows.{row_of}
use Rattle.request_rows.specs.Table.{view_of}
use Rattle.request_sound.specs.Sound.{sound_in}
use Rattle.request_sound.proofs.rows_sound.Goals as goal

pub returns : goal.returns
returns c =
    let a = c.args in
    let test = sound_in (names.view_of a.programs.now) (names.view_of a.terminals.now) (view_of a.requests.now) a.slots in
    let tested = λ (w : List ℕ). test (row_of w) in
    let l = c.live.result.now in
    all_from_yields_List tested _ _ c.all.result c.all.ensures.ran (YieldsList-from_slice l cc) (λ x b q k. search (rules, tests))
    ∙ sym (all_map row_of tested test (λ w. refl) l) ∙ ap (all test) c.live.ensures.exact
