-- `columns::stands` meets its contract: what is left to look at has it exactly if all have. Assumes nothing.
use Rattle.std.proofs.Common.{ℕ, List, refl, sym, ◌∙◌, rules, tests, map}
use Rattle.std.proofs.lemmas.Iterator.{YieldsList-from_slice}
use Rattle.std.proofs.lemmas.Iterator.Search.{any_from_yields_List}
use Rattle.base.specs.Laws.Library.{any_of}
use Rattle.base.specs.Laws.Maps.{any_map}
use Rattle.request_rows.specs.Rows.{Row, row_of}
use Rattle.request_sound.specs.Sound.{key_in}
use Rattle.request_sound.specs.Laws.Columns.{is_key, has_column}
use Rattle.request_sound.proofs.columns.stands.Goals as goal

pub returns : goal.returns
returns c =
    let a = c.args in
    let held = λ (q : Row). is_key a.key (key_in a.which q) in
    let there = λ (w : List ℕ). held (row_of w) in
    let l = a.rows.now in
    any_from_yields_List there _ _ c.any.result c.any.ensures.ran (YieldsList-from_slice l cc) (λ x b q k. search (rules, tests))
    ∙ any_of there l
    ∙ sym (has_column (key_in a.which) a.key (map row_of l) ∙ any_map row_of there held (λ w. refl) l)
