-- `sound::row_sound` meets its contract: each of the eleven settings is tested. Assumes nothing.
use Rattle.std.proofs.Common.{◌≡◌, length, rules, tests, ◌∙◌, sym}
use Rattle.std.proofs.lemmas.Iterator.{YieldsList-from_slice}
use Rattle.std.proofs.lemmas.Iterator.Search.{all_from_yields_List}
use Rattle.handlers.proofs.Typed.{unmapped}
use Rattle.handlers.proofs.RowSound.{labelled_cell, row_sound_all}
use Rattle.handlers.proofs.sound.row_sound.Goals as goal

pub returns : goal.returns
returns c =
    let v = c.args.v in
    let n : length v.cells ≡ 11 = search (rules, unmapped) in
    all_from_yields_List labelled_cell _ _ c.all.result c.all.ensures.ran (YieldsList-from_slice v.cells cc) (λ x b q k. search (rules, tests))
    ∙ sym (row_sound_all v n)
