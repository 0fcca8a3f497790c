-- `text::put_word` meets its contract: the digits that are put are the number's (specs/Laws/Text.antt). Assumes nothing.
use Rattle.std.proofs.Common.{arith, ◌∙◌}
use Rattle.print.specs.Laws.Lines.{word_put}
use Rattle.print.proofs.Digits.{fewest}
use Rattle.print.proofs.text.put_word.Goals as goal

pub returns : goal.returns
returns c =
    let few = fewest 19 c.args.n (omega arith) (omega arith) in
    word_put _ _ _ c.args.n few.count _ (omega arith) few.holds (c.as_bytes.ensures.value ∙ c.format.ensures.text ∙ few.digits) c.put_all-end.ensures
    c.put.ensures
