-- `names::count` meets its contract. Assumes nothing.
use Rattle.std.proofs.Common.{length-take, sym, ◌∙◌, ◌≡◌, length, arith}
use Rattle.settings.specs.Table.{view_of, live}
use Rattle.settings.specs.Laws.Standing.{length_stands}
use Rattle.settings.proofs.names.count.Goals as goal

pub returns-clause-model : goal.returns-clause-model
returns-clause-model c =
    let t = view_of c.args.settings.now in
    let e : c.min.result ≡ length (live t) = omega (arith, length-take t.count t.rows, c.word_at.ensures.exact) in
    e ∙ sym (length_stands t)
