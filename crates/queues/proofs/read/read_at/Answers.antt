-- `read_at` meets its contract. Assumes nothing.
use Rattle.std.proofs.Common.{rules}
use Rattle.queues.specs.Laws.Typed.{Typed, word, byte}
use Rattle.queues.specs.Laws.Read.{read_at_all}
use Rattle.queues.proofs.read.read_at.Goals as goal

pub returns : goal.returns
returns c =
    let a = c.args in
    let t : Typed a.q = search (rules, word, byte) in
    let all = read_at_all a.q t a.name a.room _ a.place c.read-outcome.ensures in
    record { exact = all.0; model = all.1.0; lies = all.1.1 }
