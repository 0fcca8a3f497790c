-- `read_next` meets its contract. Assumes nothing.
use Rattle.std.specs.Prelude.{ℕ, ◌+◌}
use Rattle.std.proofs.Common.{ap, ◌∙◌, rules}
use Rattle.queues.specs.Read.{read_in}
use Rattle.queues.specs.Laws.Typed.{Typed, word, byte}
use Rattle.queues.specs.Laws.Read.{read_next_all}
use Rattle.queues.proofs.read.read_next.Goals as goal

pub returns : goal.returns
returns c =
    let a = c.args in
    let t : Typed a.q = search (rules, word, byte) in
    let e = c.read-outcome.ensures ∙ ap (λ (p : ℕ). read_in a.q a.name (p + 1) a.room) c.pointer.ensures.is in
    let all = read_next_all a.q t a.name a.room _ e in
    record { exact = all.0; model = all.1.0; lies = all.1.1 }
