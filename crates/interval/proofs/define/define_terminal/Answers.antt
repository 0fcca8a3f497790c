-- `define::define_terminal` meets its contract. Assumes nothing.
use Rattle.std.proofs.Common.{◌≡◌, length, refl, arith, rules}
use Rattle.interval.specs.Laws.Define.{terminals, defined}
use Rattle.interval.proofs.define.define_terminal.Goals as goal

pub returns : goal.returns
returns c =
    let a = c.args in
    let o = c.enter-outcome in
    let long : length a.t.terminals ≡ 8 = search rules in
    let all = defined (terminals a.t a.name (omega arith)) long refl o.result o.ensures.outcome _ o.ensures.count _ o.ensures.names in
    record { exact = all.0; model = all.1 }
