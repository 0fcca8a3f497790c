-- `define::define_program` meets its contract. Assumes nothing.
use Rattle.std.proofs.Common.{◌≡◌, length, refl, arith, rules}
use Rattle.interval.specs.Laws.Define.{programs, defined}
use Rattle.interval.proofs.define.define_program.Goals as goal

pub returns : goal.returns
returns c =
    let a = c.args in
    let o = c.enter-outcome in
    let long : length a.t.programs ≡ 16 = search rules in
    let all = defined (programs a.t a.name (omega arith)) long refl o.result o.ensures.outcome _ o.ensures.count _ o.ensures.names in
    record { exact = all.0; model = all.1 }
