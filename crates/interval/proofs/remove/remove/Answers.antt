-- `remove::remove` meets its contract. Assumes nothing.
use Rattle.interval.specs.Table.{live}
use Rattle.interval.specs.Rows.{named}
use Rattle.interval.proofs.Places.{placed, nowhere}
use Rattle.interval.proofs.Laws.Remove.{removed, nothing_removed}
use Rattle.interval.proofs.remove.remove.Goals as goal

pub returns-in-Some : goal.returns-in-Some
returns-in-Some c =
    let a = c.args in
    let p = placed (named a.name) (live a.t) c.in-Some.i c.in-Some.ensures in
    let all = removed a.t a.name c.in-Some.i c.close.new.self p.1 p.0 c.close.ensures in
    record { exact = all.0; model = all.1 }

pub returns-in_default : goal.returns-in_default
returns-in_default c =
    let a = c.args in
    let all = nothing_removed a.t a.name (nowhere (named a.name) (live a.t) c.in_default.ensures) in
    record { exact = all.0; model = all.1 }
