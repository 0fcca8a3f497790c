-- `Queues::nth` meets its contract: the item sought stands behind so many others from entry e on. Assumes nothing.
use Rattle.std.specs.Prelude.{◌≡◌, ◌<◌, ◌+◌, List, ℕ, length, get_or}
use Rattle.std.proofs.Common.{sym, ap, ◌∙◌, subst, arith, rules}
use Rattle.queues.specs.Table.{entries, owners, places}
use Rattle.queues.proofs.Rows.{seek, fronts_long, seek_miss, seek_past}
use Rattle.queues.proofs.Queues.nth.Goals as goal
use Rattle.queues.proofs.Queues.nth.Goals.{then-owner-name+else-before-eq0, else-owner-name}

pub loop-e-preserved : goal.loop-e-preserved
loop-e-preserved c =
    let a = c.args in
    let q = a.self.now in
    let l = c.loop-e in
    let is = c.owners-owners.ensures in
    let o : l.e < length (owners q) = subst (λ (x : List ℕ). l.e < length x) is c.loop-e-test.true in
    let s : l.e < length (places q) = omega (arith, fronts_long (entries q) q.owner q.slot (search rules)) in
    let at : get_or (owners q) l.e 0 ≡ get_or c.owners-owners.result.now l.e 0 = rw is in
    let after = seek a.name (owners q) (places q) (l.e + 1) in
    elim c.if-owner-name.branch [
      | then-owner-name+else-before-eq0 w ↦
          ap after w.before-is ∙ seek_past a.name (owners q) (places q) l.e l.before o s (at ∙ w.if-owner-name.true) w.if-before-eq0.false ∙ l.invariant
      | else-owner-name w ↦
          ap after w.before-is ∙ seek_miss a.name (owners q) (places q) l.e l.before o s (λ e. w.if-owner-name.false (sym at ∙ e)) ∙ l.invariant
    ]
