-- `Queues::sweep` meets its contract. The loop's invariant: i entries are swept, and j of them stay. Assumes nothing.
use Rattle.std.specs.Prelude.{◌≡◌, ◌-◌, ℕ, length, take}
use Rattle.std.proofs.Common.{refl, sym, ap, ◌∙◌, arith}
use Rattle.slots.specs.Bits.{cleared}
use Rattle.slots.specs.declared.Used.{Used}
use Rattle.slots.proofs.Laws.Slots.{held_le}
use Rattle.queues.specs.Table.{entries}
use Rattle.queues.specs.Delete.{others_than}
use Rattle.queues.proofs.SweepLaws.{swept_to, turn_hit, turn_miss, swept_none, swept_all}
use Rattle.queues.proofs.Queues.sweep.Goals as goal
use Rattle.queues.proofs.Queues.sweep.Goals.{then-self-i, else-self-i}

pub loop-i-init : goal.loop-i-init
loop-i-init c =
    let q = c.args.self.now in
    record {
      count = omega (arith, held_le q.used c.requires, c.entries-n.ensures);
      stayed = refl;
      so_far = sym (swept_none q c.args.name);
      fewer = omega arith;
    }

pub loop-i-preserved : goal.loop-i-preserved
loop-i-preserved c =
    let q = c.args.self.now in
    let l = c.loop-i in
    let v = l.invariant in
    elim c.if-self-i.branch [
      | then-self-i w ↦
          let g = turn_hit q c.args.name l.i (omega arith) (omega arith) l.self l.j v.so_far v.stayed w.if-self-i.true in
          record {
            count = v.count;
            stayed = w.j-is ∙ g.1;
            so_far =
                w.self-is
                ∙ ap (λ (x : Used). record { count = l.self.count; names = l.self.names; pointers = l.self.pointers; used = x; owner = l.self.owner; slot = l.self.slot; len = l.self.len })
                (w.clear-self.ensures.exact ∙ ap (cleared l.self.used) w.from.ensures)
                ∙ g.0;
            fewer = omega (arith, w.j-is);
          }
      | else-self-i w ↦
          let g = turn_miss q c.args.name l.i (omega arith) (omega arith) l.self l.j v.so_far v.stayed w.if-self-i.false in
          record { count = v.count; stayed = w.j-is ∙ g.1; so_far = w.self-is ∙ g.0; fewer = omega (arith, w.j-is) }
    ]

pub returns : goal.returns
returns c =
    let q = c.args.self.now in
    let l = c.loop-i in
    let v = l.invariant in
    let n : l.i ≡ entries q = omega (arith, c.loop-i-test.false, c.entries-n.ensures) in
    let all = swept_all q c.args.name l.j _ l.self (omega (arith, c.entries-n.ensures)) (v.so_far ∙ ap (swept_to q c.args.name) n)
    (v.stayed ∙ ap (λ (k : ℕ). length (others_than c.args.name (take k q.owner))) n) (ap (λ (k : ℕ). k - l.j) c.entries-n.ensures) in
    record { left = all.0; gone = all.1 }
