-- `queue_ops::table::Table::slot_at` meets its contract. Assumes nothing.
use Rattle.std.proofs.Common.{◌≡◌, ◌-◌, length, slice_get, Some, arith, sym, ◌∙◌}
use Rattle.queue_rows.specs.Table.{slots_named, slots_in}
use Rattle.queue_rows.specs.Laws.Columns.{owner_lies, slot_lies, len_lies}
use Rattle.queue_ops.specs.Seen.{queues_in}
use Rattle.queue_ops.proofs.Seeks.{at_zero, at_end, at_past, at_long, at_slot}
use Rattle.queue_ops.proofs.table.Table.slot_at.Goals as goal
use Rattle.queue_ops.proofs.table.Table.slot_at.Goals.{Start, After-nth, else-s-slots-via-then-s-slots+else-self-len-le64, else-s-slots-via-else-s-slots}

-- the entry of the name's that stands behind so many others of its
sought : (c : After-nth) → c.nth.result ≡ slice_get (slots_named (queues_in c.args.self.now) c.args.name) (c.args.place - 1)
sought c =
    let t = c.args.self.now in
    let index : c.in_ok-index.index ≡ c.args.place - 1 = c.in_ok-index.ensures.1 in
    cc (c.nth.ensures.exact, (owner_lies t.at t.words.now t.laid).whole t.at.slot t.laid.slot, (slot_lies t.at t.words.now t.laid).whole t.at.len t.laid.len)

-- as many lengths as slots
long : (c : Start) → let q = queues_in c.args.self.now in length q.len ≡ slots_in q
long c =
    let t = c.args.self.now in
    (len_lies t.at t.words.now t.laid).long ∙ sym (slot_lies t.at t.words.now t.laid).long

pub returns-in_err-index : goal.returns-in_err-index
returns-in_err-index c =
    let q = queues_in c.args.self.now in
    let zero : c.args.place ≡ 0 = omega (arith, c.in_err-index.ensures) in
    record {
      exact = c.from_residual.ensures ∙ at_zero q.len (slots_named q c.args.name) c.args.place (slots_in q) (long (goal.at.returns-in_err-index c).Start) zero;
    }

pub returns-in_err-s : goal.returns-in_err-s
returns-in_err-s c =
    let q = queues_in c.args.self.now in
    record {
      exact = c.from_residual-in_err-s.ensures
          ∙ at_end q.len (slots_named q c.args.name) c.args.place (slots_in q) (long (goal.at.returns-in_err-s c).Start) (λ z. omega (arith, c.in_ok-index.ensures))
          (sym (sought (goal.at.returns-in_err-s c).After-nth) ∙ c.in_err-s.was);
    }

pub returns-then-self-len-le64 : goal.returns-then-self-len-le64
returns-then-self-len-le64 c =
    let t = c.args.self.now in
    let q = queues_in t in
    record {
      exact = at_slot q.len (slots_named q c.args.name) c.args.place (slots_in q) (long (goal.at.returns-then-self-len-le64 c).Start)
          (λ z. omega (arith, c.in_ok-index.ensures)) c.in_ok-s.s (sym (sought (goal.at.returns-then-self-len-le64 c).After-nth) ∙ c.in_ok-s.was)
          (omega (arith, (slot_lies t.at t.words.now t.laid).long))
          (omega (arith, (len_lies t.at t.words.now t.laid).word c.in_ok-s.s c.if-s-slots.true));
    }

pub returns-else-s-slots : goal.returns-else-s-slots
returns-else-s-slots c =
    let t = c.args.self.now in
    let q = queues_in t in
    let some : slice_get (slots_named q c.args.name) (c.args.place - 1) ≡ Some c.in_ok-s.s =
    sym (sought (goal.at.returns-else-s-slots c).After-nth) ∙ c.in_ok-s.was in
    let here : c.args.place ≡ 0 → ⊥ = λ z. omega (arith, c.in_ok-index.ensures) in
    elim c.else-s-slots.branch [
      | else-s-slots-via-then-s-slots+else-self-len-le64 w ↦ record {
        exact = at_long q.len (slots_named q c.args.name) c.args.place (slots_in q) (long (goal.at.returns-else-s-slots c).Start) here c.in_ok-s.s some
            (omega (arith, (slot_lies t.at t.words.now t.laid).long))
            (omega (arith, (len_lies t.at t.words.now t.laid).word c.in_ok-s.s w.if-s-slots.true));
      }
      | else-s-slots-via-else-s-slots w ↦ record {
        exact = at_past q.len (slots_named q c.args.name) c.args.place (slots_in q) (long (goal.at.returns-else-s-slots c).Start) here c.in_ok-s.s some
            (omega (arith, (slot_lies t.at t.words.now t.laid).long));
      }
    ]
