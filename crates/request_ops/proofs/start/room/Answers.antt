-- `start::room` meets its contract: the slot that was found is the lowest that no request has. Assumes nothing.
use Rattle.std.proofs.Common.{◌≡◌, ap, ◌∙◌, arith}
use Rattle.slots.specs.Bits.{free_for}
use Rattle.request_rows.specs.Start.{slot_from, free_slot}
use Rattle.request_rows.specs.Table.{view_of, live}
use Rattle.request_ops.specs.Laws.Start.{room_there}
use Rattle.request_ops.proofs.start.room.Goals as goal

pub returns-in-Some : goal.returns-in-Some
unfolding free_slot
returns-in-Some c =
    let v = view_of c.args.requests.now in
    let e : c.in-Some.slot ≡ free_slot (live v) = ap slot_from (c.in-Some.ensures.exact ∙ ap (free_for 128) c.used.ensures) in
    let below = (c.free_slot.ensures.found.some c.in-Some.slot c.in-Some.is).below in
    record {
      exact = room_there v c.args.area.now c.in-Some.slot e c.if-slot-area.true below (omega arith);
      room = record { row = omega arith; slot = e; few = below };
    }
