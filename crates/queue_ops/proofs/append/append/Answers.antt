-- `queue_ops::append::append` meets its contract. Assumes nothing.
use Rattle.std.proofs.Common.{◌≡◌, ℕ, length, min, rules, refl, sym, ap, ◌∙◌}
use Rattle.slots.specs.Bits.{free_for}
use Rattle.model.specs.Plans.{Outcome}
use Rattle.words.specs.declared.said.Condition.TheVariants.{NoSpace, WrongLength, InvalidRequest}
use Rattle.words.specs.Said.{handed}
use Rattle.words.specs.Laws.Said.{said_plain}
use Rattle.queue_rows.specs.Table.{Queues, view_of, slots_in, Store, store}
use Rattle.queue_rows.specs.Append.{in_slot, append_to}
use Rattle.queue_rows.specs.Laws.Columns.{slot_lies}
use Rattle.queue_ops.specs.Seen.{queues_in}
use Rattle.queue_ops.proofs.Answers.{through, plain_through}
use Rattle.queue_ops.proofs.AppendCases.{append_blank, append_length, append_full, append_slot}
use Rattle.queue_ops.proofs.append.append.Goals as goal

pub returns-then-name-eq-BLANK : goal.returns-then-name-eq-BLANK
returns-then-name-eq-BLANK c =
    let a = c.args in
    let q = view_of a.queues.now (length a.items.now) in
    record {
      exact = said_plain c.plain.result InvalidRequest 0 (store q a.items.now) _ c.plain.ensures.exact
          (append_blank q a.items.now a.may a.name a.item.now c.if-name-eq-BLANK.true);
    }

pub returns-then-wrong_length : goal.returns-then-wrong_length
returns-then-wrong_length c =
    let a = c.args in
    let q = view_of a.queues.now (length a.items.now) in
    record {
      exact = said_plain c.plain-then-wrong_length.result WrongLength 0 (store q a.items.now) _ c.plain-then-wrong_length.ensures.exact
          (append_length q a.items.now a.may a.name a.item.now c.if-name-eq-BLANK.false (sym c.wrong_length.ensures ∙ c.if-wrong_length.true));
    }

pub returns-then-with_row : goal.returns-then-with_row
returns-then-with_row c =
    let a = c.args in
    let t = c.new-table.result in
    let p = c.with_row.new.self in
    let u = c.into_slot.new.self in
    let q = queues_in t in
    let many : p.at.slots ≡ slots_in q = ap (λ x. x.slots) c.with_row.ensures.same.at ∙ sym (slot_lies t.at t.words.now t.laid).long in
    let bytes : length c.into_slot.new.items ≡ length a.items.now = search rules in
    record {
      exact = λ b.
          through t u a.queues.now _ (length a.items.now) (λ (x : Queues). store x c.into_slot.new.items)
          (λ (x : Queues). append_to x a.items.now a.may a.name a.item.now) c.new-table.ensures.sized c.new-table.ensures.lent (search rules)
          (c.into_slot.ensures.same.at ∙ c.with_row.ensures.same.at) (search rules) _ bytes c.into_slot.result b b
          (c.into_slot.ensures.exact b
          ∙ ap (λ (k : ℕ). handed (in_slot (queues_in p) a.items.now a.name a.item.now (free_for (min a.may k) (queues_in p).used)) b) many
          ∙ ap (λ (x : Outcome Store). handed x b)
          (append_slot q a.items.now a.may a.name a.item.now c.if-name-eq-BLANK.false (sym c.wrong_length.ensures ∙ c.if-wrong_length.false) (queues_in p)
          c.with_row.result c.with_row.ensures.rowed c.if-with_row.true));
    }

pub returns : goal.returns
returns c =
    let a = c.args in
    let t = c.new-table.result in
    let p = c.with_row.new.self in
    record {
      exact = plain_through t p a.queues.now _ (length a.items.now) (λ (x : Queues). store x a.items.now)
          (λ (x : Queues). append_to x a.items.now a.may a.name a.item.now) c.new-table.ensures.sized c.new-table.ensures.lent (search rules)
          c.with_row.ensures.same.at (search rules) _ refl c.plain-2.result NoSpace 0 c.plain-2.ensures.exact
          (append_full (queues_in t) a.items.now a.may a.name a.item.now c.if-name-eq-BLANK.false (sym c.wrong_length.ensures ∙ c.if-wrong_length.false) (queues_in p)
          c.with_row.result c.with_row.ensures.rowed c.if-with_row.false);
    }
