-- `queue_ops::rewrite::rewrite` meets its contract. Assumes nothing.
use Rattle.std.proofs.Common.{◌≡◌, ℕ, ◌*◌, length, arith, rules, refl, sym, ap, ap₂, ◌∙◌}
use Rattle.base.specs.Bytes.{stored}
use Rattle.model.specs.Plans.{done}
use Rattle.words.specs.declared.said.Condition.TheVariants.{Normal, UnknownQueue, NoSuchItem, WrongLength, InvalidRequest}
use Rattle.words.specs.Laws.Said.{said_plain}
use Rattle.queue_rows.specs.Table.{Queues, view_of, store}
use Rattle.queue_rows.specs.Rewrite.{resized, rewrite_in}
use Rattle.queue_ops.specs.Seen.{queues_in}
use Rattle.queue_ops.proofs.Answers.{plain_through}
use Rattle.queue_ops.proofs.Seeks.{Lying, slot_known, slot_unknown}
use Rattle.queue_ops.proofs.RewriteCases.{rewrite_blank, rewrite_length, rewrite_unknown, rewrite_none, rewrite_done}
use Rattle.queue_ops.proofs.rewrite.rewrite.Goals as goal
use Rattle.queue_ops.proofs.rewrite.rewrite.Goals.{In-Some}

there : (c : In-Some) → Lying (queues_in c.new-table.result) c.args.name c.args.place c.in-Some.s
there c = slot_known (queues_in c.new-table.result) c.args.name c.args.place c.slot_at.result c.slot_at.ensures.exact c.in-Some.s c.in-Some.is

pub returns-then-name-eq-BLANK : goal.returns-then-name-eq-BLANK
returns-then-name-eq-BLANK c =
    let a = c.args in
    let q = view_of a.queues.now (length a.items.now) in
    record {
      exact = said_plain c.plain.result InvalidRequest 0 (store q a.items.now) _ c.plain.ensures.exact
          (rewrite_blank q a.items.now a.name a.place a.item.now c.if-name-eq-BLANK.true);
    }

pub returns-then-wrong_length : goal.returns-then-wrong_length
returns-then-wrong_length c =
    let a = c.args in
    let q = view_of a.queues.now (length a.items.now) in
    record {
      exact = said_plain c.plain-then-wrong_length.result WrongLength 0 (store q a.items.now) _ c.plain-then-wrong_length.ensures.exact
          (rewrite_length q a.items.now a.name a.place a.item.now c.if-name-eq-BLANK.false (sym c.wrong_length.ensures ∙ c.if-wrong_length.true));
    }

pub returns-then-not-knows : goal.returns-then-not-knows
returns-then-not-knows c =
    let a = c.args in
    let t = c.new-table.result in
    record {
      exact = plain_through t t a.queues.now _ (length a.items.now) (λ (x : Queues). store x a.items.now)
          (λ (x : Queues). rewrite_in x a.items.now a.name a.place a.item.now) c.new-table.ensures.sized c.new-table.ensures.lent (search rules) refl (search rules)
          _ refl c.plain-then-not-knows.result UnknownQueue 0 c.plain-then-not-knows.ensures.exact
          (rewrite_unknown (queues_in t) a.items.now a.name a.place a.item.now c.if-name-eq-BLANK.false (sym c.wrong_length.ensures ∙ c.if-wrong_length.false)
          (sym c.knows.ensures.exact ∙ c.if-not-knows.true));
    }

pub returns-in_default : goal.returns-in_default
returns-in_default c =
    let a = c.args in
    let t = c.new-table.result in
    let q = queues_in t in
    record {
      exact = plain_through t t a.queues.now _ (length a.items.now) (λ (x : Queues). store x a.items.now)
          (λ (x : Queues). rewrite_in x a.items.now a.name a.place a.item.now) c.new-table.ensures.sized c.new-table.ensures.lent (search rules) refl (search rules)
          _ refl c.plain-in_default.result NoSuchItem 0 c.plain-in_default.ensures.exact
          (rewrite_none q a.items.now a.name a.place a.item.now c.if-name-eq-BLANK.false (sym c.wrong_length.ensures ∙ c.if-wrong_length.false)
          (sym c.knows.ensures.exact ∙ c.if-not-knows.false) (slot_unknown q a.name a.place c.slot_at.result c.slot_at.ensures.exact c.in_default.is));
    }

pub returns : goal.returns
returns c =
    let a = c.args in
    let t = c.new-table.result in
    let u = c.resize.new.self in
    let q = queues_in t in
    let f = there (goal.at.returns c).In-Some in
    let bytes : length c.store.new.d ≡ length a.items.now = search rules in
    record {
      exact = plain_through t u a.queues.now _ (length a.items.now) (λ (x : Queues). store x c.store.new.d)
          (λ (x : Queues). rewrite_in x a.items.now a.name a.place a.item.now) c.new-table.ensures.sized c.new-table.ensures.lent (search rules)
          c.resize.ensures.same.at (search rules) _ bytes c.plain-2.result Normal 0 c.plain-2.ensures.exact
          (ap₂ (λ x y. done (store x y) 0) c.resize.ensures.left c.store.ensures.exact
          ∙ ap (λ (s : ℕ). done (store (resized q s (length a.item.now)) (stored a.items.now (s * 64) a.item.now)) 0) f.at
          ∙ rewrite_done q a.items.now a.name a.place a.item.now c.if-name-eq-BLANK.false (sym c.wrong_length.ensures ∙ c.if-wrong_length.false)
          (sym c.knows.ensures.exact ∙ c.if-not-knows.false) (omega (arith, f.at, f.below)));
    }
