-- `Queues::slots_sound` meets its contract: what is left of the slots drains what is left of the bits exactly if all of them drain all.
-- Assumes nothing.
use Rattle.std.specs.Prelude.{◌≡◌, ◌+◌, ◌&&◌, List, ℕ, drop}
use Rattle.std.proofs.Common.{sym, ap, ◌∙◌, subst}
use Rattle.base.specs.Lists.{all, once}
use Rattle.slots.specs.declared.Used.{Used}
use Rattle.slots.specs.Bits.{used_at, cleared}
use Rattle.slots.specs.Told.{Typed}
use Rattle.slots.proofs.Laws.Slots.{cleared_typed}
use Rattle.queues.proofs.SoundLaws.{drains, drains_is, drain_hit, drain_miss, drain_end}
use Rattle.queues.proofs.Queues.slots_sound.Goals as goal

pub loop-slot-preserved : goal.loop-slot-preserved
loop-slot-preserved c =
    let l = c.loop-slot in
    let items = c.places-slot-items.result.now in
    let e : c.clear-left.result ≡ cleared l.left c.from-s.result = c.clear-left.ensures.exact in
    record {
      typed = subst Typed (sym e) (cleared_typed l.left l.invariant.typed c.from-s.result);
      same =
          ap (λ (x : Used). drains x (drop (l.slot-index + 1) items)) e
          ∙ drain_hit items l.slot-index c.from-s.result l.left c.loop-slot-test.true c.from-s.ensures (sym c.is_used.ensures.exact ∙ c.if-not-is_used.false)
          ∙ l.invariant.same;
    }

pub returns-then-not-is_used : goal.returns-then-not-is_used
returns-then-not-is_used c =
    let u = c.args.self.now.used in
    let l = c.loop-slot in
    let items = c.places-slot-items.result.now in
    sym (drain_miss items l.slot-index c.from-s.result l.left c.loop-slot-test.true c.from-s.ensures (sym c.is_used.ensures.exact ∙ c.if-not-is_used.true))
    ∙ l.invariant.same ∙ drains_is u c.requires items
    ∙ ap (λ (k : List ℕ). once k && all (used_at u) k) c.places-slot-items.ensures

pub returns : goal.returns
returns c =
    let u = c.args.self.now.used in
    let l = c.loop-slot in
    let items = c.places-slot-items.result.now in
    sym (drain_end items l.slot-index 0 l.left c.loop-slot-test.false)
    ∙ l.invariant.same ∙ drains_is u c.requires items
    ∙ ap (λ (k : List ℕ). once k && all (used_at u) k) c.places-slot-items.ensures
