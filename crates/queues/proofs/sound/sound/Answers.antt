-- `sound` meets its contract: each part is asked where the parts before it hold. Assumes nothing.
use Rattle.std.specs.Prelude.{◌≡◌, ℕ, take}
use Rattle.std.proofs.Common.{refl, ap, ◌∙◌}
use Rattle.base.specs.Lists.{all, within}
use Rattle.base.specs.Laws.Library.{all_of}
use Rattle.queues.specs.Table.{names_of, pointers_of, owners, places}
use Rattle.queues.specs.Sound.{length_in}
use Rattle.queues.proofs.Rows.{pointed_is}
use Rattle.queues.proofs.SoundLaws.{and_then, and_else, part2, part3, part4, whole}
use Rattle.queues.proofs.sound.sound.Goals as goal
use Rattle.queues.proofs.sound.sound.Goals.{Joined-names_sound, Joined-within, Joined-pointers_sound, then-names_sound, else-names_sound, then-within, else-within, then-pointers_sound, else-pointers_sound}

second : (c : Joined-names_sound) → c.if-names_sound.value ≡ part2 c.args.q
second c =
    let q = c.args.q in
    let is = c.names_sound.ensures in
    elim c.if-names_sound.branch [
      | then-names_sound w ↦ and_then _ _ _ _ is w.if-names_sound.true (w.value-is ∙ w.within.ensures.exact ∙ ap (λ (n : ℕ). within (take n q.owner) (names_of q)) w.entries.ensures)
      | else-names_sound w ↦ and_else _ _ _ _ is w.if-names_sound.false w.value-is
    ]

third : (c : Joined-within) → c.if-names_sound.value ≡ part2 c.args.q → c.if-within.value ≡ part3 c.args.q
third c is =
    let q = c.args.q in
    elim c.if-within.branch [
      | then-within w ↦ and_then _ _ _ _ is w.if-within.true (w.value-is ∙ w.pointers_sound.ensures ∙ pointed_is (owners q) (names_of q) (pointers_of q))
      | else-within w ↦ and_else _ _ _ _ is w.if-within.false w.value-is
    ]

fourth : (c : Joined-pointers_sound) → c.if-within.value ≡ part3 c.args.q → c.if-pointers_sound.value ≡ part4 c.args.q
fourth c is =
    elim c.if-pointers_sound.branch [
      | then-pointers_sound w ↦ and_then _ _ _ _ is w.if-pointers_sound.true (w.value-is ∙ w.slots_sound.ensures)
      | else-pointers_sound w ↦ and_else _ _ _ _ is w.if-pointers_sound.false w.value-is
    ]

pub returns-then-slots_sound : goal.returns-then-slots_sound
returns-then-slots_sound c =
    let q = c.args.q in
    let p = goal.at.returns-then-slots_sound c in
    let is = fourth p.Joined-pointers_sound (third p.Joined-within (second p.Joined-names_sound)) in
    record { exact = and_then _ _ _ _ is c.if-slots_sound.true (c.lengths_sound.ensures ∙ all_of (length_in q) (places q)) ∙ whole q }

pub returns-else-slots_sound : goal.returns-else-slots_sound
returns-else-slots_sound c =
    let p = goal.at.returns-else-slots_sound c in
    let is = fourth p.Joined-pointers_sound (third p.Joined-within (second p.Joined-names_sound)) in
    record { exact = and_else _ (all (length_in c.args.q) (places c.args.q)) _ _ is c.if-slots_sound.false refl ∙ whole c.args.q }
