-- `queue_sound::rows::rows_sound` meets its contract. Assumes nothing.
use Rattle.std.proofs.Common.{◌≡◌, not, ◌&&◌, leb, length, take, refl, ◌∙◌}
use Rattle.base.specs.Lists.{has, once, within}
use Rattle.base.specs.Bytes.{blank}
use Rattle.queue_sound.specs.Parts.{rows_sound}
use Rattle.queue_sound.proofs.Both.{both_then, both_else}
use Rattle.queue_sound.proofs.rows.rows_sound.Goals as goal
use Rattle.queue_sound.proofs.rows.rows_sound.Goals.{Joined-names_sound, then-names_sound, else-names_sound}

-- the names and the owners
owned : (c : Joined-names_sound) →
    let a = c.args in
    let ns = take a.count a.names.now in
    c.if-names_sound.value ≡ (leb a.count (length a.names.now) && once ns && not (has (blank 8) ns) && within (take a.n a.owner.now) ns)
owned c =
    elim c.if-names_sound.branch [
      | then-names_sound w ↦ both_then _ c.names_sound.ensures w.if-names_sound.true (w.value-is ∙ w.within.ensures.exact)
      | else-names_sound w ↦ both_else _ _ c.names_sound.ensures w.if-names_sound.false w.value-is
    ]

pub returns-then-within : goal.returns-then-within
unfolding rows_sound
returns-then-within c = both_then _ (owned (goal.at.returns-then-within c).Joined-names_sound) c.if-within.true c.pointers_sound.ensures

pub returns-else-within : goal.returns-else-within
unfolding rows_sound
returns-else-within c = both_else _ _ (owned (goal.at.returns-else-within c).Joined-names_sound) c.if-within.false refl
