-- `queue_sound::sound` meets its contract. Assumes nothing.
use Rattle.std.proofs.Common.{length, refl, ◌∙◌}
use Rattle.queue_sound.proofs.Both.{both_then, both_else}
use Rattle.queue_sound.proofs.Whole.{answered}
use Rattle.queue_sound.proofs.sound.Goals as goal

pub returns-then-rows_sound : goal.returns-then-rows_sound
returns-then-rows_sound c =
    let a = c.args in
    let l = c.layout-names in
    record {
      exact = both_then _ c.rows_sound.ensures c.if-rows_sound.true c.entries_sound.ensures
          ∙ answered l.result a.queues.now (length a.items.now) l.ensures.laid l.ensures.sized _ _ _ c.word_at-count.ensures.exact c.used-u.ensures.exact c.count-n.ensures.exact;
    }

pub returns-else-rows_sound : goal.returns-else-rows_sound
returns-else-rows_sound c =
    let a = c.args in
    let l = c.layout-names in
    record {
      exact = both_else _ _ c.rows_sound.ensures c.if-rows_sound.false refl
          ∙ answered l.result a.queues.now (length a.items.now) l.ensures.laid l.ensures.sized _ _ _ c.word_at-count.ensures.exact c.used-u.ensures.exact c.count-n.ensures.exact;
    }
