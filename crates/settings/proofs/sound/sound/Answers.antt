-- `sound::sound` meets its contract. Assumes nothing.
use Rattle.std.proofs.Common.{arith, ◌∙◌}
use borrow.Author.Tests.{lt-leb}
use Rattle.settings.specs.Table.{view_of}
use Rattle.settings.specs.Laws.View.{view_each}
use Rattle.settings.proofs.Coded.{fits, sound_large, sound_named}
use Rattle.settings.proofs.sound.sound.Goals as goal

pub named_once-requires : goal.named_once-requires
named_once-requires c = fits (view_of c.args.settings.now) c.count-n.result c.count-n.ensures.exact

pub returns-then-word_at-n : goal.returns-then-word_at-n
returns-then-word_at-n c =
    let w = c.args.settings.now in
    record {
      exact = c.named_once.ensures ∙ sound_named (view_of w) c.count-n.result c.count-n.ensures.exact (omega (arith, c.word_at.ensures.exact)) (view_each w);
    }

pub returns-else-word_at-n : goal.returns-else-word_at-n
returns-else-word_at-n c =
    record {
      exact = lt-leb c.word_at.result c.count-n.result c.if-word_at-n.false
          ∙ sound_large (view_of c.args.settings.now) c.count-n.result c.count-n.ensures.exact (omega (arith, c.word_at.ensures.exact));
    }
