-- `bytes::store` meets its contract: all of s is pasted where it fits, and nothing where it does not. Assumes nothing.
use Rattle.std.proofs.Common.{refl, sym, ◌∙◌, arith}
use Rattle.std.proofs.lemmas.Slice.{put_mid-paste}
use Rattle.base.specs.Laws.Stored.{stored_fits, stored_not}
use Rattle.base.proofs.bytes.store.Goals as goal
use Rattle.base.proofs.bytes.store.Goals.{else-s-d-via-then-s-d+else-at-d, else-s-d-via-else-s-d}

pub returns-then-at-d : goal.returns-then-at-d
returns-then-at-d c =
    let a = c.args in record {
      exact = put_mid-paste a.at _ a.d.now _ a.s.now _ c.copy_from_slice.ensures.after (omega arith) refl
          ∙ sym (stored_fits a.d.now a.at a.s.now (omega arith));
    }

pub returns-else-s-d : goal.returns-else-s-d
returns-else-s-d c =
    let a = c.args in record {
      exact = sym (stored_not a.d.now a.at a.s.now (elim c.else-s-d.branch [ else-s-d-via-then-s-d+else-at-d w ↦ omega arith | else-s-d-via-else-s-d w ↦ omega arith ]));
    }
