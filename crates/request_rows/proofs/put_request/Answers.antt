-- `put_request` meets its contract. Assumes nothing.
use Rattle.std.proofs.Common.{ℕ, List, ◌+◌, ◌-◌, ◌*◌, ◌∙◌, ap, arith}
use borrow.Rule.Slice.PartMut.{put_mid}
use Rattle.request_rows.specs.Laws.View.{view_chunk}
use Rattle.request_rows.specs.Table.{view_of}
use Rattle.request_rows.specs.Rows.{encode}
use Rattle.request_rows.proofs.put_request.Goals as goal

pub returns-then-i-rows : goal.returns-then-i-rows
returns-then-i-rows c =
    let a = c.args in
    record {
      exact = ap (λ (x : List ℕ). view_of (put_mid (2 + a.i * 4) (2 + a.i * 4 + 4 - (2 + a.i * 4)) a.t.now x)) (c.copy_from_slice.ensures.after ∙ c.from.ensures)
          ∙ view_chunk a.t.now a.i (encode a.q) (omega arith);
    }
