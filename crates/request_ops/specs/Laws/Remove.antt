-- What is left when a row goes. Assumes nothing.
use Rattle.std.specs.Prelude.{◌≡◌, ℕ, ◌+◌, ◌-◌, ◌*◌, ◌<◌, ◌≤◌, List, length, take, drop, slice_set}
use Rattle.std.proofs.Common.{arith, lt-ltb, le-ltb}
use borrow.Rule.Slice.PartMut.{put_mid}
use Rattle.words.specs.Rows.{shut}
use Rattle.request_rows.specs.Table.{view_of, live}
use Rattle.request_rows.specs.Remove.{remove_at}
use Rattle.request_rows.specs.Laws.View.{view_shut}

module _ (w : List ℕ) (i m : ℕ) (e : m ≡ length (live (view_of w))) where
  -- there is one
  pub removed : i < m → (p : List ℕ) → p ≡ shut (i * 4) 4 (take (2 + m * 4 - 2) (drop 2 w))
      → view_of (slice_set (put_mid 2 (2 + m * 4 - 2) w p) 1 (m - 1)) ≡ remove_at (view_of w) i
  unfolding remove_at
  removed h p s = rw (lt-ltb i (length (live (view_of w))) (omega arith)) (view_shut w i m p e h s)

  pub unremoved : m ≤ i → view_of w ≡ remove_at (view_of w) i
  unfolding remove_at
  unremoved h = rw (le-ltb i (length (live (view_of w))) (omega arith))
