-- The law that ends a loop which counts an index over a list: the code goes over the bytes themselves now, and nothing
-- cites it. Assumes nothing.
use Rattle.std.specs.Prelude.{ℕ, ◌≤◌, ◌≡◌, List, [], length, drop}
use Rattle.std.proofs.Common.{drop_of_length-le}

module _ (l : List ℕ) (i : ℕ) where
  pub drop_end : length l ≤ i → drop i l ≡ []
  drop_end h = drop_of_length-le l {i = i} h
