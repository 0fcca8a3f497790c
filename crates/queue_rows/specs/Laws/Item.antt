-- The length of an item that is appended or rewritten: what its test says. Assumes nothing.
use Rattle.std.specs.Prelude.{◌≡◌, Bool, false, not, ◌||◌, List, ℕ, ◌≤◌, ltb, length}
use Rattle.std.proofs.Common.{leb-true, ltb-false}
use Rattle.std.proofs.lemmas.Bool.{not-false}
use Rattle.base.specs.Laws.Tests.{or_false_l, or_false_r}
use Rattle.model.specs.Limits.{some}

-- "length not 1..64"
abbrev pub wrong : List ℕ → Bool
wrong item = not (some item) || ltb 64 (length item)

pub item_some : (item : List ℕ) → wrong item ≡ false → 1 ≤ length item
item_some item f = leb-true 1 (length item) (not-false (some item) (or_false_l (not (some item)) (ltb 64 (length item)) f))

pub item_short : (item : List ℕ) → wrong item ≡ false → length item ≤ 64
item_short item f = ltb-false 64 (length item) (or_false_r (not (some item)) (ltb 64 (length item)) f)
