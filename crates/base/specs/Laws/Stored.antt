-- Bytes stored among bytes: where they fit and where they do not, and the length, which stays. Assumes nothing.
use Rattle.std.specs.Prelude.{◌≡◌, refl, ℕ, ◌+◌, ◌<◌, ◌≤◌, leb}
use mathlib.Core.List.{List}
use Rattle.std.proofs.Common.{arith, le-leb, leb-true}
use Rattle.std.proofs.Math.ListN.{length}
use Rattle.std.proofs.Math.Seq.{paste, length-paste}
use Rattle.std.proofs.lemmas.Bool.{lt-leb}
use Rattle.base.specs.Bytes.{stored}
use Rattle.base.specs.Laws.Tests.{pick_elim}

module _ (d : List ℕ) (at : ℕ) (s : List ℕ) where
  pub stored_fits : at + length s ≤ length d → stored d at s ≡ paste d at s (length s)
  unfolding stored
  stored_fits h = rw (le-leb (at + length s) (length d) h)

  pub stored_not : length d < at + length s → stored d at s ≡ d
  unfolding stored
  stored_not h = rw (lt-leb (at + length s) (length d) h)

  pub length_stored : length (stored d at s) ≡ length d
  unfolding stored
  length_stored =
      pick_elim (λ (l : List ℕ). length l ≡ length d) (leb (at + length s) (length d)) (paste d at s (length s)) d
      (λ e. length-paste d at s (length s) (leb-true (at + length s) (length d) e) (omega arith))
      (λ e. refl)
