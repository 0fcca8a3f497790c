-- What is printed of a run, from what the run returned. Assumes nothing.
use Prim.Native.Nat.{ℕ}
use mathlib.Core.Path.{◌≡◌, ap}
use mathlib.Core.List.{List}
use lib.ListN.{take, replicate}
use Rattle.std.specs.Prelude.{Ok, Err}
use Rattle.frames.specs.declared.refused.Refused.{Refused}
use Rattle.frames.specs.declared.refused.Refused.TheVariants.{NotFramed, NoRoom}
use Rattle.model.specs.Limits.{cabinet}
use Rattle.model.specs.Lists.{run}
use Rattle.lists.specs.Run.{ran}
use Rattle.print.specs.Lines.{lines_of, refusal_line, form_of}
use Rattle.printed.specs.Form.{formed}

module _ (list : List ℕ) (b : List ℕ) where
  pub formed_refused : (e : Refused) → ran (Err e) b ≡ run cabinet list (replicate 27454 0) → refusal_line ≡ formed list
  unfolding formed
  formed_refused NotFramed e = ap form_of e
  formed_refused NoRoom e = ap form_of e

  pub formed_lines : (n : ℕ) → ran (Ok n) b ≡ run cabinet list (replicate 27454 0) → lines_of (take n b) ≡ formed list
  unfolding formed
  formed_lines n e = ap form_of e
