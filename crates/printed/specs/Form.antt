-- What is printed of a list: a line for each answer of its run, or the refusal's.
use Rattle.std.specs.Prelude.{ℕ, List, replicate}
use Rattle.model.specs.Limits.{cabinet}
use Rattle.model.specs.Lists.{run}
use Rattle.print.specs.Lines.{form_of}

-- it is run into a buffer with room for every answer
unfoldable pub formed : List ℕ → List ℕ
formed list = form_of (run cabinet list (replicate 27454 0))
