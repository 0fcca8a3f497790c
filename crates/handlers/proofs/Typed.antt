-- What the struct's type says of the lengths of its arrays; and the struct of a count and rows. Assumes nothing.
use mathlib.Core.Path.{◌≡◌, sym, ◌∙◌}
use mathlib.Core.List.{List, map}
use Prim.Native.Nat.{ℕ}
use lib.ListN.{length, length-map}
use Rattle.handlers.specs.declared.Task.{Task}
use Rattle.handlers.specs.declared.Tasks.{Tasks}

pub unmapped : {X Y : Type 0} (f : X → Y) (l : List X) (n : ℕ) → length (map f l) ≡ n → length l ≡ n
unmapped f l n e = sym (length-map l f) ∙ e

abbrev pub tabled : ℕ → List Task → Tasks
tabled n l = record { count = n; rows = l }
