-- Lists that document 01 accepts and refuses, computed through the definition that `frame` is proved to meet. Assumes nothing.
use mathlib.Core.Path.{◌≡◌, refl}
use mathlib.Core.List.{List, [], ◌∷◌, ◌++◌}
use Prim.Native.Nat.{ℕ}
use lib.ListN.{replicate}
use Rattle.base.specs.Bytes.{bytes_of}
use Rattle.model.specs.Lists.{framed}
use Rattle.model.specs.Examples.{p1, asks, list_of}
use Rattle.std.specs.Prelude.{Option, None, Some}
use Rattle.frames.specs.Framing.{accepted, framing}
use Rattle.frames.specs.Reading.{part_at}
use Rattle.frames.specs.declared.framing.Framed.{Framed as Accepted}
use Rattle.frames.specs.declared.reading.Part.TheVariants.{Record, End}

abbrev answer : List ℕ → Option Accepted
answer l = framing (framed l)

-- P1
five : answer p1.list ≡ Some (accepted 5 0xfffffffa)
unfolding framed
five = refl

-- "A list of no records is accepted"
none : answer (list_of 7 []) ≡ Some (accepted 0 7)
unfolding framed
none = refl

-- 8 bytes are no header
short : answer (0 ∷ 0 ∷ 0 ∷ 4 ∷ 1 ∷ 0 ∷ 0 ∷ 0 ∷ []) ≡ None
unfolding framed
short = refl

-- "version not 1", "length field not matching"
version : answer (0 ∷ 0 ∷ 0 ∷ 5 ∷ 2 ∷ 0 ∷ 0 ∷ 0 ∷ 0 ∷ []) ≡ None
unfolding framed
version = refl

field : answer (0 ∷ 0 ∷ 0 ∷ 6 ∷ 1 ∷ 0 ∷ 0 ∷ 0 ∷ 0 ∷ []) ≡ None
unfolding framed
field = refl

-- "a record length below 9": 8 bytes, with a length field that says so
eight : answer (list_of 0 (replicate 8 1 ∷ [])) ≡ None
unfolding framed
eight = refl

-- "a record (its length field too) running past the end"
past : answer (bytes_of 4 15 ++ (1 ∷ bytes_of 4 0) ++ bytes_of 2 9 ++ replicate 8 1) ≡ None
unfolding framed
past = refl

half : answer (bytes_of 4 6 ++ (1 ∷ bytes_of 4 0) ++ (9 ∷ [])) ≡ None
unfolding framed
half = refl

-- a reader of a list of two records: each, and the end
first : part_at (list_of 0 (asks ∷ asks ∷ [])) 9 ≡ Record 11 20
unfolding part_at
first = refl

second : part_at (list_of 0 (asks ∷ asks ∷ [])) 20 ≡ Record 22 31
unfolding part_at
second = refl

end : part_at (list_of 0 (asks ∷ asks ∷ [])) 31 ≡ End
unfolding part_at
end = refl
