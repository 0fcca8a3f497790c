-- What stands at a place of a list, and what is left from there on: both by the model's `whole` and `records`.
use Rattle.std.specs.Prelude.{◌≡◌, List, [], ℕ, ◌+◌, length, drop, leb}
use Rattle.base.specs.Choice.{pick}
use Rattle.base.specs.Bytes.{num}
use Rattle.model.specs.Lists.{Framed, bad, good, whole, records}
use Rattle.frames.specs.declared.reading.Part.{Part}
use Rattle.frames.specs.declared.reading.Part.TheVariants.{Record, End, Bad}

-- the place of the next record, behind the length field and as many bytes as it says
abbrev pub next_at : List ℕ → ℕ → ℕ
next_at l at = at + 2 + num at 2 l

-- a record from behind its length field to the next; the end; or "a record length below 9, or a record (its length field too) running past the end"
unfoldable pub part_at : List ℕ → ℕ → Part
part_at l at = pick (leb (length l) at) End (pick (whole (drop at l)) (Record (at + 2) (next_at l at)) Bad)

-- "Records fill the list exactly": those that fill it from a place on, with the start value v
unfoldable pub left : ℕ → List ℕ → ℕ → Framed
left v l at = records v (length l) (drop at l)

abbrev pub listed : Framed → List (List ℕ)
listed bad = []
listed (good v rs) = rs

-- the records from a place on
unfoldable pub records_from : List ℕ → ℕ → List (List ℕ)
records_from l at = listed (left 0 l at)

-- they fill the list
pub record Filled (l : List ℕ) (at : ℕ) : Type 0 where
  pub fills : left 0 l at ≡ good 0 (records_from l at)
