-- What dispatch finds out on its way.
use Rattle.std.specs.Prelude.{ℕ, Bool, not, ◌&&◌, ◌||◌, List, ◌++◌, ◌==◌, length, position}
use Rattle.std.specs.Option.{unwrap_or}
use Rattle.base.specs.Bytes.{blank, bytes_of}
use Rattle.base.specs.Lists.{any}
use Rattle.request_rows.specs.declared.Request.{Request}
use Rattle.request_rows.specs.Rows.{Row, is_active, is_expired}
use Rattle.request_rows.specs.Dispatch.{clash, ready, passed_by}
use Rattle.request_ops.specs.declared.dispatch.Choice.{Choice}

-- a request, as `clash` has it of a row
abbrev pub blocks : ℕ → ℕ → Request → Bool
blocks p m q = is_active q.phase && (q.program == p || (not (m == blank 4) && q.terminal == m))

-- a request, as `ready` has it of a row
abbrev pub starts : List Row → Request → Bool
starts l q = is_expired q.phase && not (any (clash q.program q.terminal) l)

-- the row that starts, and how many of the line stand before it, or in the line where none starts
abbrev pub chosen : List Row → Choice
chosen l = record { started = position (ready l) l; passed = passed_by (unwrap_or (position (ready l) l) (length l)) l }

abbrev pub sixteen : Request → List ℕ
sixteen q = bytes_of 8 q.name ++ bytes_of 4 q.program ++ bytes_of 4 q.terminal
