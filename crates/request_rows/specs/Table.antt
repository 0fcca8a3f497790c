-- The requests in words: the register, how many requests there are, rows. What stands past the count is kept and means nothing; a count that says
-- more than there are rows is all of them.
use Rattle.std.specs.Prelude.{ℕ, ◌/◌, ◌%◌, min, List, length, take, drop, get_or, set}
use Rattle.base.specs.Lists.{over}
use Rattle.request_rows.specs.Rows.{Row, rows_of, rest_of}

pub record Requests : Type 0 where
  -- its word, where one is lent
  pub register : List ℕ
  pub count : ℕ
  pub rows : List Row
  -- words past the last whole row
  pub past : List ℕ

abbrev pub view_of : List ℕ → Requests
view_of w = record { register = take 1 w; count = get_or w 1 0; rows = rows_of (drop 2 w); past = rest_of (drop 2 w) }

-- of any word the low half is the register
abbrev pub register_of : Requests → ℕ
register_of t = get_or t.register 0 0 % 4_294_967_296

abbrev pub live : Requests → List Row
live t = take t.count t.rows

abbrev pub with_live : Requests → List Row → Requests
with_live t l = record { register = t.register; count = length l; rows = over l t.rows; past = t.past }

abbrev pub with_row : Requests → ℕ → Row → Requests
with_row t i q = record { register = t.register; count = t.count; rows = set t.rows i q; past = t.past }

abbrev pub with_register : Requests → ℕ → Requests
with_register t r = record { register = set t.register 0 r; count = t.count; rows = t.rows; past = t.past }

-- how many slots of 64 bytes the lent bytes have; their occupancy is two words
abbrev pub slots_in : List ℕ → ℕ
slots_in area = min (length area / 64) 128

-- how many requests there can be
abbrev pub spaces : Requests → List ℕ → ℕ
spaces t area = min (length t.rows) (slots_in area)
