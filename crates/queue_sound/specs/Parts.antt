-- The test of sound queues in two, over the columns that are lent: the rules of rows, and those of entries.
use Rattle.std.specs.Prelude.{ℕ, Bool, not, ◌&&◌, List, leb, ltb, length, take, get_or}
use Rattle.base.specs.Lists.{all, has, once, within}
use Rattle.base.specs.Bytes.{blank}
use Rattle.slots.specs.Bits.{used_at}
use Rattle.slots.specs.declared.Used.{Used}
use Rattle.queue_rows.specs.Sound.{pointed}

-- "names are unique within their kind .. and not blank; pointers lie in 0..count"; os are the owners of the entries
unfoldable pub rows_sound : ℕ → List ℕ → List ℕ → List ℕ → Bool
rows_sound count names pointers os =
    leb count (length names)
    && once (take count names)
    && not (has (blank 8) (take count names))
    && within os (take count names)
    && pointed os (take count names) (take count pointers)

-- slot s is one of those that are lent: "item length | 1..64 bytes"
abbrev pub filled : List ℕ → ℕ → Bool
filled len s = ltb s (length len) && (leb 1 (get_or len s 0) && leb (get_or len s 0) 64)

-- "each slot marked used holds one item of one queue, and no other slot holds any"; n entries there are
unfoldable pub entries_sound : Used → ℕ → List ℕ → List ℕ → Bool
entries_sound u n slot len =
    leb n (length slot) && (once (take n slot) && all (used_at u) (take n slot)) && all (filled len) (take n slot)
