-- Sound queues: every rule of document 01 that speaks of queues and slots, as a test of any words.
use Rattle.std.specs.Prelude.{ℕ, ◌≡◌, Bool, true, not, ◌&&◌, List, [], ◌∷◌, leb, ltb, get_or}
use Rattle.base.specs.Lists.{all, has, once, within, copies}
use Rattle.base.specs.Bytes.{blank}
use Rattle.slots.specs.Bits.{used_at}
use Rattle.queue_rows.specs.Table.{Queues, rows_in, slots_in, names_of, pointers_of, entries, owners, places, Store}

-- "pointers lie in 0..count": a queue has as many items as it owns entries
abbrev pub pointed : List ℕ → List ℕ → List ℕ → Bool
pointed os [] ps = true
pointed os (n ∷ ns) [] = true
pointed os (n ∷ ns) (p ∷ ps) = leb p (copies n os) && pointed os ns ps

-- "item length | 1..64 bytes"
abbrev pub length_in : Queues → ℕ → Bool
length_in q s = leb 1 (get_or q.len s 0) && leb (get_or q.len s 0) 64

-- "the bounds hold; names are unique within their kind .. and not blank; pointers lie in 0..count; each slot marked used holds one item of one
-- queue, and no other slot holds any": there are as many entries as marked slots, so it is enough that no slot is named twice and each is marked
unfoldable pub sound_q : Queues → Bool
sound_q q =
    leb q.count (rows_in q)
    && leb (entries q) (slots_in q)
    && once (names_of q)
    && not (has (blank 8) (names_of q))
    && within (owners q) (names_of q)
    && pointed (owners q) (names_of q) (pointers_of q)
    && once (places q)
    && all (used_at q.used) (places q)
    && all (λ s. ltb s (slots_in q)) (places q)
    && all (length_in q) (places q)

abbrev pub SoundS : Store → Type 0
SoundS s = sound_q s.queues ≡ true
