-- The queues of the model that the words and the lent bytes stand for.
use Rattle.std.specs.Prelude.{ℕ, List, [], ◌∷◌, map}
use Rattle.model.specs.Limits.{Limits, sized}
use Rattle.model.specs.Queues.{Queue}
use Rattle.queue_rows.specs.Table.{Queues, rows_in, slots_in, names_of, pointers_of, slots_named, contents, Store}

abbrev pub queues_from : (ℕ → List (List ℕ)) → List ℕ → List ℕ → List Queue
queues_from items [] ps = []
queues_from items (n ∷ ns) [] = []
queues_from items (n ∷ ns) (p ∷ ps) = record { name = n; pointer = p; items = items n } ∷ queues_from items ns ps

unfoldable pub items_of : Queues → List ℕ → ℕ → List (List ℕ)
items_of q b n = map (contents q b) (slots_named q n)

unfoldable pub queues_of : Store → List Queue
queues_of s = queues_from (items_of s.queues s.items) (names_of s.queues) (pointers_of s.queues)

-- how much they hold is how much is lent; the bounds of requests are another part's
abbrev pub limits_of : Queues → Limits
limits_of q = sized 0 0 0 (rows_in q) (slots_in q)
