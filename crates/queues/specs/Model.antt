-- The queues of the model that a struct and the lent bytes stand for.
use Rattle.std.specs.Prelude.{ℕ, List, [], ◌∷◌, map}
use Rattle.model.specs.Queues.{Queue}
use Rattle.queues.specs.declared.Queues.{Queues}
use Rattle.queues.specs.Table.{names_of, pointers_of, slots_in, contents}

abbrev pub queues_from : (ℕ → List (List ℕ)) → List ℕ → List ℕ → List Queue
queues_from items [] ps = []
queues_from items (n ∷ ns) [] = []
queues_from items (n ∷ ns) (p ∷ ps) = record { name = n; pointer = p; items = items n } ∷ queues_from items ns ps

unfoldable pub items_of : Queues → List ℕ → ℕ → List (List ℕ)
items_of q b n = map (contents q b) (slots_in q n)

unfoldable pub queues_of : Queues → List ℕ → List Queue
queues_of q b = queues_from (items_of q b) (names_of q) (pointers_of q)
