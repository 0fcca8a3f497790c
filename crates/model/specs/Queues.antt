-- Temporary storage (document 01, "Queue rules"; 000, "CICS temporary storage").
use Rattle.std.specs.Prelude.{ℕ, ◌+◌, ◌-◌, Bool, not, ◌&&◌, ◌||◌, List, [], ◌∷◌, ◌++◌, map, length, get_or, set, leb, ltb, eqb}
use Rattle.base.specs.Choice.{pick}
use Rattle.base.specs.Lists.{keep, any, all, first, once}
use Rattle.base.specs.Bytes.{blank, is_name}
use Rattle.model.specs.Limits.{Limits, is_item, some}
use Rattle.model.specs.Plans.{no_space, unknown_queue, no_such_item, wrong_length, invalid_request, check, Plan, fault, done, cut, plan}

-- "A queue is a row of items, places from 1, and a pointer, 0 at first" (TSQ, TSQ_Initial; the named queues are TS)
pub record Queue : Type 0 where
  pub name : ℕ
  pub pointer : ℕ
  pub items : List (List ℕ)

abbrev pub no_items : ℕ → Queue
no_items n = record { name = n; pointer = 0; items = [] }

abbrev pub known_queue : List Queue → ℕ → Bool
known_queue l n = any (λ (q : Queue). eqb q.name n) l

abbrev pub queue_of : List Queue → ℕ → Queue
queue_of l n = first (λ (q : Queue). eqb q.name n) (no_items n) l

-- the named queue alone is changed (UpdateQ)
abbrev pub at_queue : ℕ → (Queue → Queue) → List Queue → List Queue
at_queue n f l = map (λ (q : Queue). pick (eqb q.name n) (f q) q) l

-- "items over all queues"
abbrev pub items_in : List Queue → ℕ
items_in [] = 0
items_in (q ∷ l) = length q.items + items_in l

-- ---- 10 append

-- "Append adds at the end" (Append₀)
abbrev pub longer : List ℕ → Queue → Queue
longer b q = record { name = q.name; pointer = q.pointer; items = q.items ++ (b ∷ []) }

-- "and makes an unknown queue" (CreatedQ)
abbrev pub made : List Queue → ℕ → List Queue
made l n = pick (known_queue l n) l (l ++ (no_items n ∷ []))

-- "No space: the name is unknown and 16 queues exist (no queue is made), or 128 items are in use. Where both hold, the first decides.
-- In the second case an unknown name is made an empty queue" (AppendQ). `may` is how many slots the asker may fill.
unfoldable pub append : Limits → ℕ → List Queue → ℕ → List ℕ → Plan (List Queue)
append L may l n b =
    plan (check (eqb n (blank 8)) invalid_request
    ∷ check (not (some b) || ltb L.item (length b)) wrong_length
    ∷ check (not (known_queue l n) && leb L.queues (length l)) no_space
    ∷ [])
    (pick (leb may (items_in l))
    (fault (made l n) no_space)
    (done (at_queue n (longer b) (made l n)) (length (queue_of l n).items + 1)))

-- ---- 11 read next, 12 read at

abbrev pub point_at : ℕ → Queue → Queue
point_at p q = record { name = q.name; pointer = p; items = q.items }

-- a place that the queue does not have (NoneLeft!, OutOfBounds!)
abbrev pub no_place : Queue → ℕ → Bool
no_place q p = eqb p 0 || ltb (length q.items) p

-- the item at a place, from 1
abbrev pub item_at : Queue → ℕ → List ℕ
item_at q p = get_or q.items (p - 1) []

-- the item at a place is given and the pointer set to it: "The pointer moves all the same."
abbrev pub reading : List Queue → ℕ → ℕ → ℕ → Plan (List Queue)
reading l n p room =
    plan (check (eqb n (blank 8)) invalid_request
    ∷ check (not (known_queue l n)) unknown_queue
    ∷ check (no_place (queue_of l n) p) no_such_item
    ∷ [])
    (cut (at_queue n (point_at p) l) room (item_at (queue_of l n) p))

-- "Read next gives the item behind the pointer and moves the pointer there; 3 if none is left. The item stays stored." (Remove₀)
unfoldable pub read_next : List Queue → ℕ → ℕ → Plan (List Queue)
read_next l n room = reading l n ((queue_of l n).pointer + 1) room

-- "Read at gives the item and sets the pointer to it." (Read₀)
unfoldable pub read_at : List Queue → ℕ → ℕ → ℕ → Plan (List Queue)
read_at l n p room = reading l n p room

-- ---- 13 rewrite, 14 delete queue

-- "Rewrite keeps the pointer." (Write₀)
abbrev pub rewritten : ℕ → List ℕ → Queue → Queue
rewritten p b q = record { name = q.name; pointer = q.pointer; items = set q.items (p - 1) b }

unfoldable pub rewrite : Limits → List Queue → ℕ → ℕ → List ℕ → Plan (List Queue)
rewrite L l n p b =
    plan (check (eqb n (blank 8)) invalid_request
    ∷ check (not (some b) || ltb L.item (length b)) wrong_length
    ∷ check (not (known_queue l n)) unknown_queue
    ∷ check (no_place (queue_of l n) p) no_such_item
    ∷ [])
    (done (at_queue n (rewritten p b) l) 0)

-- "Delete frees every place." The number is "items freed". (DeleteQ₀)
unfoldable pub delete : List Queue → ℕ → Plan (List Queue)
delete l n =
    plan (check (eqb n (blank 8)) invalid_request
    ∷ check (not (known_queue l n)) unknown_queue
    ∷ [])
    (done (keep (λ (q : Queue). not (eqb q.name n)) l) (length (queue_of l n).items))

-- ---- sound queues

-- "pointers lie in 0..count"; the bounds of items; names "not blank"
abbrev pub sound_queue : Limits → Queue → Bool
sound_queue L q = is_name 8 q.name && leb q.pointer (length q.items) && all (is_item L) q.items

-- "the bounds hold; names are unique within their kind"
unfoldable pub sound_queues : Limits → List Queue → Bool
sound_queues L l =
    leb (length l) L.queues
    && leb (items_in l) L.slots
    && once (map (λ (q : Queue). q.name) l)
    && all (sound_queue L) l
