-- Sound queues: every rule of document 01 that speaks of queues and slots, as a test of any value of the struct; and what it is for a
-- function to have done what the model's plan says.
use Rattle.std.specs.Prelude.{ℕ, ◌≡◌, Bool, true, not, ◌&&◌, List, [], ◌∷◌, leb, get_or}
use Rattle.base.specs.Lists.{all, has, once, within, copies}
use Rattle.base.specs.Bytes.{blank}
use Rattle.slots.specs.Bits.{used_at}
use Rattle.model.specs.Plans.{Outcome, Plan, first_of, obey}
use Rattle.model.specs.Queues.{Queue}
use Rattle.queues.specs.declared.Queues.{Queues}
use Rattle.queues.specs.Table.{names_of, pointers_of, owners, places}
use Rattle.queues.specs.Model.{queues_of}

-- "pointers lie in 0..count": a queue has as many items as it owns entries
abbrev pub pointed : List ℕ → List ℕ → List ℕ → Bool
pointed os [] ps = true
pointed os (n ∷ ns) [] = true
pointed os (n ∷ ns) (p ∷ ps) = leb p (copies n os) && pointed os ns ps

-- "item length | 1..64 bytes"
abbrev pub length_in : Queues → ℕ → Bool
length_in q s = leb 1 (get_or q.len s 0) && leb (get_or q.len s 0) 64

-- "the bounds hold; names are unique within their kind .. and not blank; pointers lie in 0..count; each slot marked used holds one item of one
-- queue, and no other slot holds any": there are as many entries as marked slots, so it is enough that no slot is named twice and each is marked
unfoldable pub sound_q : Queues → Bool
sound_q q =
    leb q.count 16
    && once (names_of q)
    && not (has (blank 8) (names_of q))
    && within (owners q) (names_of q)
    && pointed (owners q) (names_of q) (pointers_of q)
    && once (places q)
    && all (used_at q.used) (places q)
    && all (length_in q) (places q)

-- what a function has done, in the words of the model: from sound queues it comes to what the plan says, leaves what the plan leaves, and
-- leaves it sound
pub record Did (q : Queues) (b : List ℕ) (q' : Queues) (b' : List ℕ) (p : Plan (List Queue)) (condition number : ℕ) (bytes : List ℕ) : Type 0 where
  pub outcome : ◌≡◌ {A = Outcome (List Queue)} (record { condition = condition; number = number; bytes = bytes; state = queues_of q' b' }) (obey (queues_of q b) (first_of p.checks) p.effect)
  pub soundly : sound_q q' ≡ true
