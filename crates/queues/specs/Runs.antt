-- The operations on queues, any number of them one after the other: what each comes to by its exact definition, and what it comes to in the
-- model. Laws/Runs.antt shows that these are the same. Assumes nothing.
use Rattle.std.specs.Prelude.{Bool, ◌&&◌, List, [], ◌∷◌, ℕ, ◌^◌, ltb}
use Rattle.base.specs.Bytes.{is_bytes}
use Rattle.model.specs.Limits.{cabinet}
use Rattle.model.specs.Plans.{Outcome, Plan, first_of, obey}
use Rattle.model.specs.Queues as model
use Rattle.model.specs.Queues.{Queue}
use Rattle.queues.specs.declared.Queues.{Queues}
use Rattle.queues.specs.Model.{queues_of}
use Rattle.queues.specs.Append as append
use Rattle.queues.specs.Append.{append_to}
use Rattle.queues.specs.Read as read
use Rattle.queues.specs.declared.read.Read.{Read}
use Rattle.queues.specs.Read.{read_in, read_next_in}
use Rattle.queues.specs.Rewrite as rewrite
use Rattle.queues.specs.Rewrite.{rewrite_in}
use Rattle.queues.specs.Delete as delete
use Rattle.queues.specs.declared.delete.Deleted.{Deleted}
use Rattle.queues.specs.Delete.{delete_from}

-- ---- what is asked

-- commands 10 to 14
pub data Ask : Type 0 where
  -- an item, for the queue of a name
  Append : ℕ → List ℕ → Ask
  -- the next item of a queue, into so much room
  Next : ℕ → ℕ → Ask
  -- the item at a place, into so much room
  At : ℕ → ℕ → ℕ → Ask
  -- another item, at a place
  Rewrite : ℕ → ℕ → List ℕ → Ask
  Delete : ℕ → Ask

-- a name of 8 bytes, and an item of bytes
abbrev pub asked : Ask → Bool
asked (Append n x) = ltb n (2 ^ 64) && is_bytes x
asked (Next n room) = ltb n (2 ^ 64)
asked (At n p room) = ltb n (2 ^ 64)
asked (Rewrite n p x) = ltb n (2 ^ 64) && is_bytes x
asked (Delete n) = ltb n (2 ^ 64)

-- ---- a turn of the struct

-- the struct and the bytes that lie beside it
pub record Store : Type 0 where
  pub queues : Queues
  pub items : List ℕ

abbrev pub store : Queues → List ℕ → Store
store q b = record { queues = q; items = b }

-- the queues that it stands for
abbrev pub queues_in : Store → List Queue
queues_in s = queues_of s.queues s.items

abbrev pub came : ℕ → ℕ → List ℕ → Queues → List ℕ → Outcome Store
came c n x q b = record { condition = c; number = n; bytes = x; state = store q b }

-- what each outcome means, in document 01's numbers
abbrev pub of_append : append.Lent → Outcome Store
of_append r = came (append.condition_of r.appended.outcome) (append.number_of r.appended.outcome) [] r.appended.queues r.items

abbrev pub of_read : List ℕ → Read → Outcome Store
of_read b r = came (read.condition_of r.outcome) (read.number_of r.outcome) (read.bytes_of b r.outcome) r.queues b

abbrev pub of_rewrite : rewrite.Lent → Outcome Store
of_rewrite r = came (rewrite.condition_of r.rewritten.outcome) 0 [] r.rewritten.queues r.items

abbrev pub of_delete : List ℕ → Deleted → Outcome Store
of_delete b r = came (delete.condition_of r.outcome) (delete.number_of r.outcome) [] r.queues b

-- by the definitions that the contracts cite; all 128 slots may be filled
abbrev pub turn : Store → Ask → Outcome Store
turn s (Append n x) = of_append (append_to s.queues s.items 128 n x)
turn s (Next n room) = of_read s.items (read_next_in s.queues n room)
turn s (At n p room) = of_read s.items (read_in s.queues n p room)
turn s (Rewrite n p x) = of_rewrite (rewrite_in s.queues s.items n p x)
turn s (Delete n) = of_delete s.items (delete_from s.queues n)

-- ---- a turn of the model

abbrev pub plan_of : List Queue → Ask → Plan (List Queue)
plan_of l (Append n x) = model.append cabinet 128 l n x
plan_of l (Next n room) = model.read_next l n room
plan_of l (At n p room) = model.read_at l n p room
plan_of l (Rewrite n p x) = model.rewrite cabinet l n p x
plan_of l (Delete n) = model.delete l n

abbrev pub obeyed : List Queue → Ask → Outcome (List Queue)
obeyed l a = obey l (first_of (plan_of l a).checks) (plan_of l a).effect

-- ---- one after the other

-- what the asker sees
pub record Reply : Type 0 where
  pub condition : ℕ
  pub number : ℕ
  pub bytes : List ℕ

abbrev pub reply : ℕ → ℕ → List ℕ → Reply
reply c n x = record { condition = c; number = n; bytes = x }

module _ {S : Type 0} (step : S → Ask → Outcome S) where
  abbrev pub replies : S → List Ask → List Reply
  replies s [] = []
  replies s (a ∷ l) = reply (step s a).condition (step s a).number (step s a).bytes ∷ replies (step s a).state l

  abbrev pub after : S → List Ask → S
  after s [] = s
  after s (a ∷ l) = after (step s a).state l
