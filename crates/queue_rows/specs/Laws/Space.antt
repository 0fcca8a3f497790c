-- "Space is refused only when the table in question is full", and freed room serves again: append finds no space only where no row is left for a new
-- name or no slot for the item, it never stores there, and it stores where there is both; after a delete that freed an item there is. Assumes nothing.
use Rattle.std.specs.Prelude.{◌≡◌, refl, false, not, List, ◌⊎◌, ℕ, ◌+◌, ◌≤◌, ◌<◌, min, eqb, leb, length}
use Rattle.std.proofs.Common.{sym, ap, inl, inr, ⊎_elim, arith, length-take, leb-true, leb-false, le-leb, le-ltb}
use Rattle.std.proofs.lemmas.Bool.{lt-leb, not-true}
use Rattle.base.specs.Lists.{has, copies}
use Rattle.base.specs.Bytes.{blank}
use Rattle.base.specs.Laws.Tests.{by_test, no, both, pick_elim}
use Rattle.base.specs.Laws.Keep.{first_at_lt}
use Rattle.slots.proofs.Laws.Free.{free_some, free_at, free_full}
use Rattle.std.specs.Prelude.{Option}
use Rattle.std.specs.Prelude.{Some, None}
use Rattle.model.specs.Plans.{normal, no_space, Outcome}
use Rattle.queue_rows.specs.Table.{Queues, rows_in, slots_in, names_of, entries, owners, Store}
use Rattle.queue_rows.specs.Sound.{SoundS}
use Rattle.queue_rows.specs.Append.{grown, with_queue, in_slot, append_to}
use Rattle.queue_rows.specs.Delete.{shut_row, emptied, delete_from}
use Rattle.queue_rows.specs.Laws.Typed.{Fits}
use Rattle.queue_rows.specs.Laws.Stands.{holds}
use Rattle.queue_rows.specs.Laws.Append.{no_row, slot_for, append_elim}
use Rattle.queue_rows.specs.Laws.Delete.{delete_elim, rows_left, slots_left, delete_frees}

-- ---- full

-- "the name is unknown and 16 queues exist", or as many as there can be; or the asker's slots, or all that there are, are in use
abbrev pub NoRoom : Queues → ℕ → ℕ → Type 0
NoRoom q may n = ((has n (names_of q) ≡ false) × (q.count ≡ rows_in q)) ⊎ ((may ≤ entries q) ⊎ (entries q ≡ slots_in q))

module _ (s : Store) (f : Fits s.queues s.items) (h : SoundS s) (may n : ℕ) (item : List ℕ) where
  abbrev q : Queues
  q = s.queues

  abbrev b : List ℕ
  b = s.items

  pub refused_full : (append_to s.queues s.items may n item).condition ≡ no_space → NoRoom s.queues may n
  refused_full =
      append_elim q b may n item (λ (o : Outcome Store). o.condition ≡ no_space → NoRoom q may n)
      (λ _ e. absurd (omega arith)) (λ _ _ e. absurd (omega arith))
      (λ _ _ g _.
      let few = (holds q h).laid.few in
      let c = both (not (has n (names_of q))) (leb (rows_in q) q.count) g in
      let all : rows_in q ≤ q.count = leb-true (rows_in q) q.count c.1 in
      inl (not-true (has n (names_of q)) c.0, omega arith))
      (λ _ _ _ x z. slot_case x z)
    where
      slot_case : (x : Option ℕ) → slot_for q may ≡ x → (in_slot (with_queue q n) b n item x).condition ≡ no_space → NoRoom q may n
      slot_case None z e =
          let room = (holds q h).laid.room in
          by_test (leb may (entries q)) (λ m. inr (inl (leb-true may (entries q) m)))
          (λ m.
          let less : entries q < may = leb-false may (entries q) m in
          inr (inr (⊎_elim (λ x. omega arith) (λ x. omega (arith, f.slots_few)) (free_full q.used f.words (min may (slots_in q)) z))))
      slot_case (Some k) z e = absurd (omega arith)

  pub full_refused : NoRoom s.queues may n → (append_to s.queues s.items may n item).condition ≡ normal → ⊥
  full_refused r =
      append_elim q b may n item (λ (o : Outcome Store). o.condition ≡ normal → ⊥)
      (λ _ e. omega arith) (λ _ _ e. omega arith) (λ _ _ _ e. omega arith) (λ _ _ g x z. slot_case r g x z)
    where
      slot_case : NoRoom q may n → no_row q n ≡ false → (x : Option ℕ) → slot_for q may ≡ x
          → (in_slot (with_queue q n) b n item x).condition ≡ normal → ⊥
      slot_case r g None z e = omega arith
      slot_case (inl (u, c)) g (Some k) z e = no (sym (rw (u, le-leb (rows_in q) q.count (omega arith)) at g))
      slot_case (inr (inl m)) g (Some k) z e = omega (arith, (free_at q.used f.words (min may (slots_in q)) k z).share)
      slot_case (inr (inr m)) g (Some k) z e = omega (arith, (free_at q.used f.words (min may (slots_in q)) k z).share)

-- ---- not full

-- a name that is not blank and an item of 1 to 64 bytes
pub record Fair (n : ℕ) (item : List ℕ) : Type 0 where
  pub named : eqb n (blank 8) ≡ false
  pub some : 1 ≤ length item
  pub short : length item ≤ 64

-- the item is stored, behind those that the queue has
pub record Takes (o : Outcome Store) (q : Queues) (n : ℕ) : Type 0 where
  pub condition : o.condition ≡ normal
  pub number : o.number ≡ copies n (owners q) + 1

same_owners : (q : Queues) (n : ℕ) → owners (with_queue q n) ≡ owners q
unfolding grown
same_owners q n = pick_elim (λ (x : Queues). owners x ≡ owners q) (has n (names_of q)) q (grown q n) (λ _. refl) (λ _. refl)

pub takes : (q : Queues) (b : List ℕ) → slots_in q ≤ 128 → (may n : ℕ) (item : List ℕ) → Fair n item → no_row q n ≡ false → entries q < may
    → entries q < slots_in q → Takes (append_to q b may n item) q n
unfolding append_to
takes q b f may n item fair g m l =
    let slot = free_some (min may (slots_in q)) q.used (omega arith) (omega arith) in
    rw (fair.named, le-leb 1 (length item) fair.some, le-ltb 64 (length item) fair.short, g, slot)
    (record { condition = refl; number = ap (λ (l : List ℕ). copies n l + 1) (same_owners q n) })

-- ---- freed room serves again

-- what a delete that frees leaves: a row less, and as many slots; and the number is how many entries the queue had
record Gone (q : Queues) (n : ℕ) (o : Outcome Queues) : Type 0 where
  fewer : o.state.count < rows_in o.state
  slots : slots_in o.state ≡ slots_in q
  number : o.number ≡ copies n (owners q)

gone : (q : Queues) (n : ℕ) → (delete_from q n).condition ≡ normal → Gone q n (delete_from q n)
unfolding emptied shut_row
gone q n =
    delete_elim q n (λ (o : Outcome Queues). o.condition ≡ normal → Gone q n o) (λ _ e. absurd (omega arith)) (λ _ _ e. absurd (omega arith))
    (λ _ k _.
    record {
      fewer = omega (arith, first_at_lt (λ m. eqb m n) (names_of q) k, rows_left q n, length-take q.count q.names);
      slots = slots_left q n;
      number = refl;
    })

pub serves : (s : Store) → Fits s.queues s.items → SoundS s → (n : ℕ) → (delete_from s.queues n).condition ≡ normal
    → 1 ≤ (delete_from s.queues n).number → (b : List ℕ) (m : ℕ) (item : List ℕ) → Fair m item
    → Takes (append_to (delete_from s.queues n).state b (slots_in s.queues) m item) (delete_from s.queues n).state m
serves s f h n e some b m item fair =
    let q = s.queues in
    let r = (delete_from q n).state in
    let g = gone q n e in
    let fewer = (delete_frees s f h n).fewer in
    let room : entries r < slots_in q = omega (arith, (holds q h).laid.room, g.number) in
    let none : no_row r m ≡ false = by_test (has m (names_of r)) (λ t. rw t) (λ t. rw (t, lt-leb (rows_in r) r.count g.fewer)) in
    takes r b (omega (arith, g.slots, f.slots_few)) (slots_in q) m item fair none room (omega (arith, g.slots))
