-- "Space is refused only when the table in question is full", and freed room serves again: append finds no space only where no row is left
-- for a new name or no slot for the item, it never stores there, and it stores where there is both; after a delete that freed an item there
-- is. Assumes nothing.
use Rattle.std.specs.Prelude.{◌≡◌, refl, true, false, not, List, ◌⊎◌, ℕ, ◌+◌, ◌≤◌, ◌<◌, eqb, leb, length, Option, Some, None, Ok, Err}
use Rattle.std.proofs.Common.{sym, inl, inr, arith, leb-true, le-leb, le-ltb}
use Rattle.std.proofs.lemmas.Bool.{lt-leb, not-true}
use Rattle.base.specs.Choice.{pick}
use Rattle.base.specs.Lists.{has, copies}
use Rattle.base.specs.Bytes.{blank}
use Rattle.base.specs.Laws.Tests.{by_test, no, and_l, and_r, pick_elim}
use Rattle.slots.specs.Bits.{free_for}
use Rattle.slots.proofs.Laws.Free.{free_some, free_at, free_full}
use Rattle.queues.specs.declared.Queues.{Queues}
use Rattle.queues.specs.declared.append.AppendError.TheVariants.{NoSpace}
use Rattle.queues.specs.declared.delete.Deleted.{Deleted}
use Rattle.queues.specs.declared.delete.DeleteError.TheVariants.{UnknownQueue, Invalid}
use Rattle.queues.specs.Table.{names_of, entries, owners}
use Rattle.queues.specs.Sound.{sound_q}
use Rattle.queues.specs.Append.{Lent, grown, with_queue, in_slot, append_to}
use Rattle.queues.specs.Delete.{shut_at, shut, emptied, swept, answer, delete_from}
use Rattle.queues.specs.Laws.Typed.{Typed, entries_le}
use Rattle.queues.specs.Laws.Stands.{holds}
use Rattle.queues.proofs.Laws.Append.{no_row, append_elim}
use Rattle.queues.proofs.Laws.Delete.{delete_frees}

-- ---- full

-- "the name is unknown and 16 queues exist", or the asker's slots, or all 128, are in use
abbrev pub NoRoom : Queues → ℕ → ℕ → Type 0
NoRoom q may n = ((has n (names_of q) ≡ false) × (q.count ≡ 16)) ⊎ ((may ≤ entries q) ⊎ (entries q ≡ 128))

module _ (q : Queues) (b : List ℕ) (may n : ℕ) (item : List ℕ) (t : Typed q) (sound : sound_q q ≡ true) where
  pub refused_full : (append_to q b may n item).appended.outcome ≡ Err NoSpace → NoRoom q may n
  refused_full =
      append_elim q b may n item (λ (r : Lent). r.appended.outcome ≡ Err NoSpace → NoRoom q may n)
      (λ _ e. absurd (cc)) (λ _ _ e. absurd (cc))
      (λ _ _ g _.
      let few = (holds q sound).laid.few in
      let sixteen : 16 ≤ q.count = leb-true 16 q.count (and_r (not (has n (names_of q))) (leb 16 q.count) g) in
      inl (not-true (has n (names_of q)) (and_l (not (has n (names_of q))) (leb 16 q.count) g), omega arith))
      (λ _ _ _ x z. slot_case x z)
    where
      slot_case : (x : Option ℕ) → free_for may q.used ≡ x → (in_slot (with_queue q n) b n item x).appended.outcome ≡ Err NoSpace → NoRoom q may n
      slot_case None z e = inr (free_full q.used t.words may z)
      slot_case (Some k) z e = absurd (cc)

  pub full_refused : NoRoom q may n → (p : ℕ) → (append_to q b may n item).appended.outcome ≡ Ok p → ⊥
  full_refused f p =
      append_elim q b may n item (λ (r : Lent). r.appended.outcome ≡ Ok p → ⊥)
      (λ _ e. cc) (λ _ _ e. cc)
      (λ _ _ _ e. cc)
      (λ _ _ g x z. slot_case f g x z)
    where
      slot_case : NoRoom q may n → no_row q n ≡ false → (x : Option ℕ) → free_for may q.used ≡ x
          → (in_slot (with_queue q n) b n item x).appended.outcome ≡ Ok p → ⊥
      slot_case f g None z e = cc
      slot_case (inl (u, c)) g (Some k) z e = no (sym (rw (u, c) at g))
      slot_case (inr (inl h)) g (Some k) z e = omega (arith, (free_at q.used t.words may k z).share)
      slot_case (inr (inr h)) g (Some k) z e = omega (arith, (free_at q.used t.words may k z).room)

-- ---- not full

-- a name that is not blank and an item of 1 to 64 bytes
pub record Fair (n : ℕ) (item : List ℕ) : Type 0 where
  pub named : eqb n (blank 8) ≡ false
  pub some : 1 ≤ length item
  pub short : length item ≤ 64

same_owners : (q : Queues) (n : ℕ) → owners (with_queue q n) ≡ owners q
unfolding grown
same_owners q n = pick_elim (λ (x : Queues). owners x ≡ owners q) (has n (names_of q)) q (grown q n) (λ _. refl) (λ _. refl)

pub takes : (q : Queues) (b : List ℕ) (may n : ℕ) (item : List ℕ) → Fair n item → no_row q n ≡ false → entries q < may → entries q < 128
    → (append_to q b may n item).appended.outcome ≡ Ok (copies n (owners q) + 1)
unfolding append_to
takes q b may n item f g h l =
    rw (f.named, le-leb 1 (length item) f.some, le-ltb 64 (length item) f.short, g, free_some may q.used h l, same_owners q n)

-- ---- freed room serves again

-- what a delete that frees leaves: a row less, and the number is how many entries the queue had
gone : (q : Queues) (n k : ℕ) → (delete_from q n).outcome ≡ Ok k → ((delete_from q n).queues.count < 16) × (k ≡ copies n (owners q))
unfolding delete_from swept emptied shut_at
gone q n k =
    let invalid : Deleted = answer q (Err Invalid) in
    let unknown : Deleted = answer q (Err UnknownQueue) in
    let T : Deleted → Type 0 = λ (r : Deleted). r.outcome ≡ Ok k → (r.queues.count < 16) × (k ≡ copies n (owners q)) in
    pick_elim T (eqb n (blank 8)) invalid (pick (has n (names_of q)) (swept (shut q n) n) unknown)
    (λ _ e. absurd (cc))
    (λ _.
    pick_elim T (has n (names_of q)) (swept (shut q n) n) unknown (λ _ e. (omega arith, cc))
    (λ _ e. absurd (cc)))

pub serves : (q : Queues) (n k : ℕ) → Typed q → sound_q q ≡ true → (delete_from q n).outcome ≡ Ok k → 1 ≤ k
    → (b : List ℕ) (m : ℕ) (item : List ℕ) → Fair m item
    → (append_to (delete_from q n).queues b 128 m item).appended.outcome ≡ Ok (copies m (owners (delete_from q n).queues) + 1)
serves q n k t sound e some b m item f =
    let r = (delete_from q n).queues in
    let g = gone q n k e in
    let fewer = (delete_frees q n t sound).fewer in
    let room : entries r < 128 = omega (arith, entries_le q t) in
    let row : leb 16 r.count ≡ false = lt-leb 16 r.count g.0 in
    let none : no_row r m ≡ false = by_test (has m (names_of r)) (λ h. rw h) (λ h. rw (h, row)) in
    takes r b 128 m item f none room room
