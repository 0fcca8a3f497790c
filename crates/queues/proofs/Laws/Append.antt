-- Append: the exact definition comes to what the model's plan says, and leaves sound queues sound; and the rows that the search gives.
-- Assumes nothing.
use Rattle.std.specs.Prelude.{◌≡◌, refl, Bool, true, false, not, ◌&&◌, ◌||◌, List, [], ℕ, ◌+◌, ◌^◌, ◌≤◌, ◌<◌, eqb, leb, ltb, length, Option, Some, None, Ok, Err}
use Rattle.std.proofs.Common.{sym, ap, ap₂, ◌∙◌, subst, ⊎_elim, arith}
use Rattle.std.proofs.Math.Nat.{min-eq_left}
use borrow.Author.Tests.{leb-true, leb-false, le-leb, lt-leb, le-ltb, lt-ltb, ltb-false, not-false}
use Rattle.base.specs.Choice.{pick}
use Rattle.base.specs.Lists.{has, copies}
use Rattle.base.specs.Bytes.{blank}
use Rattle.slots.specs.Bits.{free_for}
use Rattle.slots.specs.Told.{Free}
use Rattle.slots.proofs.Laws.Free.{free_at, free_full}
use Rattle.slots.specs.declared.Used.{Used}
use Rattle.model.specs.Limits.{cabinet, some}
use Rattle.model.specs.Plans.{Outcome, first_of, obey, fault, done, no_space, wrong_length, invalid_request}
use Rattle.model.specs.Queues.{Queue, known_queue, queue_of, items_in, made, at_queue, longer, append}
use Rattle.base.specs.Laws.Tests.{by_test, or_false_l, or_false_r, pick_elim}
use Rattle.queues.specs.declared.Queues.{Queues}
use Rattle.queues.specs.declared.append.Appended.{Appended}
use Rattle.queues.specs.declared.append.AppendError.TheVariants.{NoSpace, WrongLength, Invalid}
use Rattle.queues.specs.Table.{names_of, owners}
use Rattle.queues.specs.Model.{queues_of}
use Rattle.queues.specs.Sound.{sound_q, Did}
use Rattle.queues.specs.Append.{condition_of, number_of, with_queue, put, stored, Lent, lent, answer, in_slot, append_to}
use Rattle.queues.specs.Laws.Typed.{Typed}
use Rattle.queues.specs.Laws.Stands.{QueuesHold, holds, held_sound, known_of_lem, count_of, items_of_lem, number_of_lem}
use Rattle.queues.specs.Laws.Grown.{Ready, ready}
use Rattle.queues.specs.Laws.Put.{put_holds, put_stands}

-- ---- the cases

-- "length not 1..64"
abbrev pub wrong : List ℕ → Bool
wrong item = not (some item) || ltb 64 (length item)

-- the length that an item has
pub item_wrong : (item : List ℕ) (r : Bool) → (leb 1 (length item) && leb (length item) 64) ≡ r → wrong item ≡ not r
item_wrong item r e =
    let m = length item in
    by_test (some item)
    (λ f.
    by_test (leb m 64)
    (λ g. let h = rw (f, g) at e in rw (f, le-ltb 64 m (leb-true m 64 g)) (ap not h))
    (λ g. let h = rw (f, g) at e in rw (f, lt-ltb 64 m (leb-false m 64 g)) (ap not h)))
    (λ f. let h = rw f at e in rw f (ap not h))

-- "the name is unknown and 16 queues exist"
abbrev pub no_row : Queues → ℕ → Bool
no_row q n = not (has n (names_of q)) && leb 16 q.count

pub append_elim : (q : Queues) (b : List ℕ) (may n : ℕ) (item : List ℕ) (P : Lent → Type 0)
    → (eqb n (blank 8) ≡ true → P (answer q b (Err Invalid)))
    → (eqb n (blank 8) ≡ false → wrong item ≡ true → P (answer q b (Err WrongLength)))
    → (eqb n (blank 8) ≡ false → wrong item ≡ false → no_row q n ≡ true → P (answer q b (Err NoSpace)))
    → (eqb n (blank 8) ≡ false → wrong item ≡ false → no_row q n ≡ false → (x : Option ℕ) → free_for may q.used ≡ x → P (in_slot (with_queue q n) b n item x))
    → P (append_to q b may n item)
unfolding append_to
append_elim q b may n item P a w f d =
    let last : Lent = in_slot (with_queue q n) b n item (free_for may q.used) in
    let third : Lent = pick (no_row q n) (answer q b (Err NoSpace)) last in
    pick_elim P (eqb n (blank 8)) (answer q b (Err Invalid)) (pick (wrong item) (answer q b (Err WrongLength)) third) a
    (λ e.
    pick_elim P (wrong item) (answer q b (Err WrongLength)) third (w e)
    (λ g. pick_elim P (no_row q n) (answer q b (Err NoSpace)) last (f e g) (λ h. d e g h (free_for may q.used) refl)))

-- ---- what the plan says, by its checks

module _ (may : ℕ) (l : List Queue) (n : ℕ) (item : List ℕ) where
  abbrev told : Outcome (List Queue)
  told = obey l (first_of (append cabinet may l n item).checks) (append cabinet may l n item).effect

  told_invalid : eqb n (blank 8) ≡ true → fault l invalid_request ≡ told
  unfolding append
  told_invalid e = rw e

  module _ (e : eqb n (blank 8) ≡ false) where
    told_length : (not (some item) || ltb 64 (length item)) ≡ true → fault l wrong_length ≡ told
    unfolding append
    told_length f = rw (e, f)

    module _ (f : (not (some item) || ltb 64 (length item)) ≡ false) where
      told_no_row : (not (known_queue l n) && leb 16 (length l)) ≡ true → fault l no_space ≡ told
      unfolding append
      told_no_row g = rw (e, f, g)

      module _ (g : (not (known_queue l n) && leb 16 (length l)) ≡ false) where
        told_no_slot : may ≤ items_in l → fault (made l n) no_space ≡ told
        unfolding append
        told_no_slot h = rw (e, f, g, le-leb may (items_in l) h)

        told_stored : items_in l < may → done (at_queue n (longer item) (made l n)) (length (queue_of l n).items + 1) ≡ told
        unfolding append
        told_stored h = rw (e, f, g, lt-leb may (items_in l) h)

-- ---- what the struct comes to

module _ (q : Queues) (b : List ℕ) (may n : ℕ) (item : List ℕ) (t : Typed q) (w : n < 2 ^ 64) (long : length b ≡ 8192) (sound : sound_q q ≡ true) (m : may ≤ 128) where
  abbrev l : List Queue
  l = queues_of q b

  abbrev s : QueuesHold q
  s = holds q sound

  abbrev pub Meets : Lent → Type 0
  Meets r =
      Did q b r.appended.queues r.items (append cabinet may (queues_of q b) n item)
      (condition_of r.appended.outcome) (number_of r.appended.outcome) []

  -- the test of the rows, as the model makes it
  row_test : (not (known_queue l n) && leb 16 (length l)) ≡ (not (has n (names_of q)) && leb 16 q.count)
  row_test = cc (known_of_lem q b t n, count_of q b t, min-eq_left s.laid.few)

  module _ (e : eqb n (blank 8) ≡ false) (f : (not (some item) || ltb 64 (length item)) ≡ false)
      (g : (not (has n (names_of q)) && leb 16 q.count) ≡ false) where
    abbrev r : Queues
    r = with_queue q n

    is : Ready q n r
    is = ready q n t s w e g

    no_slot : free_for may q.used ≡ None → Meets (answer r b (Err NoSpace))
    no_slot z = record {
      outcome =
          ap (λ (x : List Queue). fault x no_space) (is.stands b)
          ∙ told_no_slot may l n item e f (row_test ∙ g)
          (omega (arith, items_of_lem q b t s, ⊎_elim (λ h. h) (λ h. omega arith) (free_full q.used t.words may z)));
      soundly = held_sound r is.held;
    }

    low : 1 ≤ length item
    low = leb-true 1 (length item) (not-false (some item) (or_false_l (not (some item)) (ltb 64 (length item)) f))

    high : length item ≤ 64
    high = ltb-false 64 (length item) (or_false_r (not (some item)) (ltb 64 (length item)) f)

    module _ (k : ℕ) (z : free_for may q.used ≡ Some k) where
      free : Free may r.used k
      free = subst (λ (u : Used). Free may u k) (sym is.same) (free_at q.used t.words may k z)

      into : Meets (answer (put r n (length item) k) (stored b item k) (Ok (copies n (owners r) + 1)))
      into = record {
        outcome =
            ap₂ (λ (x : List Queue) (p : ℕ). done x (p + 1))
            (put_stands r is.typed is.held n k may free b item long high ∙ ap (at_queue n (longer item)) (is.stands b))
            (ap (copies n) is.owned ∙ sym (number_of_lem q b t s n))
            ∙ told_stored may l n item e f (row_test ∙ g) (omega (arith, items_of_lem q b t s, (free_at q.used t.words may k z).share));
        soundly = held_sound (put r n (length item) k) (put_holds r is.typed n (length item) k may free is.held is.there low high);
      }

    slot_case : (x : Option ℕ) → free_for may q.used ≡ x → Meets (in_slot r b n item x)
    slot_case None z = no_slot z
    slot_case (Some k) z = into k z

  pub append_meets : Meets (append_to q b may n item)
  append_meets =
      append_elim q b may n item Meets (λ e. record { outcome = told_invalid may l n item e; soundly = sound })
      (λ e f. record { outcome = told_length may l n item e f; soundly = sound })
      (λ e f g. record { outcome = told_no_row may l n item e f (row_test ∙ g); soundly = sound }) slot_case

-- what a function owes that comes to `append_to`
pub append_both : (q : Queues) (b : List ℕ) (may n : ℕ) (item : List ℕ) (r : Appended) (b' : List ℕ) → Typed q → n < 2 ^ 64 → length b ≡ 8192
    → lent r b' ≡ append_to q b may n item
    → (lent r b' ≡ append_to q b may n item)
    × (sound_q q ≡ true → may ≤ 128 → Did q b r.queues b' (append cabinet may (queues_of q b) n item) (condition_of r.outcome) (number_of r.outcome) [])
append_both q b may n item r b' t w long e = (
  e,
  λ h m.
      subst (λ (x : Lent). Did q b x.appended.queues x.items (append cabinet may (queues_of q b) n item) (condition_of x.appended.outcome) (number_of x.appended.outcome) [])
      (sym e) (append_meets q b may n item t w long h m),
)
