-- The lowest free slot: it is no row's, and it is there exactly if there are fewer rows than slots, each with a slot of its own. Assumes nothing.
use Rattle.std.specs.Prelude.{ℕ, zero, suc, ◌+◌, ◌/◌, ◌<◌, ◌≤◌, ◌≡◌, refl, true, false, not, ◌&&◌, List, [], ◌∷◌, ◌++◌, map, eqb, ltb, leb, length, Option, Some, None}
use Rattle.std.proofs.Common.{suc-le-suc, sym, ap, ◌∙◌, arith, length-append, ltb-true, ltb-false, lt-ltb, eqb-true, le-leb}
use Rattle.std.specs.Int.Count.{ones, ones_step}
use Rattle.std.proofs.lemmas.List.{length-map}
use Rattle.std.proofs.lemmas.Bool.{eqb-false, lt-leb}
use Rattle.base.specs.Lists.{any, all, has, once}
use Rattle.base.specs.Laws.Tests.{by_test, no, and_l, and_r, and_i, eqb_same, is_false}
use Rattle.base.specs.Laws.Keep.{all_append, all_imp}
use Rattle.base.specs.Laws.Maps.{all_map}
use Rattle.base.specs.Laws.Counting.{has_map, once_snoc, pigeon}
use Rattle.slots.specs.Bits.{bit, number, held, none, marked, free_for, lowest_clear}
use Rattle.slots.specs.Told.{Typed}
use Rattle.slots.specs.declared.Used.{Used}
use Rattle.slots.proofs.Laws.Slots.{none_typed, none_held, marked_bit, marked_typed, put_held, put_past}
use Rattle.slots.proofs.Laws.Lowest.{lowest_is}
use Rattle.slots.proofs.Laws.Free.{free_some, free_at}
use Rattle.request_rows.specs.Rows.{Row, slot_of}
use Rattle.request_rows.specs.Table.{Requests, live, slots_in, spaces}
use Rattle.request_rows.specs.Start.{used_from, slot_from, free_slot, room_in}
use Rattle.request_rows.specs.Laws.Ties.{inside, Laid}

-- ---- numbers below a bound, none twice: no more than the bound

abbrev below : ℕ → List ℕ
below zero = []
below (suc n) = n ∷ below n

length_below : (n : ℕ) → length (below n) ≡ n
length_below zero = refl
length_below (suc n) = ap suc (length_below n)

has_below : (n k : ℕ) → k < n → has k (below n) ≡ true
has_below zero k h = absurd (omega arith)
has_below (suc n) k h = by_test (eqb n k) (λ e. rw e) (λ e. let d = eqb-false n k e in rw e (has_below n k (lower d)))
  where
    lower : (n ≡ k → ⊥) → k < n
    lower d = by_test (ltb k n) (ltb-true k n) (λ f. absurd (d (omega (arith, ltb-false k n f))))

pub once_below : (n : ℕ) (l : List ℕ) → once l ≡ true → all (λ k. ltb k n) l ≡ true → length l ≤ n
once_below n l o h =
    omega (arith, length_below n, pigeon l (below n) o (all_imp (λ k. ltb k n) (λ k. has k (below n)) (λ k e. has_below n k (ltb-true k n e)) l h))

-- ---- a free slot is no higher than there are rows

-- of a number whose r lowest digits are set
ones_least : (r w : ℕ) → ((j : ℕ) → j < r → bit w j ≡ 1) → r ≤ ones w
unfolding bit
ones_least zero w h = omega arith
ones_least (suc r) w h = omega (arith, ones_step w, h zero (omega arith), ones_least r (w / 2) (λ j l. h (suc j) (suc-le-suc l)))

marked_le : (u : Used) → Typed u → (k : ℕ) → held (marked u k) ≤ held u + 1
marked_le u t k =
    by_test (ltb k 128) (λ e. omega (arith, put_held u t k 1 (omega arith) (ltb-true k 128 e)))
    (λ e. omega (arith, ap held (put_past u k 1 (ltb-false k 128 e))))

used_le : (l : List Row) (u : Used) → Typed u → held (used_from u l) ≤ held u + length l
used_le [] u t = omega arith
used_le (q ∷ l) u t = omega (arith, marked_le u t (slot_of q), used_le l (marked u (slot_of q)) (marked_typed u t (slot_of q)))

pub slot_low : (l : List Row) → length l < 128 → free_slot l ≤ length l
unfolding free_slot
slot_low l h =
    let u : Used = used_from none l in
    let n : held (used_from none l) < 128 = omega (arith, used_le l none none_typed, none_held) in
    let e : slot_from (free_for 128 (used_from none l)) ≡ lowest_clear (number (used_from none l)) 128 = ap slot_from (free_some 128 u n n) in
    omega (arith, used_le l none none_typed, none_held, ones_least (lowest_clear (number u) 128) (number u) (lowest_is (number u) 128).below)

-- ---- a slot that a row has is in use

used_typed : (l : List Row) (u : Used) → Typed u → Typed (used_from u l)
used_typed [] u t = t
used_typed (q ∷ l) u t = used_typed l (marked u (slot_of q)) (marked_typed u t (slot_of q))

used_stays : (l : List Row) (u : Used) → Typed u → (k : ℕ) → bit (number u) k ≡ 1 → bit (number (used_from u l)) k ≡ 1
used_stays [] u t k h = h
used_stays (q ∷ l) u t k h =
    used_stays l (marked u (slot_of q)) (marked_typed u t (slot_of q)) k
    (marked_bit u t (slot_of q) k ∙ by_test (eqb k (slot_of q) && ltb (slot_of q) 128) (λ e. rw e) (λ e. rw e h))

used_has : (l : List Row) (u : Used) → Typed u → (k : ℕ) → k < 128 → any (λ (q : Row). eqb (slot_of q) k) l ≡ true → bit (number (used_from u l)) k ≡ 1
used_has [] u t k b h = no h
used_has (q ∷ l) u t k b h =
    by_test (eqb (slot_of q) k)
    (λ e.
    let z : slot_of q ≡ k = eqb-true (slot_of q) k e in
    used_stays l (marked u (slot_of q)) (marked_typed u t (slot_of q)) k (marked_bit u t (slot_of q) k ∙ rw (z, eqb_same k, lt-ltb k 128 b)))
    (λ e. used_has l (marked u (slot_of q)) (marked_typed u t (slot_of q)) k b (rw e at h))

slot_at_lem : (s : Option ℕ) → slot_from s < 128 → s ≡ Some (slot_from s)
slot_at_lem (Some j) b = refl
slot_at_lem None b = absurd (omega arith)

-- the free slot is no row's
pub slot_free : (l : List Row) → free_slot l < 128 → has (free_slot l) (map slot_of l) ≡ false
unfolding free_slot
slot_free l b =
    let u : Used = used_from none l in
    let k : ℕ = slot_from (free_for 128 u) in
    is_false (has k (map slot_of l))
    (λ h.
    omega (
      arith,
      (free_at u (used_typed l none none_typed) 128 k (slot_at_lem (free_for 128 u) b)).clear,
      used_has l none none_typed k b (sym (has_map slot_of k l) ∙ h),
    ))

-- ---- room

module _ (t : Requests) (area : List ℕ) (h : Laid area (live t)) where
  abbrev slots : List ℕ
  slots = map slot_of (live t)

  -- with the free slot they are one more, none twice and all inside
  fewer : free_slot (live t) < slots_in area → length (live t) < slots_in area
  fewer b =
      let k : ℕ = free_slot (live t) in
      let n : ℕ = slots_in area in
      let o : once (map slot_of (live t) ++ (free_slot (live t) ∷ [])) ≡ true = once_snoc k slots (slot_free (live t) (omega arith)) h.apart in
      let i : all (λ j. ltb j (slots_in area)) (map slot_of (live t)) ≡ true = all_map slot_of (inside area) (λ j. ltb j n) (λ q. refl) (live t) ∙ h.insides in
      let a : all (λ j. ltb j (slots_in area)) (map slot_of (live t) ++ (free_slot (live t) ∷ [])) ≡ true =
      all_append (λ j. ltb j n) slots (k ∷ []) ∙ and_i i (and_i (lt-ltb k n b) refl) in
      omega (arith, once_below n (slots ++ (k ∷ [])) o a, length-append slots (k ∷ []), length-map (live t) slot_of)

  room_few : room_in t area ≡ true → length (live t) < spaces t area
  room_few e =
      let a = ltb-true (length (live t)) (length t.rows) (and_l (ltb (length (live t)) (length t.rows)) _ e) in
      let b = fewer (ltb-true (free_slot (live t)) (slots_in area) (and_r (ltb (length (live t)) (length t.rows)) _ e)) in
      omega arith

  few_room : length (live t) < spaces t area → room_in t area ≡ true
  few_room b =
      let l = slot_low (live t) (omega arith) in
      and_i (lt-ltb (length (live t)) (length t.rows) (omega arith)) (lt-ltb (free_slot (live t)) (slots_in area) (omega arith))

  pub room_at : not (room_in t area) ≡ leb (spaces t area) (length (live t))
  room_at =
      by_test (room_in t area) (λ e. rw e (sym (lt-leb (spaces t area) (length (live t)) (room_few e))))
      (λ e.
      rw e
      (sym (le-leb (spaces t area) (length (live t))
      (by_test (ltb (length (live t)) (spaces t area))
      (λ f. no (sym e ∙ few_room (ltb-true (length (live t)) (spaces t area) f))) (ltb-false (length (live t)) (spaces t area))))))
