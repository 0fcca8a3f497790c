-- The cases of `append_to`, as the code comes to them; and what the row that the checks give says of the name. Assumes nothing.
use Rattle.std.specs.Prelude.{◌≡◌, refl, ℕ, ◌+◌, ◌≤◌, ◌<◌, true, false, ◌&&◌, List, length, set, position, eqb, leb, ltb, Some, None, Ok, Err}
use Rattle.std.proofs.Common.{sym, ap, ap₂, ◌∙◌, subst, arith, length-take, ne_eqb, ltb-true, ltb-false, lt-ltb, le-ltb, le-leb}
use Rattle.std.proofs.lemmas.Bool.{lt-leb}
use Rattle.base.specs.Lists.{has, copies}
use Rattle.base.specs.Bytes.{blank}
use Rattle.base.specs.Laws.Tests.{by_test, pick_elim}
use Rattle.base.specs.Laws.Keep.{first_at_lt}
use Rattle.slots.specs.Bits.{free_for, marked}
use Rattle.slots.specs.declared.Used.{Used}
use Rattle.queues.specs.declared.Queues.{Queues}
use Rattle.queues.specs.declared.append.AppendError.{AppendError}
use Rattle.queues.specs.declared.append.AppendError.TheVariants.{NoSpace}
use Rattle.queues.specs.Table.{names_of, entries, owners, row_of}
use Rattle.queues.specs.Append.{grown, with_queue, put, stored, answer, in_slot, append_to, checked}
use Rattle.queues.proofs.Laws.Append.{item_wrong, no_row}
use Rattle.queues.proofs.Rows.{row_some, row_none}

-- ---- the checks

module _ (q : Queues) (n size : ℕ) (d : n ≡ blank 8 → ⊥) (f : (leb 1 size && leb size 64) ≡ true) where
  pub checked_known : (row : ℕ) → position (λ m. eqb m n) (names_of q) ≡ Some row → Ok row ≡ checked q n size
  unfolding checked
  checked_known row h =
      let g = row_some q n row h in
      rw (ne_eqb n (blank 8) d, f, g.0) (ap (λ (r : ℕ). Ok r) g.1)

  module _ (h : position (λ m. eqb m n) (names_of q) ≡ None) where
    pub checked_new : q.count < 16 → Ok q.count ≡ checked q n size
    unfolding checked
    checked_new g = rw (ne_eqb n (blank 8) d, f, row_none q n h, lt-ltb q.count 16 g)

    pub checked_full : 16 ≤ q.count → Err NoSpace ≡ checked q n size
    unfolding checked
    checked_full g = rw (ne_eqb n (blank 8) d, f, row_none q n h, le-ltb q.count 16 g)

-- where they hold
pub record Clear (q : Queues) (n size row : ℕ) : Type 0 where
  pub named : eqb n (blank 8) ≡ false
  pub fits : (leb 1 size && leb size 64) ≡ true
  pub room : no_row q n ≡ false
  pub old : has n (names_of q) ≡ true → row < q.count
  pub new : has n (names_of q) ≡ false → row ≡ q.count
  pub below : row < 16

pub checked_clear : (q : Queues) (n size row : ℕ) → length q.names ≡ 16 → checked q n size ≡ Ok row → Clear q n size row
unfolding checked
checked_clear q n size row l e =
    by_test (eqb n (blank 8)) (λ x. absurd (let g = rw x at e in cc))
    (λ x.
    by_test (leb 1 size && leb size 64)
    (λ y.
    by_test (has n (names_of q))
    (λ z.
    let g = rw (x, y, z) at e in
    let is : row ≡ row_of q n = cc in
    let lt = first_at_lt (λ m. eqb m n) (names_of q) z in
    record {
      named = x;
      fits = y;
      room = rw z;
      old = λ _. omega (arith, lt, length-take q.count q.names);
      new = λ w. absurd (let k = sym z ∙ w in cc);
      below = omega (arith, lt, length-take q.count q.names);
    })
    (λ z.
    by_test (ltb q.count 16)
    (λ w.
    let g = rw (x, y, z, w) at e in
    let is : row ≡ q.count = cc in
    let lt = ltb-true q.count 16 w in
    record {
      named = x;
      fits = y;
      room = rw (z, lt-leb 16 q.count lt);
      old = λ v. absurd (let k = sym z ∙ v in cc);
      new = λ _. is;
      below = omega arith;
    })
    (λ w. absurd (let g = rw (x, y, z, w) at e in cc))))
    (λ y. absurd (let g = rw (x, y) at e in cc)))

-- ---- the struct in which the name has a row

module _ (q : Queues) (n size row : ℕ) (c : Clear q n size row) where
  pub row_old : row < q.count → q ≡ with_queue q n
  row_old h = by_test (has n (names_of q)) (λ e. rw e) (λ e. absurd (omega (arith, c.new e)))

  pub row_new : q.count ≤ row → record {
    count = row + 1;
    names = set q.names row n;
    pointers = set q.pointers row 0;
    used = q.used;
    owner = q.owner;
    slot = q.slot;
    len = q.len;
  } ≡ with_queue q n
  unfolding grown
  row_new h = by_test (has n (names_of q)) (λ e. absurd (omega (arith, c.old e))) (λ e. let same = c.new e in rw (e, same))

module _ (q : Queues) (n : ℕ) (x : Queues) (made : x ≡ with_queue q n) where
  either : (P : Queues → Type 0) → P q → P (grown q n) → P x
  either P old new = subst P (sym made) (pick_elim P (has n (names_of q)) q (grown q n) (λ _. old) (λ _. new))

  made_used : x.used ≡ q.used
  unfolding grown
  made_used = either (λ (y : Queues). y.used ≡ q.used) refl refl

-- ---- the cases

module _ (q : Queues) (b : List ℕ) (may n : ℕ) (item : List ℕ) where
  -- an error that the checks give
  pub append_fault : (o : AppendError) → checked q n (length item) ≡ Err o → answer q b (Err o) ≡ append_to q b may n item
  unfolding checked append_to
  append_fault o e =
      by_test (eqb n (blank 8)) (λ x. let f = rw x at e in rw x (cc))
      (λ x.
      by_test (leb 1 (length item) && leb (length item) 64)
      (λ y.
      by_test (has n (names_of q)) (λ z. absurd (let f = rw (x, y, z) at e in cc))
      (λ z.
      by_test (ltb q.count 16) (λ w. absurd (let f = rw (x, y, z, w) at e in cc))
      (λ w. let f = rw (x, y, z, w) at e in rw (x, item_wrong item true y, z, le-leb 16 q.count (ltb-false q.count 16 w)) (cc))))
      (λ y. let f = rw (x, y) at e in rw (x, item_wrong item false y) (cc)))

  -- where there is none: what is done in the struct x, in which the name has a row
  module _ (row : ℕ) (c : Clear q n (length item) row) (x : Queues) (made : x ≡ with_queue q n) where
    append_slot : in_slot x b n item (free_for may x.used) ≡ append_to q b may n item
    unfolding append_to
    append_slot =
        ap₂ (λ (y : Queues) (u : Used). in_slot y b n item (free_for may u)) made (made_used q n x made)
        ∙ rw (c.named, item_wrong item true c.fits, c.room)

    pub append_no_slot : free_for may x.used ≡ None → answer x b (Err NoSpace) ≡ append_to q b may n item
    append_no_slot z = sym (ap (in_slot x b n item) z) ∙ append_slot

    pub append_stored : (k : ℕ) → free_for may x.used ≡ Some k
        → answer (put x n (length item) k) (stored b item k) (Ok (copies n (owners x) + 1)) ≡ append_to q b may n item
    append_stored k z = sym (ap (in_slot x b n item) z) ∙ append_slot

-- ---- the stores

-- one by one, they are `put`
pub stores_put : (x : Queues) (n size k e : ℕ) (u : Used) → e ≡ entries x → u ≡ marked x.used k
    → record {
      count = x.count;
      names = x.names;
      pointers = x.pointers;
      used = u;
      owner = set x.owner e n;
      slot = set x.slot e k;
      len = set x.len k size;
    } ≡ put x n size k
unfolding put
stores_put x n size k e u he hu = cc

-- for the search of `Queues::checked`
pub ruleset checks = (checked_known, checked_new, checked_full)
