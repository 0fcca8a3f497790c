-- A read by the number of the item's slot, and the outcome of one that finds an item by the room there is for it: the specs have an Option and a Result
-- now, and nothing cites these. Assumes nothing.
use Rattle.std.specs.Prelude.{◌≡◌, refl, false, List, ℕ, ◌<◌, ◌≤◌, min, eqb, leb, ltb, length, take, drop, Result, Ok, Err}
use Rattle.std.proofs.Common.{arith}
use Rattle.std.proofs.Math.Path.{subst}
use Rattle.std.proofs.Math.Bool.{true}
use borrow.Author.Tests.{leb-false, lt-leb, lt-ltb, le-ltb, ltb-true, ltb-false}
use Rattle.base.specs.Choice.{pick}
use Rattle.base.specs.Lists.{has}
use Rattle.base.specs.Bytes.{blank}
use Rattle.base.specs.Laws.Tests.{by_test}
use Rattle.model.specs.Plans.{Outcome, cut, normal, wrong_length}
use Rattle.queues.specs.declared.Queues.{Queues}
use Rattle.queues.specs.declared.read.Part.{Part}
use Rattle.queues.specs.declared.read.ReadError.{ReadError}
use Rattle.queues.specs.declared.read.ReadError.TheVariants.{NoSuchItem, UnknownQueue, Invalid}
use Rattle.queues.specs.declared.read.Read.{Read}
use Rattle.queues.specs.Table.{names_of, slots_in}
use Rattle.queues.specs.Read.{condition_of, number_of, bytes_of, Inside, Lies, part_in, point_to, answer, read_in}
use Rattle.queues.specs.Laws.Place as places
use Rattle.queues.specs.Laws.Read as now
use Rattle.queues.proofs.Counted.Place.{slot_in, number_some, number_none, option_some, option_none}

-- what is given of a part, where there is so much room
abbrev pub given : ℕ → Part → Result Part ReadError
given room p = Ok p

-- "A reader whose room is shorter than the item gets the first room bytes and condition 4"
pub given_condition : (room : ℕ) (p : Part) → p.len ≡ min p.full room → condition_of (given room p) ≡ pick (ltb room p.full) wrong_length normal
given_condition room p e =
    by_test (ltb room p.full)
    (λ f. let h : p.len < p.full = omega (arith, ltb-true room p.full f, e) in rw (f, lt-ltb p.len p.full h))
    (λ f. let h : p.full ≤ p.len = omega (arith, ltb-false room p.full f, e) in rw (f, le-ltb p.len p.full h))

-- ---- the cases

module _ (q : Queues) (n p room : ℕ) where
  abbrev pub done : Read
  done = answer (point_to q n p) (given room (part_in q room (slot_in q n p)))

  slot_below : leb 128 (slot_in q n p) ≡ false → slot_in q n p < 128
  slot_below g = leb-false 128 (slot_in q n p) g

  pub read_elim : (P : Read → Type 0)
      → (eqb n (blank 8) ≡ true → P (answer q (Err Invalid)))
      → (eqb n (blank 8) ≡ false → has n (names_of q) ≡ false → P (answer q (Err UnknownQueue)))
      → (eqb n (blank 8) ≡ false → has n (names_of q) ≡ true → leb 128 (slot_in q n p) ≡ true → P (answer q (Err NoSuchItem)))
      → (eqb n (blank 8) ≡ false → has n (names_of q) ≡ true → leb 128 (slot_in q n p) ≡ false → P done)
      → P (read_in q n p room)
  read_elim P a u o d =
      now.read_elim q n p room P a u (λ e f g. o e f (rw (number_none q.len (slots_in q n) p g)))
      (λ e f k g.
      let is : slot_in q n p ≡ k = number_some q.len (slots_in q n) p k g in
      let below : k < 128 = (places.at_found q.len (slots_in q n) p k g).below in
      subst (λ (s : ℕ). P (answer (point_to q n p) (given room (part_in q room s)))) is (d e f (rw is (lt-leb 128 k below))))

  pub read_none : eqb n (blank 8) ≡ false → has n (names_of q) ≡ true → 128 ≤ slot_in q n p
      → answer q (Err NoSuchItem) ≡ read_in q n p room
  read_none e f g = now.read_none q n p room e f (option_none q.len (slots_in q n) p g)

  pub read_done : eqb n (blank 8) ≡ false → has n (names_of q) ≡ true → slot_in q n p < 128
      → answer (point_to q n p) (given room (part_in q room (slot_in q n p))) ≡ read_in q n p room
  read_done e f g = now.read_done q n p room e f (slot_in q n p) (option_some q.len (slots_in q n) p g)

-- ---- where a part lies

no_part : (o : Result Part ReadError) → ((p : Part) → o ≡ Ok p → ⊥) → Lies o
no_part (Ok p) a = absurd (a p refl)
no_part (Err e) a = tt

given_lies : (room : ℕ) (p : Part) → Inside p → Lies (given room p)
given_lies room p i = i

-- ---- a cut-off read, and a whole one

module _ {S : Type 0} (st : S) (room at m : ℕ) (b x : List ℕ) (is : x ≡ take m (drop at b)) (long : length x ≡ m) where
  abbrev shown : Result Part ReadError → Outcome S
  shown o = record { condition = condition_of o; number = number_of o; bytes = bytes_of b o; state = st }

  abbrev it : Part
  it = record { at = at; full = m; len = min m room }

  pub cut_is : record { condition = condition_of (given room it); number = number_of (given room it); bytes = bytes_of b (given room it); state = st }
      ≡ cut st room x
  cut_is = now.cut_is st room at m b x is long

  cut_shown : shown (given room it) ≡ cut st room x
  cut_shown = now.cut_is st room at m b x is long
