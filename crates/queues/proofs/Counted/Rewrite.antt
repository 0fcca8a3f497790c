-- A rewrite by the number of the item's slot, case by case: the specs have an Option now, and nothing cites these. Assumes nothing.
use Rattle.std.specs.Prelude.{◌≡◌, false, List, ℕ, ◌*◌, ◌<◌, ◌≤◌, eqb, leb, length, Ok, Err}
use Rattle.std.proofs.Math.Path.{subst}
use Rattle.std.proofs.Math.Bool.{true}
use Rattle.std.proofs.Math.Seq.{paste}
use borrow.Author.Tests.{lt-leb}
use Rattle.base.specs.Lists.{has}
use Rattle.base.specs.Bytes.{blank}
use Rattle.queues.specs.declared.Queues.{Queues}
use Rattle.queues.specs.declared.rewrite.RewriteError.TheVariants.{WrongLength, UnknownQueue, NoSuchItem, Invalid}
use Rattle.queues.specs.Table.{names_of, slots_in}
use Rattle.queues.specs.Rewrite.{resized, Lent, answer, rewrite_in}
use Rattle.queues.specs.Laws.Place.{at_found}
use Rattle.queues.proofs.Laws.Append.{wrong}
use Rattle.queues.proofs.Laws.Rewrite as now
use Rattle.queues.proofs.Counted.Place.{slot_in, number_some, number_none, option_some, option_none}

-- the item in slot s
abbrev pub put_in : Queues → List ℕ → List ℕ → ℕ → Lent
put_in q b item s = answer (resized q s (length item)) (paste b (s * 64) item (length item)) (Ok tt)

module _ (q : Queues) (b : List ℕ) (n p : ℕ) (item : List ℕ) where
  abbrev pub s : ℕ
  s = slot_in q n p

  pub rewrite_elim : (P : Lent → Type 0)
      → (eqb n (blank 8) ≡ true → P (answer q b (Err Invalid)))
      → (eqb n (blank 8) ≡ false → wrong item ≡ true → P (answer q b (Err WrongLength)))
      → (eqb n (blank 8) ≡ false → wrong item ≡ false → has n (names_of q) ≡ false → P (answer q b (Err UnknownQueue)))
      → (eqb n (blank 8) ≡ false → wrong item ≡ false → has n (names_of q) ≡ true → leb 128 s ≡ true → P (answer q b (Err NoSuchItem)))
      → (eqb n (blank 8) ≡ false → wrong item ≡ false → has n (names_of q) ≡ true → leb 128 s ≡ false → P (put_in q b item s))
      → P (rewrite_in q b n p item)
  rewrite_elim P a w u o d =
      now.rewrite_elim q b n p item P a w u (λ e f g h. o e f g (rw (number_none q.len (slots_in q n) p h)))
      (λ e f g k h.
      let is : slot_in q n p ≡ k = number_some q.len (slots_in q n) p k h in
      let below : k < 128 = (at_found q.len (slots_in q n) p k h).below in
      subst (λ (j : ℕ). P (put_in q b item j)) is (d e f g (rw is (lt-leb 128 k below))))

  pub rewrite_invalid : eqb n (blank 8) ≡ true → answer q b (Err Invalid) ≡ rewrite_in q b n p item
  unfolding rewrite_in
  rewrite_invalid e = rw e

  pub rewrite_length : eqb n (blank 8) ≡ false → wrong item ≡ true → answer q b (Err WrongLength) ≡ rewrite_in q b n p item
  unfolding rewrite_in
  rewrite_length e f = rw (e, f)

  module _ (e : eqb n (blank 8) ≡ false) (f : wrong item ≡ false) where
    pub rewrite_unknown : has n (names_of q) ≡ false → answer q b (Err UnknownQueue) ≡ rewrite_in q b n p item
    unfolding rewrite_in
    rewrite_unknown g = rw (e, f, g)

    pub rewrite_none : has n (names_of q) ≡ true → 128 ≤ slot_in q n p → answer q b (Err NoSuchItem) ≡ rewrite_in q b n p item
    unfolding rewrite_in
    rewrite_none g h = rw (e, f, g, option_none q.len (slots_in q n) p h)

    pub rewrite_done : has n (names_of q) ≡ true → slot_in q n p < 128 → put_in q b item (slot_in q n p) ≡ rewrite_in q b n p item
    unfolding rewrite_in
    rewrite_done g h = rw (e, f, g, option_some q.len (slots_in q n) p h)
