-- The cases of a rewrite. Assumes nothing.
use mathlib.Core.Path.{◌≡◌}
use mathlib.Core.Bool.{true, false, not, ◌||◌}
use mathlib.Core.List.{List}
use Prim.Native.Nat.{ℕ, ◌*◌, ◌<◌, ◌≤◌}
use lib.Dec.{leb, ltb}
use lib.ListN.{length}
use borrow.Author.Tests.{eq-eqb, ne_eqb, le-leb, lt-leb}
use Rattle.base.specs.Lists.{has}
use Rattle.base.specs.Bytes.{blank, stored}
use Rattle.model.specs.Plans.{unknown_queue, no_such_item, wrong_length, invalid_request, fault, done}
use Rattle.queue_rows.specs.Table.{Queues, slots_in, names_of, store}
use Rattle.queue_rows.specs.Place.{slot_in}
use Rattle.queue_rows.specs.Rewrite.{resized, rewrite_in}

module _ (q : Queues) (b : List ℕ) (n p : ℕ) (item : List ℕ) where
  pub rewrite_blank : n ≡ blank 8 → fault (store q b) invalid_request ≡ rewrite_in q b n p item
  unfolding rewrite_in
  rewrite_blank e = rw (eq-eqb n (blank 8) e)

  module _ (d : n ≡ blank 8 → ⊥) where
    pub rewrite_length : (not (leb 1 (length item)) || ltb 64 (length item)) ≡ true → fault (store q b) wrong_length ≡ rewrite_in q b n p item
    unfolding rewrite_in
    rewrite_length t = rw (ne_eqb n (blank 8) d, t)

    module _ (t : (not (leb 1 (length item)) || ltb 64 (length item)) ≡ false) where
      pub rewrite_unknown : has n (names_of q) ≡ false → fault (store q b) unknown_queue ≡ rewrite_in q b n p item
      unfolding rewrite_in
      rewrite_unknown f = rw (ne_eqb n (blank 8) d, t, f)

      module _ (k : has n (names_of q) ≡ true) where
        pub rewrite_none : slots_in q ≤ slot_in q n p → fault (store q b) no_such_item ≡ rewrite_in q b n p item
        unfolding rewrite_in
        rewrite_none h = rw (ne_eqb n (blank 8) d, t, k, le-leb (slots_in q) (slot_in q n p) h)

        pub rewrite_done : slot_in q n p < slots_in q
            → done (store (resized q (slot_in q n p) (length item)) (stored b (slot_in q n p * 64) item)) 0 ≡ rewrite_in q b n p item
        unfolding rewrite_in
        rewrite_done h = rw (ne_eqb n (blank 8) d, t, k, lt-leb (slots_in q) (slot_in q n p) h)
