-- The cases of `rewrite_in`, as the code comes to them. Assumes nothing.
use Rattle.std.specs.Prelude.{◌≡◌, ℕ, ◌*◌, true, false, ◌&&◌, List, length, leb, set, position, eqb, is_some, Ok, Err, Some, None}
use Rattle.std.proofs.Common.{sym, ◌∙◌, arith, ne_eqb, leb-true}
use Rattle.base.specs.Bytes.{blank, stored}
use Rattle.base.specs.Laws.Tests.{and_r}
use Rattle.base.specs.Laws.Stored.{stored_fits}
use Rattle.queues.specs.declared.Queues.{Queues}
use Rattle.queues.specs.declared.rewrite.RewriteError.TheVariants.{WrongLength, UnknownQueue, NoSuchItem}
use Rattle.queues.specs.Table.{names_of, slots_in}
use Rattle.queues.specs.Place.{slot_in}
use Rattle.queues.specs.Rewrite.{resized, answer, rewrite_in}
use Rattle.queues.specs.Laws.Place.{at_found}
use Rattle.queues.proofs.Laws.Append.{item_wrong}
use Rattle.queues.proofs.Rows.{row_is_some}

module _ (q : Queues) (b : List ℕ) (n p : ℕ) (item : List ℕ) where
  module _ (d : n ≡ blank 8 → ⊥) where
    pub rewrite_length : (leb 1 (length item) && leb (length item) 64) ≡ false → answer q b (Err WrongLength) ≡ rewrite_in q b n p item
    unfolding rewrite_in
    rewrite_length f = rw (ne_eqb n (blank 8) d, item_wrong item false f)

    module _ (f : (leb 1 (length item) && leb (length item) 64) ≡ true) where
      pub rewrite_unknown : is_some (position (λ m. eqb m n) (names_of q)) ≡ false → answer q b (Err UnknownQueue) ≡ rewrite_in q b n p item
      unfolding rewrite_in
      rewrite_unknown g = rw (ne_eqb n (blank 8) d, item_wrong item true f, sym (row_is_some q n) ∙ g)

      module _ (g : is_some (position (λ m. eqb m n) (names_of q)) ≡ true) where
        pub rewrite_none : slot_in q n p ≡ None → answer q b (Err NoSuchItem) ≡ rewrite_in q b n p item
        unfolding rewrite_in
        rewrite_none h = rw (ne_eqb n (blank 8) d, item_wrong item true f, sym (row_is_some q n) ∙ g, h)

        pub rewrite_done : (k : ℕ) → slot_in q n p ≡ Some k → length b ≡ 8192 → answer (record {
          count = q.count;
          names = q.names;
          pointers = q.pointers;
          used = q.used;
          owner = q.owner;
          slot = q.slot;
          len = set q.len k (length item);
        }) (stored b (k * 64) item) (Ok tt) ≡ rewrite_in q b n p item
        unfolding rewrite_in resized
        rewrite_done k h l =
            let short = leb-true (length item) 64 (and_r (leb 1 (length item)) (leb (length item) 64) f) in
            let e = stored_fits b (k * 64) item (omega (arith, (at_found q.len (slots_in q n) p k h).below)) in
            rw (e, ne_eqb n (blank 8) d, item_wrong item true f, sym (row_is_some q n) ∙ g, h)

-- for the search of `Queues::rewrite`
pub ruleset cases = (rewrite_length, rewrite_unknown, rewrite_none, rewrite_done)
