-- The slot of a queue's item at a place. Assumes nothing.
use Rattle.std.specs.Prelude.{◌≡◌, ◌||◌, List, ℕ, ◌-◌, ◌<◌, ◌≤◌, eqb, leb, ltb, get_or, slice_get, Option, Some, None, is_none}
use Rattle.std.proofs.Common.{sym, arith}
use Rattle.std.proofs.Math.Bool.{true}
use Rattle.std.proofs.Math.ListN.{length}
use Rattle.std.proofs.lemmas.Option.{slice_get_within, slice_get_past, get_or_from_slice_get, slice_get-get_or}
use borrow.Author.Tests.{eqb-false, ltb-true, ltb-false, leb-true}
use Rattle.base.specs.Lists.{all}
use Rattle.base.specs.Laws.Tests.{by_test, and_l, and_r}
use Rattle.base.specs.Laws.Keep.{all_get_d}
use Rattle.queues.specs.Place.{has_item, with_item, slot_at}

-- ---- the slot at a place

-- where a slot is found, the place is one of the queue's, the slot is the one there, and it has an item
pub record At (len ss : List ℕ) (p s : ℕ) : Type 0 where
  pub from : 1 ≤ p
  pub to : p ≤ length ss
  pub is : s ≡ get_or ss (p - 1) 128
  pub below : s < 128
  pub short : get_or len s 0 ≤ 64

module _ (len ss : List ℕ) (p : ℕ) where
  with_item_some : (x : Option ℕ) (s : ℕ) → with_item len x ≡ Some s → (x ≡ Some s) × (has_item len s ≡ true)
  with_item_some None s e = absurd (cc)
  with_item_some (Some r) s e =
      by_test (has_item len r)
      (λ f. let is : r ≡ s = let g = rw f at e in cc in (cc, (rw is at f)))
      (λ f. absurd (let g = rw f at e in cc))

  pub at_found : (s : ℕ) → slot_at len ss p ≡ Some s → At len ss p s
  unfolding slot_at
  at_found s h =
      by_test (eqb p 0) (λ e. absurd (let g = rw e at h in cc))
      (λ e.
      let f = with_item_some (slice_get ss (p - 1)) s (rw e at h) in
      let d : p ≡ 0 → ⊥ = eqb-false p 0 e in
      let inside = slice_get_within ss (p - 1) s f.0 in
      record {
        from = omega arith;
        to = omega arith;
        is = sym (get_or_from_slice_get ss (p - 1) s 128 f.0);
        below = ltb-true s 128 (and_l (ltb s 128) (leb (get_or len s 0) 64) f.1);
        short = leb-true (get_or len s 0) 64 (and_r (ltb s 128) (leb (get_or len s 0) 64) f.1);
      })

  -- where every slot has an item, a place has none exactly if it is not the queue's
  pub at_none : all (has_item len) ss ≡ true → is_none (slot_at len ss p) ≡ (eqb p 0 || ltb (length ss) p)
  unfolding slot_at
  at_none h =
      by_test (eqb p 0) (λ e. rw e)
      (λ e.
      let d : p ≡ 0 → ⊥ = eqb-false p 0 e in
      by_test (ltb (length ss) p)
      (λ f. let past : length ss ≤ p - 1 = omega (arith, ltb-true (length ss) p f) in rw (e, f, slice_get_past ss (p - 1) past))
      (λ f.
      let l : p ≤ length ss = ltb-false (length ss) p f in
      let inside : p - 1 < length ss = omega arith in
      rw (e, f, slice_get-get_or ss (p - 1) 128 inside, all_get_d (has_item len) ss (p - 1) 128 h inside)))
