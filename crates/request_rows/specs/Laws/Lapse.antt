-- When rows fall due none is lost, and no word of a row but its phase changes. Assumes nothing.
use Rattle.std.specs.Prelude.{ℕ, ◌≡◌, Bool, true, not, length}
use Rattle.std.proofs.Common.{◌∙◌, arith, length-append}
use mathlib.Core.List.{List, map}
use Rattle.std.proofs.Math.ListN.{length-map}
use Rattle.base.specs.Lists.{keep, all, copies, once}
use Rattle.base.specs.Sort.{sort}
use Rattle.base.specs.Laws.Tests.{and_i}
use Rattle.base.specs.Laws.Keep.{length_split, all_append, all_keep}
use Rattle.base.specs.Laws.Maps.{map-map, map-append, map_same, all_map_imp}
use Rattle.base.specs.Laws.Counting.{copies_append, copies_split, copies_once, once_copies}
use Rattle.base.specs.Laws.Sorting.{length_sort, all_sort, copies_sort}
use Rattle.request_rows.specs.declared.Phase.TheVariants.{Expired}
use Rattle.request_rows.specs.Rows.{Row, phase_of, in_phase}
use Rattle.request_rows.specs.Advance.{due, no_later, newly, lapse}

module _ (register ticks : ℕ) where
  abbrev pub stay : Row → Bool
  stay q = not (due register ticks q)

  abbrev pub late : Row → Row → Bool
  late q p = no_later register (phase_of q.phase) (phase_of p.phase)

  -- the newly expired, in the order of the line
  abbrev pub fallen : List Row → List Row
  fallen l = sort late (newly register ticks l)

  pub lapse_length : (l : List Row) → length (lapse register ticks l) ≡ length l
  unfolding lapse
  lapse_length l =
      rw (length-append (keep stay l) (map (in_phase Expired) (fallen l)), length-map (fallen l) (in_phase Expired), length_sort late (newly register ticks l))
      (omega (arith, length_split (due register ticks) l))

  pub all_lapse : (p : Row → Bool) → ((q : Row) → p q ≡ true → p (in_phase Expired q) ≡ true) → (l : List Row) → all p l ≡ true
      → all p (lapse register ticks l) ≡ true
  unfolding lapse
  all_lapse p f l h =
      all_append p (keep stay l) (map (in_phase Expired) (fallen l))
      ∙ and_i (all_keep p stay l h)
      (all_map_imp (in_phase Expired) p p f (fallen l) (all_sort late p (newly register ticks l) ∙ all_keep p (due register ticks) l h))

  -- each number that the phase does not change is there as often
  lapse_copies : (f : Row → ℕ) → ((q : Row) → f (in_phase Expired q) ≡ f q) → (l : List Row) (n : ℕ)
      → copies n (map f (lapse register ticks l)) ≡ copies n (map f l)
  unfolding lapse
  lapse_copies f e l n =
      let same : map f (map (in_phase Expired) (fallen l)) ≡ map f (fallen l) =
      map-map f (in_phase Expired) (fallen l) ∙ map_same (λ (q : Row). f (in_phase Expired q)) f e (fallen l) in
      rw (map-append f (keep stay l) (map (in_phase Expired) (fallen l)), same, copies_append n (map f (keep stay l)) (map f (fallen l)))
      (omega (arith, copies_sort late f n (newly register ticks l), copies_split f (due register ticks) l n))

  pub lapse_once : (f : Row → ℕ) → ((q : Row) → f (in_phase Expired q) ≡ f q) → (l : List Row) → once (map f l) ≡ true
      → once (map f (lapse register ticks l)) ≡ true
  lapse_once f e l o = copies_once (map f (lapse register ticks l)) (λ n. omega (arith, lapse_copies f e l n, once_copies (map f l) o n))
