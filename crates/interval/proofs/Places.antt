-- Where the first that passes a test stands, as the library's `position` says it. Assumes nothing.
use Rattle.std.proofs.Common.{◌≡◌, ℕ, ◌+◌, ◌<◌, ◌≤◌, Bool, true, false, ltb, Some, None, List, length, get_or, sym, ◌∙◌, arith, lt-ltb, le-ltb, ltb-true, ltb-false}
use Rattle.std.specs.List.{position, position_or_len}
use Rattle.std.proofs.lemmas.List.Sums.{passes_at_first, fails_before_first}
use Rattle.base.specs.Lists.{any, first_at}
use Rattle.base.specs.Laws.Keep.{first_at_any, first_at_le}
use Rattle.base.specs.Laws.Library.{first_at_of, position_of, position_some, position_none}
use Rattle.base.specs.Laws.Tests.{by_test, no}

module _ {A : Type 0} (p : A → Bool) (l : List A) where
  pub placed : (i : ℕ) → Some i ≡ position p l → (any p l ≡ true) × (i ≡ first_at p l)
  placed i e =
      let f = position_some p l i (sym e) in
      (first_at_any p l ∙ lt-ltb (first_at p l) (length l) (omega (arith, f.0, f.1)), sym f.0)

  pub nowhere : None ≡ position p l → any p l ≡ false
  nowhere e = first_at_any p l ∙ le-ltb (first_at p l) (length l) (omega (arith, position_none p l (sym e)))

-- ---- looked for, one a turn: none of the first i passes

module _ {A : Type 0} (p : A → Bool) (d : A) (l : List A) (i : ℕ) (h : i < length l) where
  pub seeks_on : p (get_or l i d) ≡ false → i ≤ first_at p l → i + 1 ≤ first_at p l
  seeks_on e v =
      by_test (ltb i (first_at p l)) (λ t. omega (arith, ltb-true i (first_at p l) t))
      (λ t.
      let here : position_or_len p l ≡ i = omega (arith, first_at_of p l, ltb-false i (first_at p l) t) in
      let passes : p (get_or l (position_or_len p l) d) ≡ true = passes_at_first p l d (omega (arith, here)) in
      no (sym e ∙ (rw here at passes)))

  pub seeks_hit : p (get_or l i d) ≡ true → i ≤ first_at p l → first_at p l ≡ i
  seeks_hit e v =
      by_test (ltb i (first_at p l))
      (λ t. no (sym (fails_before_first p l i d (omega (arith, first_at_of p l, ltb-true i (first_at p l) t))) ∙ e))
      (λ t. omega (arith, ltb-false i (first_at p l) t))

  pub seeks_found : p (get_or l i d) ≡ true → i ≤ first_at p l → Some i ≡ position p l
  seeks_found e v = rw (position_of p l, seeks_hit e v, lt-ltb i (length l) h)

module _ {A : Type 0} (p : A → Bool) (l : List A) (i : ℕ) (h : length l ≤ i) (v : i ≤ first_at p l) where
  pub seeks_end : first_at p l ≡ i
  seeks_end = omega (arith, first_at_le p l)

  pub seeks_none : None ≡ position p l
  seeks_none = rw (position_of p l, seeks_end, le-ltb i (length l) h)
