-- Some words less: the length stays, the others stand in order, and the last places keep what they held. Assumes nothing.
use Rattle.std.specs.Prelude.{ℕ, ◌+◌, ◌-◌, ◌<◌, ◌≤◌, ◌≡◌, List, [], ◌++◌, leb, length, take, drop}
use Rattle.std.proofs.Common.{sym, ap, ◌∙◌, append-nil, arith, length-append, length-take, length-drop, drop_of_length-le, leb-true, leb-false}
use Rattle.base.specs.Laws.Tests.{by_test}
use Rattle.base.specs.Laws.Over.{length_over, take_over, drop_over, over_self}
use Rattle.words.specs.Rows.{shut}

module _ (at n : ℕ) (l : List ℕ) where
  abbrev others : List ℕ
  others = take at l ++ drop (at + n) l

  length_others : length others ≤ length l
  length_others = simp (length-append, length-take, length-drop) (omega arith)

  -- there are not so many: nothing goes
  pub shut_none : length l < at + n → shut at n l ≡ l
  shut_none h =
      let z : drop (at + n) l ≡ [] = drop_of_length-le l {i = at + n} (omega arith) in
      rw (z, append-nil (take at l)) (over_self at l)

  pub length_shut : length (shut at n l) ≡ length l
  length_shut = length_over others l length_others

  module _ (h : at + n ≤ length l) where
    fewer : length others ≡ length l - n
    fewer = simp (length-append, length-take, length-drop) (omega arith)

    pub take_shut : take (length l - n) (shut at n l) ≡ take at l ++ drop (at + n) l
    take_shut = ap (λ (k : ℕ). take k (shut at n l)) (sym fewer) ∙ take_over others l

  pub drop_shut : drop (length l - n) (shut at n l) ≡ drop (length l - n) l
  drop_shut =
      by_test (leb (at + n) (length l))
      (λ t.
      let f = fewer (leb-true (at + n) (length l) t) in
      ap (λ (k : ℕ). drop k (shut at n l)) (sym f) ∙ drop_over others l ∙ ap (λ (k : ℕ). drop k l) f)
      (λ t. ap (drop (length l - n)) (shut_none (leb-false (at + n) (length l) t)))
