-- What a define comes to, case by case, as the code finds it. Assumes nothing.
use Rattle.std.specs.Prelude.{ℕ, ◌+◌, ◌<◌, ◌≤◌, ◌≡◌, true, false, List, [], ◌∷◌, ◌++◌, length, take, set}
use Rattle.std.proofs.Common.{sym, ap, ap₂, ◌∙◌, add-one, arith, length-append, length-take}
use borrow.Author.Tests.{eq-eqb, ne_eqb, le-leb, lt-leb}
use Rattle.base.specs.Bytes.{blank}
use Rattle.base.specs.Lists.{has, over}
use Rattle.base.specs.Laws.Over.{over_put}
use Rattle.model.specs.Plans.{fault, done}
use Rattle.names.specs.Names.{Names, view_of, names_in, with_names, define_in}

-- the first of n names, where there are that many or fewer
take_least : (n : ℕ) (l : List ℕ) (k : ℕ) → k ≡ length (take n l) → k < length l → take n l ≡ take k l
take_least n l k e h =
    let f : n ≡ k = omega (arith, length-take n l) in
    ap (λ (i : ℕ). take i l) f

module _ (w : List ℕ) (n : ℕ) where
  pub blank_name : n ≡ blank 4 → fault (view_of w) 10 ≡ define_in (view_of w) n
  unfolding define_in
  blank_name e = rw (eq-eqb n (blank 4) e)

  module _ (ne : n ≡ blank 4 → ⊥) where
    pub known_name : has n (names_in (view_of w)) ≡ true → fault (view_of w) 7 ≡ define_in (view_of w) n
    unfolding define_in
    known_name h = rw (ne_eqb n (blank 4) ne, h)

    module _ (h : has n (names_in (view_of w)) ≡ false) (k : ℕ) (ek : k ≡ length (names_in (view_of w))) where
      pub no_place_lem : length (view_of w).places ≤ k → fault (view_of w) 1 ≡ define_in (view_of w) n
      unfolding define_in
      no_place_lem i = rw (ne_eqb n (blank 4) ne, h, le-leb (length (view_of w).places) (length (names_in (view_of w))) (omega arith))

  stored : (x : ℕ) (p : List ℕ) (k : ℕ) → k ≡ length (take x p) → k < length p
      → view_of (set (set (x ∷ p) (k + 1) n) 0 (k + 1)) ≡ with_names (view_of (x ∷ p)) (take x p ++ (n ∷ []))
  stored x p k e h =
      let c : k + 1 ≡ length (take x p ++ (n ∷ [])) = simp length-append (omega arith) in
      let t : take x p ≡ take k p = take_least x p k e h in
      rw (add-one k) (ap₂ (λ (i : ℕ) (l : List ℕ). record { count = i; places = l }) (sym (add-one k) ∙ c) (over_put k p n h ∙ ap (λ (l : List ℕ). over (l ++ (n ∷ [])) p) (sym t)))

new_name : (w : List ℕ) (n : ℕ) → (n ≡ blank 4 → ⊥) → has n (names_in (view_of w)) ≡ false → (k : ℕ) → k ≡ length (names_in (view_of w)) → k < length (view_of w).places
    → done (view_of (set (set w (k + 1) n) 0 (k + 1))) 0 ≡ define_in (view_of w) n
unfolding define_in
new_name [] n ne h k e i = absurd (omega arith)
new_name (x ∷ p) n ne h k e i =
    rw (ne_eqb n (blank 4) ne, h, lt-leb (length p) (length (take x p)) (omega arith))
    (ap (λ (v : Names). done v 0) (stored (x ∷ p) n x p k e i))

-- two stores: the name, and how many there are
pub name_stored : (w v u : List ℕ) (n k : ℕ) → v ≡ set w (k + 1) n → u ≡ set v 0 (k + 1) → (n ≡ blank 4 → ⊥) → has n (names_in (view_of w)) ≡ false
    → k ≡ length (names_in (view_of w)) → k < length (view_of w).places → done (view_of u) 0 ≡ define_in (view_of w) n
name_stored w v u n k ev eu ne h e i = ap (λ (l : List ℕ). done (view_of l) 0) (eu ∙ ap (λ (l : List ℕ). set l 0 (k + 1)) ev) ∙ new_name w n ne h k e i
