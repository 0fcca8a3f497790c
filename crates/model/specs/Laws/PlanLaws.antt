-- Checks and plans: where the checks give normal no test holds, and a plan that is obeyed keeps what its effect keeps.
-- Assumes nothing.
use Rattle.std.specs.Prelude.{ℕ, suc, zero, ◌≡◌, refl, Bool, true, false, not, List, [], ◌∷◌, eqb}
use Rattle.std.proofs.Common.{arith}
use Rattle.std.proofs.lemmas.Bool.{eqb-false, not-true}
use Rattle.base.specs.Lists.{all}
use Rattle.base.specs.Laws.Tests.{and_l, and_r, pick_second}
use Rattle.model.specs.Plans.{Check, check, first_of, Outcome, Plan, obey}

-- ---- checks

pub clear_head : (b : Bool) (c : ℕ) (l : List Check) → first_of (check b (suc c) ∷ l) ≡ 0 → (b ≡ false) × (first_of l ≡ 0)
clear_head b c l e = pick_second b (suc c) (first_of l) 0 (λ z. omega arith) e

-- no check gives normal
abbrev pub gives_some : List Check → Bool
gives_some l = all (λ (k : Check). not (eqb k.gives 0)) l

-- no test holds, to be read by place: `.0` of the first check, `.1 .0` of the second
abbrev pub Clear : List Check → Type 0
Clear [] = Unit {0}
Clear (k ∷ l) = (k.when ≡ false) × Clear l

-- for a list that is written out, `h` is `refl`
pub clears : (l : List Check) → gives_some l ≡ true → first_of l ≡ 0 → Clear l
clears [] h e = tt
clears (k ∷ l) h e =
    let some : not (eqb k.gives 0) ≡ true = and_l (not (eqb k.gives 0)) (gives_some l) h in
    let c = pick_second k.when k.gives (first_of l) 0 (eqb-false k.gives 0 (not-true (eqb k.gives 0) some)) e in
    (c.0, clears l (and_r (not (eqb k.gives 0)) (gives_some l) h) c.1)

clear_all_lem : (l : List Check) → Clear l → all (λ (k : Check). not k.when) l ≡ true
clear_all_lem [] c = refl
clear_all_lem (k ∷ l) c = rw c.0 (clear_all_lem l c.1)

pub checks_clear : (l : List Check) → gives_some l ≡ true → first_of l ≡ 0 → all (λ (k : Check). not k.when) l ≡ true
checks_clear l h e = clear_all_lem l (clears l h e)

-- ---- plans

module _ {S : Type 0} (P : S → Type 0) (s : S) where
  keeps : (c : ℕ) (o : Outcome S) → P s → (c ≡ 0 → P o.state) → P (obey s c o).state
  keeps zero o h f = f refl
  keeps (suc c) o h f = h

  pub obey_keeps : (p : Plan S) → P s → (first_of p.checks ≡ 0 → P p.effect.state)
      → P (obey s (first_of p.checks) p.effect).state
  obey_keeps p h f = keeps (first_of p.checks) p.effect h f
