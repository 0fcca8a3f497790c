-- A thing listed behind the others where none of them has its name: what all pass, that names stay unique, and that it is there.
-- Assumes nothing.
use Rattle.std.specs.Prelude.{ℕ, ◌≡◌, Bool, true, false, List, [], ◌∷◌, ◌++◌, map, eqb}
use Rattle.std.proofs.Common.{◌∙◌}
use Rattle.std.proofs.lemmas.List.{map-append}
use Rattle.base.specs.Choice.{pick}
use Rattle.base.specs.Lists.{any, all, once}
use Rattle.base.specs.Laws.Tests.{or_r, eqb_same, pick_elim}
use Rattle.base.specs.Laws.Keep.{all_append, any_append}
use Rattle.base.specs.Laws.Counting.{has_map, once_snoc}

module _ {A : Type 0} (f : A → ℕ) (d : A) (l : List A) where
  abbrev named : A → Bool
  named x = eqb (f x) (f d)

  abbrev pub added : List A
  added = pick (any (λ (x : A). eqb (f x) (f d)) l) l (l ++ (d ∷ []))

  pub added_elim : (P : List A → Type 0) → (any (λ (x : A). eqb (f x) (f d)) l ≡ true → P l)
      → (any (λ (x : A). eqb (f x) (f d)) l ≡ false → P (l ++ (d ∷ []))) → P added
  added_elim P = pick_elim P (any named l) l (l ++ (d ∷ []))

  pub all_added : (p : A → Bool) → all p l ≡ true → p d ≡ true → all p added ≡ true
  all_added p h e = added_elim (λ (r : List A). all p r ≡ true) (λ _. h) (λ _. rw (all_append p l (d ∷ []), h, e))

  pub once_added : once (map f l) ≡ true → once (map f added) ≡ true
  once_added o =
      added_elim (λ (r : List A). once (map f r) ≡ true) (λ _. o)
      (λ t. rw (map-append f l (d ∷ [])) (once_snoc (f d) (map f l) (has_map f (f d) l ∙ t) o))

  pub any_added : any (λ (x : A). eqb (f x) (f d)) added ≡ true
  any_added =
      added_elim (λ (r : List A). any named r ≡ true) (λ t. t)
      (λ _. any_append named l (d ∷ []) ∙ or_r (any named l) (any named (d ∷ [])) (rw (eqb_same (f d))))
