-- Checks one after another, each a choice between a fault and what comes behind it: such an outcome follows a plan of the same checks where what
-- comes behind them all is the plan's effect. Over tables of any kind, and over a part of them. Assumes nothing.
use Rattle.std.specs.Prelude.{ℕ, zero, suc, ◌≡◌, refl, true, not, List, [], ◌∷◌, eqb}
use Rattle.std.proofs.Common.{ap, ◌∙◌}
use Rattle.base.specs.Choice.{pick}
use Rattle.base.specs.Laws.Tests.{by_test, no, and_l, and_r, pick_map}
use Rattle.model.specs.Plans.{Check, Outcome, Plan, fault, first_of, obey, outcome_in, Follows}
use Rattle.model.specs.Laws.PlanLaws.{Clear, gives_some}

abbrev pub checked : {S : Type 0} → S → List Check → Outcome S → Outcome S
checked s [] o = o
checked s (k ∷ l) o = pick k.when (fault s k.gives) (checked s l o)

pub clear_first : (l : List Check) → Clear l → first_of l ≡ 0
clear_first [] c = refl
clear_first (k ∷ l) c = rw c.0 (clear_first l c.1)

-- put into the tables that hold the part
checked_in : {S T : Type 0} (put : T → S) (t : T) (l : List Check) (o : Outcome T)
    → outcome_in put (checked t l o) ≡ checked (put t) l (outcome_in put o)
checked_in put t [] o = refl
checked_in put t (k ∷ l) o =
    pick_map (outcome_in put) k.when (fault t k.gives) (checked t l o)
    ∙ ap (pick k.when (fault (put t) k.gives)) (checked_in put t l o)

-- a fault is obeyed as it is
faulted : {S : Type 0} (s : S) (c : ℕ) (e : Outcome S) → not (eqb c 0) ≡ true → fault s c ≡ obey s c e
faulted s zero e h = no h
faulted s (suc c) e h = refl

module _ {S M : Type 0} (stands : S → M) (Sound : S → Type 0) (s : S) (sound : Sound s) (o : Outcome S) where
  obeyed : (l : List Check) (e : Outcome M) → gives_some l ≡ true → (Clear l → outcome_in stands o ≡ e)
      → outcome_in stands (checked s l o) ≡ obey (stands s) (first_of l) e
  obeyed [] e h f = f tt
  obeyed (k ∷ l) e h f =
      by_test k.when (λ t. rw t (faulted (stands s) k.gives e (and_l (not (eqb k.gives 0)) (gives_some l) h)))
      (λ t. rw t (obeyed l e (and_r (not (eqb k.gives 0)) (gives_some l) h) (λ c. f (t, c))))

  stays : (l : List Check) → (Clear l → Sound o.state) → Sound (checked s l o).state
  stays [] f = f tt
  stays (k ∷ l) f = by_test k.when (λ t. rw t sound) (λ t. rw t (stays l (λ c. f (t, c))))

  pub checked_follows : (l : List Check) (p : Plan M) → gives_some l ≡ true → l ≡ p.checks
      → (Clear l → outcome_in stands o ≡ p.effect) → (Clear l → Sound o.state) → Follows stands Sound (checked s l o) (stands s) p
  checked_follows l p h e f g = record {
    outcome = obeyed l p.effect h f ∙ ap (λ (k : List Check). obey (stands s) (first_of k) p.effect) e;
    soundly = stays l g;
  }

-- for checks that are written out, `h` is `refl`
pub part_follows : {S T M : Type 0} (stands : S → M) (Sound : S → Type 0) (put : T → S) (t : T) (l : List Check) (o : Outcome T) (p : Plan M)
    → Sound (put t) → gives_some l ≡ true → l ≡ p.checks
    → (Clear l → outcome_in stands (outcome_in put o) ≡ p.effect) → (Clear l → Sound (put o.state))
    → Follows stands Sound (outcome_in put (checked t l o)) (stands (put t)) p
part_follows stands Sound put t l o p s h e f g =
    rw (checked_in put t l o) (checked_follows stands Sound (put t) s (outcome_in put o) l p h e f g)
