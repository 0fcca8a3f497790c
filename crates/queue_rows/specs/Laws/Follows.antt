-- To follow a plan: a check holds and its condition is given with nothing changed, or none holds and what is done is the effect. Of tables of any
-- kind. Assumes nothing.
use Rattle.std.specs.Prelude.{◌≡◌, ℕ, suc}
use Rattle.std.proofs.Common.{sym, ap, ◌∙◌}
use Rattle.model.specs.Plans.{Outcome, Plan, first_of, fault, obey, outcome_in, Follows}

module _ {S M : Type 0} (stands : S → M) (Sound : S → Type 0) (s : S) (p : Plan M) where
  pub follows_fault : Sound s → (c : ℕ) → first_of p.checks ≡ suc c → Follows stands Sound (fault s (suc c)) (stands s) p
  follows_fault h c e = record { outcome = ap (λ (k : ℕ). obey (stands s) k p.effect) (sym e); soundly = h }

  pub follows_effect : (o : Outcome S) → first_of p.checks ≡ 0 → outcome_in stands o ≡ p.effect → Sound o.state
      → Follows stands Sound o (stands s) p
  follows_effect o e d h = record { outcome = d ∙ ap (λ (k : ℕ). obey (stands s) k p.effect) (sym e); soundly = h }
