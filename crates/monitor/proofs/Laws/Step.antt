-- One record: the three conditions before the command are the model's, and the tables stand for the state that follows. Assumes nothing.
use Rattle.std.specs.Prelude.{ℕ, ◌≡◌, refl, true, List}
use Rattle.std.proofs.Common.{sym}
use Rattle.std.proofs.Math.Path.{subst}
use Rattle.base.specs.Bytes.{is_bytes}
use Rattle.base.specs.Laws.Tests.{by_test}
use Rattle.model.specs.Limits.{cabinet}
use Rattle.model.specs.Commands.{issuer, formed, allowed, obeyed, refused, step}
use Rattle.model.proofs.Laws.Conditions.{heard_kept}
use Rattle.model.proofs.Laws.SoundStep as model
use Rattle.interval.specs.Stands.{Means}
use Rattle.monitor.specs.declared.Tables.{Tables}
use Rattle.monitor.specs.Table.{state_at, sound_p}
use Rattle.monitor.specs.Step.{obeyed_in, refused_in, step_on}
use Rattle.monitor.specs.Laws.Fine.{Typed, Fine, Active, sound_fine, sound_active, fine_sound}
use Rattle.monitor.specs.Laws.Deeds.{obeys_model}
use Rattle.monitor.specs.Laws.Step.{Goes, named_tasks, settle_goes, allowed_stands, state_sound, own_means}

module _ (c : ℕ) (t : Tables) (m : Means t.parts.requests c) (f : Fine t) where
  module _ (r : List ℕ) where
    pub step_goes : is_bytes r ≡ true → Active (state_at c t) → Goes (step_on t r) (step cabinet (state_at c t) r)
    unfolding step_on step
    step_goes b a =
        let s = state_at c t in
        let stays : (k : ℕ) → Goes (refused_in t k) (refused s k) = λ k. record { clock = c; answer = refl; stands = refl; means = m; fine = f } in
        by_test (formed r)
        (λ e. rw e
        (by_test (allowed s r)
        (λ h. rw (allowed_stands c t r, h)
        (settle_goes (obeyed_in t r) (issuer r) s (obeyed cabinet s r) (obeys_model c t m f r b a h e)
        (λ z. named_tasks s r _ _ (heard_kept cabinet s r z))))
        (λ h. rw (allowed_stands c t r, h) (stays 34))))
        (λ e. rw e (stays 33))

-- ---- from sound tables, at a clock that their register can mean

module _ (t : Tables) (y : Typed t) (k : sound_p t.parts ≡ true) (r : List ℕ) (b : is_bytes r ≡ true) where
  pub goes_at : (c : ℕ) → Means t.parts.requests c → Goes (step_on t r) (step cabinet (state_at c t) r)
  goes_at c m = step_goes c t m (sound_fine c t y k) r b (sound_active c t k)

  pub step_keeps : sound_p (step_on t r).tables.parts ≡ true
  step_keeps =
      let own = t.parts.requests.register in
      let m = own_means t y k r b in
      let f = sound_fine own t y k in
      let g = goes_at own m in
      let s = state_sound own t m f (sound_active own t k) in
      let a = (model.view cabinet (step cabinet (state_at own t) r).state (model.step_sound cabinet (state_at own t) r s b)).active in
      fine_sound g.clock (step_on t r).tables g.fine (subst Active (sym g.stands) a)
