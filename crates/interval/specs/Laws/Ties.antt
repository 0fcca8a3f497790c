-- What soundness asks of the struct itself; and an operation whose state is the model's leaves sound tables where the model does.
-- Assumes nothing.
use Rattle.std.specs.Prelude.{◌≡◌, ℕ, ◌≤◌, Bool, true, List, nat_le}
use Rattle.std.proofs.Common.{ap, ◌∙◌}
use borrow.Author.Tests.{leb-true, le-leb}
use Rattle.base.specs.Lists.{all}
use Rattle.base.specs.Laws.Tests.{both}
use Rattle.model.specs.Limits.{cabinet}
use Rattle.model.specs.Plans.{Outcome, Plan, first_of, obey}
use Rattle.model.specs.Interval as model
use Rattle.model.specs.Laws.PlanLaws.{obey_keeps}
use Rattle.interval.specs.declared.Request.{Request}
use Rattle.interval.specs.declared.Requests.{Requests}
use Rattle.interval.specs.Table.{live}
use Rattle.interval.specs.Laws.Clock.{sound_view, sound_unview}
use Rattle.interval.specs.Stands.{interval_at, Means, sound_r, Done}

-- ---- what soundness asks of the struct itself

abbrev pub short : Request → Bool
short q = nat_le q.len 64

pub record Small (t : Requests) : Type 0 where
  pub programs : t.pcount ≤ 16
  pub terminals : t.tcount ≤ 8
  pub requests : t.count ≤ 32
  pub shorts : all short (live t) ≡ true

module _ (t : Requests) where
  pub small : sound_r t ≡ true → Small t
  unfolding sound_r
  small s =
      let p5 = both _ _ s in
      let p4 = both _ _ p5.0 in
      let p3 = both _ _ p4.0 in
      let p2 = both _ _ p3.0 in
      record {
        programs = leb-true _ _ p2.0;
        terminals = leb-true _ _ p2.1;
        requests = leb-true _ _ p3.1;
        shorts = p4.1;
      }

  pub sound_here : (c : ℕ) → Means t c → sound_r t ≡ true → model.sound_interval cabinet (interval_at c t) ≡ true
  sound_here c m s = (sound_view t c m s).state

  pub sound_back : (c : ℕ) → Means t c → Small t → model.sound_interval cabinet (interval_at c t) ≡ true → sound_r t ≡ true
  sound_back c m h s =
      sound_unview t c m
      (record {
        programs = le-leb _ _ h.programs;
        terminals = le-leb _ _ h.terminals;
        count = le-leb _ _ h.requests;
        lengths = h.shorts;
        state = s;
      })

-- ---- an operation

-- from the outcome, from what the model keeps, and from the struct's own bounds
pub finish : (c c' : ℕ) (t t' : Requests) (p : Plan model.Interval) (condition number : ℕ) (bytes : List ℕ)
    → Means t c → sound_r t ≡ true
    → ◌≡◌ {A = Outcome model.Interval} (record { condition = condition; number = number; bytes = bytes; state = interval_at c' t' }) (obey (interval_at c t) (first_of p.checks) p.effect)
    → (model.sound_interval cabinet (interval_at c t) ≡ true → first_of p.checks ≡ 0 → model.sound_interval cabinet p.effect.state ≡ true)
    → Means t' c' → Small t' → Done c c' t t' p condition number bytes
finish c c' t t' p condition number bytes m s e keeps m' h =
    let here : model.sound_interval cabinet (interval_at c t) ≡ true = sound_here t c m s in
    let there : model.sound_interval cabinet (interval_at c' t') ≡ true =
    ap (λ (o : Outcome model.Interval). model.sound_interval cabinet o.state) e
    ∙ obey_keeps (λ (i : model.Interval). model.sound_interval cabinet i ≡ true) (interval_at c t) p here (keeps here) in
    record { outcome = e; means = m'; soundly = sound_back t' c' m' h there }
