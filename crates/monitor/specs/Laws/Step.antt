-- One record: the handlers decide as in the model, and the tables that follow are what the struct's type says. (That the step is the model's is
-- shown in proofs/Laws/Step.antt.) Assumes nothing.
use Rattle.std.specs.Prelude.{ℕ, ◌≡◌, refl, Bool, true, ◌||◌, List}
use Rattle.std.proofs.Common.{sym, ◌∙◌, mod-eq_of_lt}
use Rattle.std.proofs.Math.Path.{ap, subst}
use Rattle.std.proofs.Math.Dec.{eqb}
use borrow.Author.Tests.{eqb-false}
use Rattle.base.specs.Choice.{pick}
use Rattle.base.specs.Bytes.{is_bytes, blank}
use Rattle.base.specs.Laws.Tests.{by_test, or_false_l}
use Rattle.model.specs.Limits.{cabinet}
use Rattle.model.specs.Plans.{normal, Outcome, outcome_in}
use Rattle.model.specs.Commands.{Turn, issuer, formed, allowed, obeyed, settled, settle}
use Rattle.model.specs.Handlers.{decides}
use Rattle.model.specs.State.{State, sound}
use Rattle.model.specs.Demands.{Stepped, Named, nothing, makes, moves, takes, removes}
use Rattle.model.proofs.Laws.Conditions.{heard_kept}
use Rattle.model.proofs.Laws.SoundStep as model
use Rattle.interval.specs.Stands.{Means}
use Rattle.interval.specs.Laws.Clock.{sound_view}
use Rattle.queues.specs.Laws.Stands as queues
use Rattle.handlers.specs.Table.{setting_of, tasks_of}
use Rattle.handlers.specs.Decide.{decide_in}
use Rattle.handlers.specs.Laws.Decide.{decide_stands}
use Rattle.handlers.specs.Laws.Standing as settings
use Rattle.handlers.specs.declared.Setting.{Setting}
use Rattle.handlers.specs.declared.Setting.TheVariants.{Unset, Ignore, Label}
use Rattle.monitor.specs.declared.Tables.{Tables}
use Rattle.monitor.specs.Table.{state_at, sound_p}
use Rattle.monitor.specs.Step.{obeyed_in, decided_in, settle_in, allowed_in, step_on}
use Rattle.monitor.specs.Laws.Fine.{Typed, Fine, Active, active_stands, sound_fine, sound_active}
use Rattle.monitor.specs.Laws.Deeds.{Follows, without_fine, without_means, without_stands, obeys_model}

-- what the tables come to, where the model's turn is y
pub record Goes (x : Stepped Tables) (y : Turn) : Type 0 where
  pub clock : ℕ
  pub answer : x.answer ≡ y.answer
  pub stands : state_at clock x.tables ≡ y.state
  pub means : Means x.tables.parts.requests clock
  pub fine : Fine x.tables

-- ---- the handlers

-- a condition changes no settings
pub named_tasks : (s : State) (r : List ℕ) (c : ℕ) (m : State) → Named s r c m → m.tasks ≡ s.tasks
named_tasks s r c m (nothing e) = ap (λ (x : State). x.tasks) e
named_tasks s r c m (makes _ _ e) = ap (λ (x : State). x.tasks) e
named_tasks s r c m (moves _ _ e) = ap (λ (x : State). x.tasks) e
named_tasks s r c m (takes _ _ e) = ap (λ (x : State). x.tasks) e
named_tasks s r c m (removes _ _ e) = ap (λ (x : State). x.tasks) e

module _ (o : Outcome Tables) (n : ℕ) where
  decided_here : (k : ℕ) → Means o.state.parts.requests k → Fine o.state → (x : Setting) → Goes (decided_in o n x) (settled (outcome_in (state_at k) o) n (setting_of x))
  decided_here k m f Unset = record {
    clock = k;
    answer = refl;
    stands = without_stands k o.state m f n;
    means = without_means k o.state m f n;
    fine = without_fine k o.state m f n;
  }
  decided_here k m f Ignore = record { clock = k; answer = refl; stands = refl; means = m; fine = f }
  decided_here k m f (Label l) = record { clock = k; answer = refl; stands = refl; means = m; fine = f }

  decided_goes : (m : Outcome State) → Follows o m → (x : Setting) → Goes (decided_in o n x) (settled m n (setting_of x))
  decided_goes m d x = subst (λ (y : Outcome State). Goes (decided_in o n x) (settled y n (setting_of x))) d.outcome (decided_here d.clock d.means d.fine x)

  -- where a condition arises for a task, the settings are as they were before the command
  pub settle_goes : (s : State) (m : Outcome State) → Follows o m → ((m.condition ≡ 0 → ⊥) → m.state.tasks ≡ s.tasks) → Goes (settle_in n o) (settle s n m)
  unfolding settle_in
  settle_goes s m d same =
      let same-condition : o.condition ≡ m.condition = ap (λ (y : Outcome State). y.condition) d.outcome in
      subst (λ (k : ℕ). Goes (settle_in n o) (pick (eqb k normal || eqb n (blank 8)) (settled m n (setting_of Ignore)) (settled m n (decides s.tasks n k)))) same-condition
      (by_test (eqb o.condition normal || eqb n (blank 8)) (λ h. rw h (decided_goes m d Ignore))
      (λ h.
      let arises : m.condition ≡ 0 → ⊥ = λ z. eqb-false o.condition 0 (or_false_l (eqb o.condition normal) (eqb n (blank 8)) h) (same-condition ∙ z) in
      let tasks : decides (tasks_of o.state.parts.tasks) n o.condition ≡ decides s.tasks n o.condition =
      ap (λ l. decides l n o.condition) (ap (λ (y : Outcome State). y.state.tasks) d.outcome ∙ same arises) in
      rw h
      (subst (λ x. Goes (decided_in o n (decide_in o.state.parts.tasks n o.condition)) (settled m n x)) (decide_stands o.state.parts.tasks n o.condition ∙ tasks)
      (decided_goes m d (decide_in o.state.parts.tasks n o.condition)))))

-- ---- one record

pub allowed_stands : (c : ℕ) (t : Tables) (r : List ℕ) → allowed_in t.parts r ≡ allowed (state_at c t) r
unfolding allowed
allowed_stands c t r = ap (λ (x : Bool). eqb (issuer r) (blank 8) || x) (active_stands c t (issuer r))

module _ (c : ℕ) (t : Tables) (m : Means t.parts.requests c) (f : Fine t) where
  pub state_sound : Active (state_at c t) → sound cabinet (state_at c t) ≡ true
  state_sound a =
      let k = f.typed.store in
      model.unview cabinet (state_at c t)
      (record {
        interval = (sound_view t.parts.requests c m f.requests).state;
        queues = queues.model_sound t.parts.queues t.items k.typed k.long k.bytes f.queues;
        tasks = settings.model_sound t.parts.tasks f.tasks;
        active = a;
      })

-- ---- from sound tables

module _ (t : Tables) (y : Typed t) (k : sound_p t.parts ≡ true) (r : List ℕ) (b : is_bytes r ≡ true) where
  -- the register means its own value
  abbrev own : ℕ
  own = t.parts.requests.register

  pub own_means : Means t.parts.requests own
  own_means = sym (mod-eq_of_lt y.requests.register)

  heard_typed : formed r ≡ true → allowed_in t.parts r ≡ true → Typed (settle_in (issuer r) (obeyed_in t r)).tables
  heard_typed e h =
      let s = state_at own t in
      let d = obeys_model own t own_means (sound_fine own t y k) r b (sound_active own t k) (sym (allowed_stands own t r) ∙ h) e in
      (settle_goes (obeyed_in t r) (issuer r) s (obeyed cabinet s r) d (λ z. named_tasks s r _ _ (heard_kept cabinet s r z))).fine.typed

  -- whichever of the two tests is made first
  pub step_typed : Typed (step_on t r).tables
  unfolding step_on
  step_typed =
      by_test (formed r)
      (λ e. by_test (allowed_in t.parts r) (λ h. simp (e, h) (heard_typed e h)) (λ h. simp (e, h) y))
      (λ e. by_test (allowed_in t.parts r) (λ h. simp (e, h) y) (λ h. simp (e, h) y))
