-- One record: the handlers decide as in the model, 33 and 34 are the model's, and the tables stand for the state that follows and are sound again.
-- Assumes nothing.
use Rattle.std.specs.Prelude.{ℕ, ◌≡◌, refl, true, ◌||◌, List}
use Rattle.std.proofs.Common.{sym, ◌∙◌}
use Rattle.std.proofs.Math.Path.{ap, subst}
use Rattle.std.proofs.Math.Dec.{eqb}
use borrow.Author.Tests.{eqb-false}
use Rattle.base.specs.Choice.{pick}
use Rattle.base.specs.Bytes.{is_bytes, blank}
use Rattle.base.specs.Laws.Tests.{by_test, or_false_l}
use Rattle.model.specs.Plans.{normal, Outcome, outcome_in}
use Rattle.model.specs.Commands.{Turn, command, issuer, row_of, formed, allowed, obeyed, settled, settle, refused, step}
use Rattle.model.specs.Handlers.{decides}
use Rattle.model.specs.State.{State}
use Rattle.model.specs.Demands.{Stepped, Named, nothing, makes, moves, takes, removes}
use Rattle.model.proofs.Laws.Conditions.{heard_kept}
use Rattle.model.proofs.Laws.SoundStep as model
use Rattle.records.specs.Rows.{part_of}
use Rattle.request_rows.specs.Table.{register_of}
use Rattle.request_rows.specs.Remove.{remove_in}
use Rattle.request_rows.specs.Stands.{Means}
use Rattle.request_rows.specs.Laws.Remove.{remove_follows}
use Rattle.std.specs.Prelude.{Option}
use Rattle.std.specs.Prelude.{Some, None}
use Rattle.settings.specs.Table.{setting_of, tasks_of}
use Rattle.settings.specs.Decide.{decide_in}
use Rattle.settings.specs.Laws.Decide.{decide_stands}
use Rattle.settings.specs.declared.Setting.{Setting}
use Rattle.settings.specs.declared.Setting.TheVariants.{Unset, Ignore, Label}
use Rattle.turn_rules.specs.Tables.{Tables, interval_in, known_in}
use Rattle.turn_rules.specs.Turn.{sender_in, obeyed_in, decided_as, settle_in, judged, settled_of, refused_in, heard_as, turn_of}
use Rattle.turn_rules.specs.Standing.{state_at, limits_of, sound_t, Typed}
use Rattle.turn_rules.proofs.Laws.TurnKept.{turn_kept}
use Rattle.turn_rules.specs.Laws.Fine.{Fine, Active, roomy_kept, Rules, by_rules, from_rules, state_sound, own_means}
use Rattle.turn_rules.specs.Laws.Sender.{at_allowed, nobody_allowed}
use Rattle.turn_rules.specs.Laws.Parts.{Meets, without_stands, without_fine}
use Rattle.turn_rules.proofs.Laws.Deeds.{obeys_model}

-- what the tables come to, where the model's turn is y
pub record Goes (x : Stepped Tables) (y : Turn) : Type 0 where
  pub clock : ℕ
  pub answer : x.answer ≡ y.answer
  pub stands : state_at clock x.tables ≡ y.state
  pub fine : Fine clock x.tables

-- ---- the handlers

-- a condition changes no settings
named_tasks : (s : State) (r : List ℕ) (c : ℕ) (m : State) → Named s r c m → m.tasks ≡ s.tasks
named_tasks s r c m (nothing e) = ap (λ (x : State). x.tasks) e
named_tasks s r c m (makes _ _ e) = ap (λ (x : State). x.tasks) e
named_tasks s r c m (moves _ _ e) = ap (λ (x : State). x.tasks) e
named_tasks s r c m (takes _ _ e) = ap (λ (x : State). x.tasks) e
named_tasks s r c m (removes _ _ e) = ap (λ (x : State). x.tasks) e

module _ (o : Outcome Tables) (n : ℕ) where
  abbrev decided : Setting → Stepped Tables
  decided x = judged o (decided_as (known_in o.state) n x)

  decided_here : (k : ℕ) → Fine k o.state → (x : Setting) → Goes (decided x) (settled (outcome_in (state_at k) o) n (setting_of x))
  decided_here k f Unset =
      let d = remove_follows k (interval_in o.state) f.interval n in
      let w = remove_in o.state.requests n in
      record { clock = k; answer = refl; stands = without_stands k o.state f n w d; fine = without_fine k o.state f n w d }
  decided_here k f Ignore = record { clock = k; answer = refl; stands = refl; fine = f }
  decided_here k f (Label l) = record { clock = k; answer = refl; stands = refl; fine = f }

  decided_goes : (m : Outcome State) → Meets o m → (x : Setting) → Goes (decided x) (settled m n (setting_of x))
  decided_goes m d x = subst (λ (y : Outcome State). Goes (decided x) (settled y n (setting_of x))) d.outcome (decided_here d.clock d.fine x)

  -- where a condition arises for a task, the settings are as they were before the command
  settle_goes : (s : State) (m : Outcome State) → Meets o m → ((m.condition ≡ 0 → ⊥) → m.state.tasks ≡ s.tasks) → Goes (settled_of n o) (settle s n m)
  unfolding settle_in
  settle_goes s m d same =
      let c = o.condition in
      let same-condition : o.condition ≡ m.condition = ap (λ (y : Outcome State). y.condition) d.outcome in
      subst (λ (k : ℕ). Goes (settled_of n o) (pick (eqb k normal || eqb n (blank 8)) (settled m n (setting_of Ignore)) (settled m n (decides s.tasks n k)))) same-condition
      (by_test (eqb c normal || eqb n (blank 8)) (λ h. rw h (decided_goes m d Ignore))
      (λ h.
      let arises : m.condition ≡ 0 → ⊥ = λ z. eqb-false c 0 (or_false_l (eqb c normal) (eqb n (blank 8)) h) (same-condition ∙ z) in
      let tasks : decides (tasks_of o.state.settings) n o.condition ≡ decides s.tasks n o.condition =
      ap (λ l. decides l n c) (ap (λ (y : Outcome State). y.state.tasks) d.outcome ∙ same arises) in
      rw h
      (subst (λ x. Goes (decided (decide_in o.state.settings n c)) (settled m n x)) (decide_stands o.state.settings n c ∙ tasks)
      (decided_goes m d (decide_in o.state.settings n c)))))

-- ---- one record

module _ (c : ℕ) (t : Tables) (y : Typed t) (rules : Rules c t) (r : List ℕ) (b : is_bytes r ≡ true) where
  abbrev s : State
  s = state_at c t

  stays : (k : ℕ) → Goes (refused_in t k) (refused s k)
  stays k = record { clock = c; answer = refl; stands = refl; fine = rules.fine }

  heard_goes : formed r ≡ true → (x : Option ℕ) → sender_in t.requests (issuer r) ≡ x
      → Goes (heard_as (row_of (command r)).who (part_of (command r)) (issuer r) t r x) (pick (allowed s r) (settle s (issuer r) (obeyed (limits_of t) s r)) (refused s 34))
  heard_goes e None h = rw (nobody_allowed c t r h) (stays 34)
  heard_goes e (Some i) h =
      rw (at_allowed c t r i h)
      (settle_goes (obeyed_in (row_of (command r)).who (part_of (command r)) (issuer r) i t r) (issuer r) s (obeyed (limits_of t) s r) (obeys_model c t y rules r b i h e)
      (λ z. named_tasks s r _ _ (heard_kept (limits_of t) s r z)))

  turn_goes : Goes (turn_of t r) (step (limits_of t) s r)
  unfolding turn_of step
  turn_goes = by_test (formed r) (λ e. rw e (heard_goes e (sender_in t.requests (issuer r)) refl)) (λ e. rw e (stays 33))

-- ---- from sound tables, at a clock that their register can mean

module _ (t : Tables) (y : Typed t) (k : sound_t t ≡ true) (r : List ℕ) (b : is_bytes r ≡ true) where
  pub goes_at : (c : ℕ) → Means (interval_in t) c → Goes (turn_of t r) (step (limits_of t) (state_at c t) r)
  goes_at c m = turn_goes c t y (by_rules c t m k) r b

  pub turn_sound : sound_t (turn_of t r).tables ≡ true
  turn_sound =
      let own = register_of t.requests in
      let rules = by_rules own t (own_means t) k in
      let g = goes_at own (own_means t) in
      let s = state_sound own t y rules.fine rules.active in
      let a = (model.view (limits_of t) _ (model.step_sound (limits_of t) (state_at own t) r s b)).active in
      from_rules g.clock (turn_of t r).tables
      (record {
        fine = g.fine;
        active = subst Active (sym g.stands) a;
        roomy = roomy_kept t (turn_of t r).tables (turn_kept t y r b) rules.roomy;
      })
