-- Sound tables by their rules, at a clock that the register can mean; and that they stand for a sound state of the model. Assumes nothing.
use Rattle.std.specs.Prelude.{ℕ, ◌≤◌, ◌≡◌, true, length}
use Rattle.std.proofs.Math.Path.{sym}
use Rattle.std.proofs.Common.{ap, ◌∙◌, arith}
use borrow.Author.Tests.{leb-true, le-leb}
use Rattle.base.specs.Lists.{all}
use Rattle.base.specs.Laws.Tests.{both, and_i}
use Rattle.base.specs.Laws.Maps.{all_map}
use Rattle.model.specs.State.{State, sound}
use Rattle.model.specs.Interval.{active_task}
use Rattle.model.specs.Queues.{sound_queues}
use Rattle.model.specs.Handlers.{Task}
use Rattle.model.proofs.Laws.SoundStep as model
use Rattle.request_rows.specs.Table.{register_of}
use Rattle.request_rows.specs.Active.{active_in}
use Rattle.request_rows.specs.Stands as requests
use Rattle.request_rows.specs.Stands.{Means, interval_at}
use Rattle.request_rows.specs.Laws.Active as requests-active
use Rattle.request_rows.specs.Laws.Bounds.{bounds_same}
use Rattle.request_rows.specs.Laws.Ties.{sound_here}
use Rattle.queue_rows.specs.Sound.{sound_q}
use Rattle.queue_rows.specs.Laws.Stands as queues
use Rattle.settings.specs.Table.{tasks_of, sound_h, rows_in as linesIn}
use Rattle.settings.specs.Names.{names_in}
use Rattle.settings.specs.Laws.Standing as settings
use Rattle.turn_rules.specs.Tables.{Tables, interval_in, store_in}
use Rattle.turn_rules.specs.Standing.{state_at, limits_of, sound_t, Typed}
use Rattle.turn_rules.specs.Laws.Kept.{Keeps}

-- the rules of the parts
pub record Fine (c : ℕ) (t : Tables) : Type 0 where
  pub interval : requests.Fine c (interval_in t)
  pub queues : sound_q t.queues ≡ true
  pub settings : sound_h t.settings ≡ true

-- "only an active task has settings": each task of the model that has some is active
abbrev pub Active : State → Type 0
Active s = all (λ (m : Task). active_task s.interval m.name) s.tasks ≡ true

-- a row of settings for each task that can be active
abbrev pub Roomy : Tables → Type 0
Roomy t = length t.programs.places ≤ linesIn t.settings

pub roomy_kept : (t t' : Tables) → Keeps t t' → Roomy t → Roomy t'
roomy_kept t t' k h = omega (arith, k.memory.programs, k.lines)

-- ---- the whole test, by its rules and back

module _ (c : ℕ) (t : Tables) where
  settled_stands : all (active_in t.requests) (names_in t.settings) ≡ all (λ (m : Task). active_task (interval_at c (interval_in t)) m.name) (tasks_of t.settings)
  settled_stands =
      ap (all (active_in t.requests)) (sym (settings.names_stand t.settings))
      ∙ all_map (λ (m : Task). m.name) (λ (m : Task). active_task (interval_at c (interval_in t)) m.name) (active_in t.requests)
      (λ m. requests-active.active_stands c (interval_in t) m.name) (tasks_of t.settings)

  pub record Rules : Type 0 where
    pub fine : Fine c t
    pub active : Active (state_at c t)
    pub roomy : Roomy t

  pub by_rules : Means (interval_in t) c → sound_t t ≡ true → Rules
  unfolding sound_t
  by_rules m h =
      let p4 = both _ _ h in
      let p3 = both _ _ p4.0 in
      let p2 = both _ _ p3.0 in
      let p1 = both _ _ p2.0 in
      record {
        fine = record { interval = record { means = m; soundly = p1.0 }; queues = p1.1; settings = p2.1 };
        active = sym settled_stands ∙ p3.1;
        roomy = leb-true _ _ p4.1;
      }

  pub from_rules : Rules → sound_t t ≡ true
  unfolding sound_t
  from_rules r =
      let f = r.fine in
      and_i (and_i (and_i (and_i f.interval.soundly f.queues) f.settings) (settled_stands ∙ r.active)) (le-leb _ _ r.roomy)

  -- ---- the state

  pub state_sound : Typed t → Fine c t → Active (state_at c t) → sound (limits_of t) (state_at c t) ≡ true
  unfolding sound_queues
  state_sound y f a =
      model.unview (limits_of t) (state_at c t)
      (record {
        interval = bounds_same _ _ _ _ _ 0 0 (interval_at c (interval_in t)) ∙ sound_here (interval_in t) c f.interval;
        queues = queues.model_sound (store_in t) y.fits f.queues y.store;
        tasks = settings.model_sound t.settings f.settings;
        active = a;
      })

-- the register means its own value
pub own_means : (t : Tables) → Means (interval_in t) (register_of t.requests)
own_means t = omega arith
