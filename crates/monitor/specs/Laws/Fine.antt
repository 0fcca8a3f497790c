-- What the types say of the tables, and the rules of the parts; that fresh tables and tables without a task have both. Assumes nothing.
use Rattle.std.specs.Prelude.{ℕ, ◌^◌, ◌<◌, ◌≡◌, refl, true, ◌&&◌, List, length}
use Rattle.std.proofs.Math.Path.{sym}
use Rattle.std.proofs.Common.{subst, ◌∙◌}
use Rattle.std.proofs.lemmas.List.{length-replicate}
use Rattle.base.specs.Lists.{all}
use Rattle.base.specs.Laws.Tests.{and_l, and_r, and_i}
use Rattle.base.specs.Laws.Maps.{all_map}
use Rattle.base.specs.Laws.Keep.{all_replicate}
use Rattle.base.specs.Bytes.{is_byte, is_bytes}
use Rattle.model.specs.State as model
use Rattle.model.specs.State.{State}
use Rattle.model.specs.Interval.{active_task}
use Rattle.model.specs.Handlers.{Task}
use Rattle.interval.specs.Active.{active_in}
use Rattle.interval.specs.Fresh.{fresh_at}
use Rattle.interval.specs.Rows.{no_row}
use Rattle.interval.specs.Stands.{sound_r, interval_at}
use Rattle.interval.specs.Typed as requests
use Rattle.interval.proofs.Laws.Active.{active_both}
use Rattle.interval.specs.Laws.Fresh as requests-fresh
use Rattle.interval.proofs.Laws.Kept as requests-kept
use Rattle.queues.specs.Sound.{sound_q}
use Rattle.queues.specs.Laws.Fresh as queues-fresh
use Rattle.queues.proofs.Laws.Kept as queues-kept
use Rattle.handlers.specs.Table.{sound_h, tasks_of}
use Rattle.handlers.specs.Laws.Every as settings
use Rattle.handlers.proofs.Laws.Kept as settings_kept
use Rattle.monitor.specs.declared.Parts.{Parts}
use Rattle.monitor.specs.declared.Tables.{Tables}
use Rattle.monitor.specs.Table.{tables, fresh_tables, fresh_parts, no_items, state_at, settled, sound_p, Fresh}

-- the lengths of the arrays, and the widths of the numbers
pub record Typed (t : Tables) : Type 0 where
  pub requests : requests.Typed t.parts.requests
  pub store : queues-kept.Kept t.parts.queues t.items
  pub tasks : settings.Typed t.parts.tasks

-- and the rules of each part
pub record Fine (t : Tables) : Type 0 where
  pub typed : Typed t
  pub requests : sound_r t.parts.requests ≡ true
  pub queues : sound_q t.parts.queues ≡ true
  pub tasks : sound_h t.parts.tasks ≡ true

-- ---- fresh tables

no_items_lem : length no_items ≡ 8192
unfolding no_items
no_items_lem = length-replicate {A = ℕ} 8192 0

zero_items : is_bytes no_items ≡ true
unfolding no_items
zero_items = all_replicate is_byte 8192 0 refl

pub fresh_fine : (v : ℕ) → v < 2 ^ 32 → Fine (fresh_tables v)
unfolding fresh_parts fresh_at
fresh_fine v h = record {
  typed = record {
    requests = requests-kept.fresh_typed v h;
    store = record { typed = queues-fresh.fresh_typed; long = no_items_lem; bytes = zero_items };
    tasks = settings_kept.fresh_typed;
  };
  requests = (requests-fresh.fresh_both v no_row refl).1.soundly;
  queues = (queues-fresh.fresh_empty).soundly;
  tasks = (settings_kept.none_fresh).soundly;
}

-- whatever bytes lie beside them
pub fresh_stands : (v : ℕ) (b : List ℕ) (c : ℕ) → state_at c (tables (fresh_parts v) b) ≡ model.empty_at c
unfolding fresh_parts fresh_at
fresh_stands v b c =
    let i = (requests-fresh.fresh_both v no_row refl).1.idle c in
    let q = (queues-fresh.fresh_empty).nothing b in
    let s = (settings_kept.none_fresh).none in
    cc

-- ---- "only an active task has settings"

-- each task of the model that has settings is active
abbrev pub Active : State → Type 0
Active s = all (λ (m : Task). active_task s.interval m.name) s.tasks ≡ true

module _ (c : ℕ) (t : Tables) where
  pub active_stands : (n : ℕ) → active_in t.parts.requests n ≡ active_task (interval_at c t.parts.requests) n
  unfolding active_in
  active_stands n = (active_both t.parts.requests n (active_in t.parts.requests n) refl).1 c

  settled_stands : all (active_in t.parts.requests) (settled t.parts.tasks) ≡ all (λ (m : Task). active_task (interval_at c t.parts.requests) m.name) (tasks_of t.parts.tasks)
  settled_stands =
      all_map (λ (m : Task). m.name) (λ (m : Task). active_task (interval_at c t.parts.requests) m.name) (active_in t.parts.requests)
      (λ m. active_stands m.name) (tasks_of t.parts.tasks)

  -- the whole test, by its rules and back
  pub sound_fine : Typed t → sound_p t.parts ≡ true → Fine t
  unfolding sound_p
  sound_fine y h =
      let p = t.parts in
      let three = and_l (sound_r p.requests && sound_q p.queues && sound_h p.tasks) (all (active_in p.requests) (settled p.tasks)) h in
      let two = and_l (sound_r p.requests && sound_q p.queues) (sound_h p.tasks) three in
      record {
        typed = y;
        requests = and_l (sound_r p.requests) (sound_q p.queues) two;
        queues = and_r (sound_r p.requests) (sound_q p.queues) two;
        tasks = and_r (sound_r p.requests && sound_q p.queues) (sound_h p.tasks) three;
      }

  pub sound_active : sound_p t.parts ≡ true → Active (state_at c t)
  unfolding sound_p
  sound_active h =
      let p = t.parts in
      sym settled_stands ∙ and_r (sound_r p.requests && sound_q p.queues && sound_h p.tasks) (all (active_in p.requests) (settled p.tasks)) h

  pub fine_sound : Fine t → Active (state_at c t) → sound_p t.parts ≡ true
  unfolding sound_p
  fine_sound f a = and_i (and_i (and_i f.requests f.queues) f.tasks) (settled_stands ∙ a)

-- ---- fresh tables, whole

pub fresh_sound : (v : ℕ) → v < 2 ^ 32 → sound_p (fresh_parts v) ≡ true
fresh_sound v h = fine_sound 0 (fresh_tables v) (fresh_fine v h) (subst Active (sym (fresh_stands v no_items 0)) refl)

pub fresh_told : (v : ℕ) → v < 2 ^ 32 → (b : List ℕ) → Fresh v (tables (fresh_parts v) b)
unfolding fresh_parts fresh_at
fresh_told v h b = record { register = refl; soundly = fresh_sound v h; empty = fresh_stands v b }

-- both clauses
pub fresh_parts_lem : (v : ℕ) → v < 2 ^ 32 → (p : Parts) → p ≡ fresh_parts v → (p ≡ fresh_parts v) × ((b : List ℕ) → Fresh v (tables p b))
fresh_parts_lem v h p e = (e, λ b. subst (λ (x : Parts). Fresh v (tables x b)) (sym e) (fresh_told v h b))

pub fresh_whole : (v : ℕ) → v < 2 ^ 32 → (t : Tables) → t ≡ fresh_tables v → (t ≡ fresh_tables v) × Fresh v t
fresh_whole v h t e = (e, subst (Fresh v) (sym e) (fresh_told v h no_items))
