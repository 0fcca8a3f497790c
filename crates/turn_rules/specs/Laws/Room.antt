-- There is always a row for the settings of an active task: each active task has a program of its own, there is a row for each program, and only an
-- active task has settings. Assumes nothing.
use Rattle.std.specs.Prelude.{ℕ, ◌≤◌, ◌≡◌, true, List, map, eqb, length}
use Rattle.std.proofs.Common.{◌∙◌, arith}
use Rattle.std.proofs.lemmas.List.{length-map}
use Rattle.base.specs.Lists.{all, has, keep, within}
use Rattle.base.specs.Laws.Keep.{any_keep, all_keep}
use Rattle.base.specs.Laws.Maps.{all_map_imp}
use Rattle.base.specs.Laws.Counting.{has_map, pigeon}
use Rattle.model.specs.Limits.{Limits}
use Rattle.model.specs.Interval.{Request, Interval, active, active_task, running, sound_request, sound_interval}
use Rattle.model.specs.Handlers.{Task}
use Rattle.model.proofs.Laws.SoundInterval.{view, view_request}
use Rattle.settings.specs.Table.{Tasks, tasks_of, sound_h, rows_in}
use Rattle.settings.specs.Set.{room}
use Rattle.settings.specs.Laws.Standing.{room_within}

abbrev name_of : Request → ℕ
name_of q = q.name

-- the names of the active tasks
abbrev pub actives : Interval → List ℕ
actives i = map name_of (keep active i.requests)

has_active : (i : Interval) (n : ℕ) → has n (actives i) ≡ active_task i n
has_active i n = has_map name_of n (keep active i.requests) ∙ any_keep (λ (q : Request). eqb q.name n) active i.requests

-- who has settings is among them
pub within_actives : (i : Interval) (l : List Task) → all (λ (m : Task). active_task i m.name) l ≡ true → within (map (λ (m : Task). m.name) l) (actives i) ≡ true
within_actives i l a =
    all_map_imp (λ (m : Task). m.name) (λ (m : Task). active_task i m.name) (λ k. has k (actives i)) (λ m k. has_active i m.name ∙ k) l a

module _ (L : Limits) (i : Interval) (h : sound_interval L i ≡ true) where
  knows_program : (q : Request) → sound_request L i q ≡ true → has q.program i.programs ≡ true
  knows_program q e = (view_request L i q e).program

  running_known : within (running i.requests) i.programs ≡ true
  running_known =
      all_map_imp (λ (q : Request). q.program) (sound_request L i) (λ n. has n i.programs) knows_program (keep active i.requests)
      (all_keep (sound_request L i) active i.requests (view {L = L} {i = i} h).requests.sound)

  pub few_active : length (actives i) ≤ L.programs
  few_active =
      omega (
        arith,
        length-map (keep active i.requests) name_of,
        length-map (keep active i.requests) (λ (q : Request). q.program),
        pigeon (running i.requests) i.programs (view {L = L} {i = i} h).requests.runs running_known,
        (view {L = L} {i = i} h).programs.fit,
      )

  pub has_room : (t : Tasks) (n : ℕ) → L.programs ≤ rows_in t → sound_h t ≡ true → all (λ (m : Task). active_task i m.name) (tasks_of t) ≡ true
      → active_task i n ≡ true → room t n ≡ true
  has_room t n most s a e =
      room_within t n (actives i) s (within_actives i (tasks_of t) a) (has_active i n ∙ e) (omega (arith, few_active))
