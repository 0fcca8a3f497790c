-- Condition handling (document 01, "Handler rules"; 000, "Exceptional conditions"). It knows a task by its name alone.
use Rattle.std.specs.Prelude.{ℕ, suc, ◌^◌, Bool, true, not, ◌&&◌, ◌||◌, List, [], ◌∷◌, ◌++◌, map, length, get_or, set, replicate, leb, ltb, eqb}
use Rattle.base.specs.Choice.{pick}
use Rattle.base.specs.Lists.{keep, any, all, first, once}
use Rattle.model.specs.Plans.{invalid_request, check, Plan, done, plan}

-- "unset, ignore, or a label 1..65535"
pub data Setting : Type 0 where
  Unset : Setting
  Ignore : Setting
  Label : ℕ → Setting

-- "Each task has a setting for conditions 0..10"; a task that is not listed has all unset (Exceptions)
pub record Task : Type 0 where
  pub name : ℕ
  pub settings : List Setting

abbrev pub all_unset : List Setting
all_unset = replicate (suc invalid_request) Unset

abbrev pub unset_task : ℕ → Task
unset_task n = record { name = n; settings = all_unset }

abbrev pub settings_of : List Task → ℕ → List Setting
settings_of l n = (first (λ (t : Task). eqb t.name n) (unset_task n) l).settings

-- "setting c decides; if unset, setting 0"; where that is unset too it stays so, and is the abend (Exception Check)
abbrev pub or_else : Setting → Setting → Setting
or_else Unset general = general
or_else Ignore general = Ignore
or_else (Label n) general = Label n

abbrev pub decides : List Task → ℕ → ℕ → Setting
decides l n c = or_else (get_or (settings_of l n) c Unset) (get_or (settings_of l n) 0 Unset)

-- ---- 15 handle, 16 ignore, 17 reset

abbrev pub listed : List Task → ℕ → List Task
listed l n = pick (any (λ (t : Task). eqb t.name n) l) l (l ++ (unset_task n ∷ []))

abbrev pub set_at : ℕ → Setting → Task → Task
set_at c x t = record { name = t.name; settings = set t.settings c x }

abbrev pub set_to : List Task → ℕ → ℕ → Setting → List Task
set_to l n c x = map (λ (t : Task). pick (eqb t.name n) (set_at c x t) t) (listed l n)

-- "10 condition above 10 or label 0" (Handle Condition)
unfoldable pub handle : List Task → ℕ → ℕ → ℕ → Plan (List Task)
handle l n c label = plan (check (ltb invalid_request c || eqb label 0) invalid_request ∷ []) (done (set_to l n c (Label label)) 0)

-- "10 condition above 10" (Ignore Condition)
unfoldable pub ignore : List Task → ℕ → ℕ → Plan (List Task)
ignore l n c = plan (check (ltb invalid_request c) invalid_request ∷ []) (done (set_to l n c Ignore) 0)

unfoldable pub reset : List Task → ℕ → ℕ → Plan (List Task)
reset l n c = plan (check (ltb invalid_request c) invalid_request ∷ []) (done (set_to l n c Unset) 0)

-- the task's settings go
abbrev pub forget : List Task → ℕ → List Task
forget l n = keep (λ (t : Task). not (eqb t.name n)) l

-- ---- sound settings

-- "handler labels are not 0", and have two bytes
abbrev pub sound_setting : Setting → Bool
sound_setting Unset = true
sound_setting Ignore = true
sound_setting (Label n) = leb 1 n && ltb n (2 ^ 16)

abbrev pub sound_task : Task → Bool
sound_task t = eqb (length t.settings) (suc invalid_request) && all sound_setting t.settings

unfoldable pub sound_tasks : List Task → Bool
sound_tasks l = once (map (λ (t : Task). t.name) l) && all sound_task l
