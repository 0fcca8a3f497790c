-- 15 handle, 16 ignore, 17 reset.
use Rattle.std.specs.Prelude.{ℕ, ◌≡◌, Bool, true, ◌||◌, List, [], ◌∷◌, ◌++◌, ltb, eqb, length}
use Rattle.base.specs.Choice.{pick}
use Rattle.base.specs.Lists.{any}
use Rattle.model.specs.Plans.{invalid_request, Outcome, Plan, fault, done, Follows}
use Rattle.model.specs.Handlers as model
use Rattle.settings.specs.declared.Setting.{Setting}
use Rattle.settings.specs.declared.Setting.TheVariants.{Unset, Ignore, Label}
use Rattle.settings.specs.Rows.{Line, named, with_setting}
use Rattle.settings.specs.Table.{Tasks, rows_in, live, with_live, with_row, place_in, line_in, tasks_of, Sound}

-- is there a row of that name, or place for one
abbrev pub room : Tasks → ℕ → Bool
room t n = any (named n) (live t) || ltb (length (live t)) (rows_in t)

-- a row behind the others; where there is no place left nothing changes
abbrev pub add_in : Tasks → Line → Tasks
add_in t v = pick (ltb (length (live t)) (rows_in t)) (with_live t (live t ++ (v ∷ []))) t

-- a row in its place, or behind the others
abbrev pub put_in : Tasks → ℕ → Line → Tasks
put_in t i v = pick (ltb i (length (live t))) (with_row t i v) (add_in t v)

unfoldable pub set_in : Tasks → ℕ → ℕ → Setting → Tasks
set_in t n c x = put_in t (place_in t n) (with_setting c x (line_in t n))

-- all three commands: where a test refuses it nothing changes
abbrev pub set_to : Bool → Tasks → ℕ → ℕ → Setting → Outcome Tasks
set_to refused t n c x = pick refused (fault t invalid_request) (done (set_in t n c x) 0)

-- "10 condition above 10 or label 0"
unfoldable pub handle_in : Tasks → ℕ → ℕ → ℕ → Outcome Tasks
handle_in t n c label = set_to (ltb 10 c || eqb label 0) t n c (Label label)

-- "10 condition above 10"
unfoldable pub ignore_in : Tasks → ℕ → ℕ → Outcome Tasks
ignore_in t n c = set_to (ltb 10 c) t n c Ignore

unfoldable pub reset_in : Tasks → ℕ → ℕ → Outcome Tasks
reset_in t n c = set_to (ltb 10 c) t n c Unset

-- in the words of the model: from sound settings with room for the task an outcome is what the plan comes to, and leaves sound settings
abbrev pub Obeys : Tasks → ℕ → Outcome Tasks → Plan (List model.Task) → Type 0
Obeys t n o p = Sound t → room t n ≡ true → Follows tasks_of Sound o (tasks_of t) p
