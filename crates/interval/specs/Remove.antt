-- A request goes.
use Rattle.std.specs.Prelude.{◌≡◌, ℕ, true}
use Rattle.base.specs.Choice.{pick}
use Rattle.base.specs.Lists.{any, first_at, cut_at}
use Rattle.model.specs.Interval as model
use Rattle.interval.specs.declared.Requests.{Requests}
use Rattle.interval.specs.Table.{live, with_live}
use Rattle.interval.specs.Stands.{Means, sound_r, interval_at}
use Rattle.interval.specs.Rows.{named}

-- the first of that name, if there is one
unfoldable pub remove_in : Requests → ℕ → Requests
remove_in t n = pick (any (named n) (live t)) (with_live t (cut_at (first_at (named n) (live t)) (live t))) t

-- in the words of the model
pub record Removed (c : ℕ) (t : Requests) (n : ℕ) (t' : Requests) : Type 0 where
  pub stands : interval_at c t' ≡ model.remove (interval_at c t) n
  pub means : Means t' c
  pub soundly : sound_r t' ≡ true
