-- Where the first stands, by a number that is past all live rows where there is none: the code has an Option now, and nothing cites these. Assumes
-- nothing.
use Rattle.std.specs.Prelude.{◌≡◌, ℕ, ◌<◌, ◌≤◌, min, Bool, true, false, ◌&&◌, length, refl}
use Rattle.base.specs.Lists.{any, first_at}
use Rattle.base.specs.Laws.Seeking.{there, nowhere}
use Rattle.interval.specs.declared.Request.{Request}
use Rattle.interval.specs.declared.Requests.{Requests}
use Rattle.interval.specs.Table.{live}

module _ (p : Request → Bool) (t : Requests) (long : length t.rows ≡ 32) (i m : ℕ) (ei : i ≡ first_at p (live t)) (em : m ≡ min t.count 32) where
  pub found : i < m → any p (live t) ≡ true
  found h = there p t.rows t.count 32 m em long i ei h

  pub missing : m ≤ i → any p (live t) ≡ false
  missing h = nowhere p t.rows t.count 32 m em long i ei h

pub and_no : (b : Bool) → (b && false) ≡ false
and_no true = refl
and_no false = refl
