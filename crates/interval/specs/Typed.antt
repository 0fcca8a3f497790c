-- What the struct's type says of a value of it: the lengths of its arrays, and the widths of its numbers. Assumes nothing.
use Rattle.std.specs.Prelude.{◌≡◌, ℕ, ◌^◌, ◌<◌, Bool, true, ◌&&◌, length, ◌==◌, nat_lt}
use Rattle.base.specs.Lists.{all}
use Rattle.base.specs.Bytes.{is_bytes}
use Rattle.interval.specs.declared.Phase.{Phase}
use Rattle.interval.specs.declared.Phase.TheVariants.{Waiting, Expired, Active}
use Rattle.interval.specs.declared.Request.{Request}
use Rattle.interval.specs.declared.Requests.{Requests}

abbrev pub word : ℕ → Bool
word n = nat_lt n (2 ^ 32)

abbrev pub typed_phase : Phase → Bool
typed_phase (Waiting d) = word d
typed_phase Expired = true
typed_phase (Active t) = true

-- all but its phase
abbrev pub typed_rest : Request → Bool
typed_rest q =
    nat_lt q.name (2 ^ 64) && word q.program && word q.terminal && nat_lt q.len (2 ^ 8) && length q.bytes == 64 && is_bytes q.bytes

abbrev pub typed_row : Request → Bool
typed_row q = typed_rest q && typed_phase q.phase

pub record Typed (t : Requests) : Type 0 where
  pub register : t.register < 2 ^ 32
  pub pcount : t.pcount < 2 ^ 64
  pub programs : length t.programs ≡ 16
  pub each_program : all word t.programs ≡ true
  pub tcount : t.tcount < 2 ^ 64
  pub terminals : length t.terminals ≡ 8
  pub each_terminal : all word t.terminals ≡ true
  pub count : t.count < 2 ^ 64
  pub rows : length t.rows ≡ 32
  pub each_row : all typed_row t.rows ≡ true
