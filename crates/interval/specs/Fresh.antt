-- Tables with no program, no terminal and no request.
use Rattle.std.specs.Prelude.{◌≡◌, ℕ, true, replicate}
use Rattle.model.specs.Interval as model
use Rattle.interval.specs.declared.Requests.{Requests}
use Rattle.interval.specs.Stands.{sound_r, interval_at}
use Rattle.interval.specs.Rows.{no_row}

unfoldable pub fresh_at : ℕ → Requests
fresh_at register = record {
  register = register;
  pcount = 0;
  programs = replicate 16 0;
  tcount = 0;
  terminals = replicate 8 0;
  count = 0;
  rows = replicate 32 no_row;
}

-- in the words of the model: idle at every clock that the register can mean, and at every other
pub record Fresh (register : ℕ) (t : Requests) : Type 0 where
  pub starts : t.register ≡ register
  pub idle : (c : ℕ) → interval_at c t ≡ model.idle_at c
  pub soundly : sound_r t ≡ true
