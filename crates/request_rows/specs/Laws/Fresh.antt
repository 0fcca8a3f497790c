-- Fresh tables stand for the idle state and are sound, at every clock that the register can mean, whatever the lent bytes are. Assumes nothing.
use Rattle.std.specs.Prelude.{ℕ, ◌%◌, ◌^◌, ◌≡◌, List, length, set}
use Rattle.std.proofs.Math.Path.{refl}
use Rattle.std.proofs.Common.{◌∙◌}
use native.Mathlib.Omega.{arith}
use Rattle.std.proofs.Math.ListN.{get_or, length-set}
use Rattle.std.proofs.Math.Seq.{get_or-set_same}
use Rattle.model.specs.Interval as model
use Rattle.model.proofs.Laws.SoundInterval.{idle_sound}
use Rattle.names.specs.Names.{fresh_of}
use Rattle.request_rows.specs.Fresh.{fresh_at}
use Rattle.request_rows.specs.Stands.{Memory, memory, limits_of, interval_at, Fine}
use Rattle.request_rows.specs.Laws.Ties.{Small, sound_back}

-- as much is lent as m has
abbrev pub fresh_memory : Memory → List ℕ → ℕ → Memory
fresh_memory m area register = memory (fresh_of m.programs) (fresh_of m.terminals) (fresh_at m.requests register) area

module _ (m : Memory) (area : List ℕ) (register c : ℕ) where
  abbrev fresh : Memory
  fresh = fresh_memory m area register

  pub fresh_stands : interval_at c (fresh_memory m area register) ≡ model.idle_at c
  unfolding fresh_at interval_at
  fresh_stands = refl

  -- where a word is lent for the register
  module _ (lent : length m.requests.register ≡ 1) where
    empty : Small fresh
    unfolding fresh_at
    empty = record {
      programs = omega arith;
      terminals = omega arith;
      requests = omega arith;
      register = length-set m.requests.register 0 register ∙ lent;
      laid = record { shorts = refl; insides = refl; apart = refl };
    }

    pub fresh_fine : c % 2 ^ 32 ≡ register → Fine c (fresh_memory m area register)
    unfolding fresh_at
    fresh_fine e =
        let there : get_or (set m.requests.register 0 register) 0 0 ≡ register = get_or-set_same m.requests.register 0 register 0 (omega arith) in
        let means : get_or (set m.requests.register 0 register) 0 0 % 4_294_967_296 ≡ c % 2 ^ 32 = omega arith in
        sound_back fresh c means empty (rw fresh_stands (idle_sound (limits_of fresh) c))
