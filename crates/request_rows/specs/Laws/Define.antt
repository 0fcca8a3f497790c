-- Defining a program or a terminal is what the model does: what is so of any names, and then the two. Assumes nothing.
use Rattle.std.specs.Prelude.{ℕ, ◌^◌, ◌<◌, ◌≤◌, ◌≡◌, eqb, leb, length}
use Rattle.std.proofs.Math.Path.{refl, ap}
use mathlib.Core.List.{List, [], ◌∷◌, ◌++◌}
use Rattle.std.proofs.Common.{arith, length-append, leb-false}
use Rattle.base.specs.Lists.{has}
use Rattle.base.specs.Bytes.{blank}
use Rattle.base.specs.Laws.Over.{take_over, length_over}
use Rattle.model.specs.Limits.{sized}
use Rattle.model.specs.Plans.{Check, check, done, outcome_in, Follows, invalid_request, not_unique, no_space}
use Rattle.model.specs.Interval as model
use Rattle.model.specs.Laws.PlanLaws.{Clear}
use Rattle.model.proofs.Laws.SoundInterval.{program_sound, terminal_sound}
use Rattle.names.specs.Names.{Names, names_in, with_names, define_in}
use Rattle.request_rows.specs.Table.{spaces}
use Rattle.request_rows.specs.Stands.{Memory, with_programs, with_terminals, limits_of, interval_at, Fine}
use Rattle.request_rows.specs.Laws.Ties.{Small, small, Stays, checks_follow}

-- ---- of any names

module _ (v : Names) (n : ℕ) where
  abbrev more : List ℕ
  more = names_in v ++ (n ∷ [])

  abbrev checks : List Check
  checks =
      check (eqb n (blank 4)) invalid_request
      ∷ check (has n (names_in v)) not_unique
      ∷ check (leb (length v.places) (length (names_in v))) no_space
      ∷ []

  module _ (k : Clear checks) where
    room : length more ≤ length v.places
    room = simp length-append (omega (arith, leb-false (length v.places) (length (names_in v)) k.1.1.0))

    as_many : length (with_names v more).places ≡ length v.places
    as_many = length_over more v.places room

    counted : (with_names v more).count ≤ length (with_names v more).places
    counted = omega (arith, room, as_many)

-- ---- the two

module _ (c : ℕ) (m : Memory) (f : Fine c m) (n : ℕ) (h : n < 2 ^ 32) where
  bounds : Small m
  bounds = small m f.soundly

  more_programs : Clear (checks m.programs n) → Stays c m (with_programs m (with_names m.programs (more m.programs n)))
  more_programs k = record {
    limits = ap (λ (p : ℕ). sized p (length m.terminals.places) (spaces m.requests m.area) 0 0) (as_many m.programs n k);
    means = f.means;
    small = record { programs = counted m.programs n k; terminals = bounds.terminals; requests = bounds.requests; register = bounds.register; laid = bounds.laid };
  }

  pub program_follows : Follows (interval_at c) (Fine c) (outcome_in (with_programs m) (define_in m.programs n)) (interval_at c m)
      (model.define_program (limits_of m) (interval_at c m) n)
  unfolding define_in model.define_program interval_at
  program_follows =
      checks_follow c (with_programs m) m.programs (checks m.programs n) (done (with_names m.programs (more m.programs n)) 0)
      (model.define_program (limits_of m) (interval_at c m) n) f refl refl
      (λ k. ap (λ (l : List ℕ). done (model.with_programs (interval_at c m) l) 0) (take_over (more m.programs n) m.programs.places))
      (λ s e. program_sound (limits_of m) (interval_at c m) s n h e) more_programs

  more_terminals : Clear (checks m.terminals n) → Stays c m (with_terminals m (with_names m.terminals (more m.terminals n)))
  more_terminals k = record {
    limits = ap (λ (p : ℕ). sized (length m.programs.places) p (spaces m.requests m.area) 0 0) (as_many m.terminals n k);
    means = f.means;
    small = record { programs = bounds.programs; terminals = counted m.terminals n k; requests = bounds.requests; register = bounds.register; laid = bounds.laid };
  }

  pub terminal_follows : Follows (interval_at c) (Fine c) (outcome_in (with_terminals m) (define_in m.terminals n)) (interval_at c m)
      (model.define_terminal (limits_of m) (interval_at c m) n)
  unfolding define_in model.define_terminal interval_at
  terminal_follows =
      checks_follow c (with_terminals m) m.terminals (checks m.terminals n) (done (with_names m.terminals (more m.terminals n)) 0)
      (model.define_terminal (limits_of m) (interval_at c m) n) f refl refl
      (λ k. ap (λ (l : List ℕ). done (model.with_terminals (interval_at c m) l) 0) (take_over (more m.terminals n) m.terminals.places))
      (λ s e. terminal_sound (limits_of m) (interval_at c m) s n h e) more_terminals
