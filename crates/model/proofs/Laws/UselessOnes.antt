-- A monitor of each useless class, so that the refutations are about something: two that answer one condition to all that they hear, one
-- that alters nothing, two that honour the first command alone; and one that calls all tables unsound. Each fails a demand.
-- Assumes nothing.
use Rattle.std.specs.Prelude.{ℕ, ◌≡◌}
use Rattle.std.proofs.Common.{arith}
use Rattle.std.proofs.Math.Path.{refl, ap}
use mathlib.Core.List.{List, [], ◌∷◌, map}
use Rattle.base.specs.Choice.{pick}
use Rattle.model.specs.Limits.{cabinet}
use Rattle.model.specs.State.{State, empty_at}
use Rattle.model.specs.Commands.{Answer, Turn, refused, formed, allowed, step}
use Rattle.model.specs.Demands.{Stepped, Monitor, Demand2, Demand3, answers}
use Rattle.model.proofs.Laws.Itself.{turned}
use Rattle.model.proofs.Laws.Useless.{SaysOnly, AltersNothing, Mimics, no_tens, no_zeros, no_still_2, no_still_3, no_mimic}

-- tables that are the model's own state, all of them sound
abbrev over : (State → List ℕ → Turn) → Monitor
over f = record { Tables = State; fresh = empty_at; step = λ s r. turned (f s r); Sound = λ s. Unit {0}; Stands = λ t s. t ≡ s }

-- ---- one condition to everything: it refuses 33 and 34 as it should, and answers k to all else

abbrev only : ℕ → State → List ℕ → Turn
only k s r = pick (formed r) (pick (allowed s r) (refused s k) (refused s 34)) (refused s 33)

says_only : (k : ℕ) → SaysOnly (over (only k)) k
unfolding allowed
says_only k = record { says = λ t r f i. rw (f, i) }

abbrev pub tens : Monitor
tens = over (only 10)

pub tens_out : Demand2 cabinet tens → ⊥
tens_out = no_tens tens (says_only 10)

abbrev pub zeros : Monitor
zeros = over (only 0)

pub zeros_out : Demand2 cabinet zeros → ⊥
zeros_out = no_zeros zeros (says_only 0)

-- ---- it answers as the model does, and alters nothing

abbrev pub still : Monitor
still = over (λ s r. record { answer = (step cabinet s r).answer; state = s })

still_alters : AltersNothing still
still_alters = record { same = λ t r e. refl }

pub still_out : (Demand2 cabinet still → ⊥) × (Demand3 cabinet still → ⊥)
still_out = (no_still_2 still still_alters, no_still_3 still still_alters)

-- ---- the first command is honoured, and what is kept of it answers all the rest

pub data Memory (A : Type 0) : Type 0 where
  none : Memory A
  kept : A → Memory A

-- A is what is kept of the first turn, by `keeps`; `later` answers by it
module _ {A : Type 0} (keeps : Turn → A) (later : A → List ℕ → Answer) where
  abbrev first : List ℕ → Turn
  first r = step cabinet (empty_at 0) r

  abbrev turn : Memory A → List ℕ → Stepped (Memory A)
  turn none r = record { answer = (first r).answer; tables = kept (keeps (first r)) }
  turn (kept a) r = record { answer = later a r; tables = kept a }

  abbrev remembers : Monitor
  remembers = record { Tables = Memory A; fresh = λ v. none; step = turn; Sound = λ t. Unit {0}; Stands = λ t s. Unit {0} }

  rest : (a : A) (rs : List (List ℕ)) → answers remembers (kept a) rs ≡ map (later a) rs
  unfolding answers
  rest a [] = refl
  rest a (r ∷ rs) = ap (λ (l : List Answer). later a r ∷ l) (rest a rs)

  mimics : Mimics remembers
  unfolding answers
  mimics = record {
    later = λ q r. later (keeps (first q)) r;
    mimics = λ r rs. ap (λ (l : List Answer). (first r).answer ∷ l) (rest (keeps (first r)) rs);
  }

-- the state after the first command
abbrev pub once_only : Monitor
once_only = remembers (λ (x : Turn). x.state) (λ s r. (step cabinet s r).answer)

pub once_only_out : Demand3 cabinet once_only → ⊥
once_only_out = no_mimic once_only (mimics (λ (x : Turn). x.state) (λ s r. (step cabinet s r).answer))

-- the first answer, for ever
abbrev pub again : Monitor
again = remembers (λ (x : Turn). x.answer) (λ a r. a)

pub again_out : Demand3 cabinet again → ⊥
again_out = no_mimic again (mimics (λ (x : Turn). x.answer) (λ a r. a))

-- ---- it calls all tables unsound, and answers 32: fresh ones must be sound

abbrev pub asleep : Monitor
asleep = record { Tables = State; fresh = empty_at; step = λ s r. turned (refused s 32); Sound = λ s. ⊥; Stands = λ t s. t ≡ s }

pub asleep_out : Demand2 cabinet asleep → ⊥
asleep_out D = D.begins 0 (omega arith)
