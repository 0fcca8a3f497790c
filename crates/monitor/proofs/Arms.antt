-- An arm of the match on a command's number gives what that command asks. Assumes nothing.
use Prim.Native.Nat.{ℕ}
use mathlib.Core.Path.{◌≡◌, refl, sym, ap, ◌∙◌}
use mathlib.Core.List.{List}
use borrow.Author.Tests.{ne_eqb}
use Rattle.model.specs.Commands.{issuer, operand}
use Rattle.interval.specs.declared.Requests.{Requests}
use Rattle.interval.specs.Runs.{Retrieve, turn}
use Rattle.queues.specs.Runs.{Delete}
use Rattle.monitor.specs.declared.requests.Asked.{Asked}
use Rattle.monitor.specs.Requests.{asks, ask_of}
use Rattle.monitor.specs.Store.{store_ask}

module _ (t : Requests) (r : List ℕ) {n : ℕ} {x : Asked} where
  -- the number is k, at which the definition computes
  pub arm : (k : ℕ) → n ≡ k → x ≡ asks (turn t (ask_of k r)) → x ≡ asks (turn t (ask_of n r))
  arm k n-is e = e ∙ ap (λ (m : ℕ). asks (turn t (ask_of m r))) (sym n-is)

abbrev Other : ℕ → ℕ → Type 0
Other n k = n ≡ k → ⊥

-- the number is none of those before, and the last stands for it
pub last_arm :
    (r : List ℕ) (n : ℕ) → Other n 1 → Other n 2 → Other n 3 → Other n 4 → Other n 5 → Other n 6 → Other n 7
    → Retrieve (issuer r) (operand 0 1 r) ≡ ask_of n r
unfolding ask_of
last_arm r n a b c d e f g =
    rw (ne_eqb n 1 a, ne_eqb n 2 b, ne_eqb n 3 c, ne_eqb n 4 d, ne_eqb n 5 e, ne_eqb n 6 f, ne_eqb n 7 g) refl

pub last_store_arm : (r : List ℕ) (n : ℕ) → Other n 10 → Other n 11 → Other n 12 → Other n 13 → Delete (operand 0 8 r) ≡ store_ask n r
unfolding store_ask
last_store_arm r n a b c d = rw (ne_eqb n 10 a, ne_eqb n 11 b, ne_eqb n 12 c, ne_eqb n 13 d) refl
