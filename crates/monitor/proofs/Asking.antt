-- What the calls of a command's function come to together: the tables that interval control gave, and what was said of its outcome.
-- Assumes nothing.
use Prim.Native.Nat.{ℕ}
use mathlib.Core.Path.{◌≡◌, ap, ◌∙◌}
use mathlib.Core.List.{List, []}
use Rattle.model.specs.Plans.{Outcome}
use Rattle.interval.specs.declared.Requests.{Requests}
use Rattle.interval.specs.Answers.{Defined}
use Rattle.interval.specs.Define.{define_gives}
use Rattle.interval.specs.Start.{asked}
use Rattle.monitor.specs.declared.answers.Said.{Said}
use Rattle.monitor.specs.declared.requests.Asked.{Asked}
use Rattle.monitor.specs.Answers.{saying, said}
use Rattle.monitor.specs.Requests.{asks}

abbrev pub asked_in : Requests → Said → Asked
asked_in t s = record { requests = t; said = s }

-- interval control gave d, which is e by its promise, and s was said of d
pub told : {D : Type 0} (f : D → Outcome Requests) {d e : D} {s : Said} → d ≡ e → s ≡ said (f d) → asked_in (f d).state s ≡ asks (f e)
told f {d = d} same s-is = ap (asked_in (f d).state) s-is ∙ ap (λ x. asks (f x)) same

-- a condition alone is said
pub plainly : {k n : ℕ} {s : Said} → k ≡ n → s ≡ saying k 0 [] → s ≡ saying n 0 []
plainly k-is s-is = s-is ∙ ap (λ (x : ℕ). saying x 0 []) k-is

-- the five operands of a start, each as it is read
pub read_alike :
    {n p m i n' p' m' i' : ℕ} {b b' : List ℕ} → n ≡ n' → p ≡ p' → m ≡ m' → i ≡ i' → b ≡ b' → asked n p m i b ≡ asked n' p' m' i' b'
read_alike n-is p-is m-is i-is b-is = rw (n-is, p-is, m-is, i-is, b-is)
