-- What is said and what an outcome holds: a condition by its number, an outcome by what was said, and the other way. Assumes nothing.
use Rattle.std.specs.Prelude.{ℕ, ◌≡◌, refl, List, [], ◌∷◌, length, take, get_or}
use Rattle.std.proofs.Common.{sym, ap, ap₂, ◌∙◌}
use Rattle.std.proofs.Math.Seq.{take-nil}
use Rattle.base.specs.Lists.{over}
use Rattle.model.specs.Plans.{Outcome}
use Rattle.words.specs.declared.said.Condition.{Condition}
use Rattle.words.specs.declared.said.Condition.TheVariants.{Normal, NoSpace, UnknownQueue, NoSuchItem, WrongLength, UnknownProgram, UnknownTerminal, NotUnique, NotFound, EndOfData, InvalidRequest}
use Rattle.words.specs.declared.said.Said.{Said}
use Rattle.words.specs.Said.{code_of, plainly, Gave, gave, handed, told}

-- ---- conditions

-- all of them, each at its number
abbrev conditions : List Condition
conditions = Normal ∷ NoSpace ∷ UnknownQueue ∷ NoSuchItem ∷ WrongLength ∷ UnknownProgram ∷ UnknownTerminal ∷ NotUnique ∷ NotFound ∷ EndOfData ∷ InvalidRequest ∷ []

numbered : (c : Condition) → get_or conditions (code_of c) Normal ≡ c
numbered Normal = refl
numbered NoSpace = refl
numbered UnknownQueue = refl
numbered NoSuchItem = refl
numbered WrongLength = refl
numbered UnknownProgram = refl
numbered UnknownTerminal = refl
numbered NotUnique = refl
numbered NotFound = refl
numbered EndOfData = refl
numbered InvalidRequest = refl

-- two of one number are one
pub code_same : (c d : Condition) → code_of c ≡ code_of d → c ≡ d
code_same c d e = sym (numbered c) ∙ ap (λ (n : ℕ). get_or conditions n Normal) e ∙ numbered d

-- ---- what was said, as the outcome that it is

module _ {S : Type 0} (r : Said) (s : S) (o : Outcome S) where
  module _ (a b : List ℕ) (e : gave r s a ≡ handed o b) where
    pub told_as : told r o.bytes s ≡ o
    told_as = ap (λ (g : Gave S). record { condition = g.condition; number = g.number; bytes = o.bytes; state = g.state }) e

    pub said_len : r.len ≡ length o.bytes
    said_len = ap (λ (g : Gave S). g.len) e

    pub left_body : a ≡ over (take (length b) o.bytes) b
    left_body = ap (λ (g : Gave S). g.body) e

  pub told_all : ((b : List ℕ) → gave r s b ≡ handed o b) → told r o.bytes s ≡ o
  told_all h = told_as [] [] (h [])

  -- ---- and the other way

  pub gave_told : (k a b : List ℕ) → told r k s ≡ o → r.len ≡ length k → a ≡ over (take (length b) k) b → gave r s a ≡ handed o b
  gave_told k a b e n h =
      ap₂ (λ (m : ℕ) (x : List ℕ). record { condition = code_of r.condition; number = r.number; len = m; state = s; body = x }) n h
      ∙ ap (λ (p : Outcome S). handed p b) e

  pub gave_none : told r [] s ≡ o → r.len ≡ 0 → (b : List ℕ) → gave r s b ≡ handed o b
  gave_none e n b = gave_told [] b b e n (sym (ap (λ (x : List ℕ). over x b) (take-nil (length b))))

-- a command that gives no bytes, from what `Said.plain` gave
pub said_plain : {S : Type 0} (r : Said) (c : Condition) (n : ℕ) (s : S) (o : Outcome S) → r ≡ plainly c n → told (plainly c n) [] s ≡ o
    → (b : List ℕ) → gave r s b ≡ handed o b
said_plain r c n s o e f = gave_none r s o (ap (λ (x : Said). told x [] s) e ∙ f) (ap (λ (x : Said). x.len) e)
