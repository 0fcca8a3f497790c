-- What the active tasks run and hold: as it is gathered, and as the library's words say it. Assumes nothing.
use Rattle.std.proofs.Common.{◌≡◌, refl, ℕ, Bool, true, false, not, ◌&&◌, ◌||◌, List, [], ◌∷◌, map, length, take, sym, ap, ap₂, ◌∙◌, eqb}
use Rattle.std.specs.List.{list_any, count_by}
use Rattle.std.proofs.lemmas.List.Sums.{length-filter}
use Rattle.base.specs.Choice.{pick}
use Rattle.base.specs.Lists.{keep, any, has}
use Rattle.base.specs.Bytes.{blank}
use Rattle.base.specs.Laws.Keep.{any_keep}
use Rattle.base.specs.Laws.Library.{any_of, keep_of}
use Rattle.interval.specs.declared.Request.{Request}
use Rattle.interval.specs.declared.dispatch.Busy.{Busy}
use Rattle.interval.specs.Rows.{active, expired}
use Rattle.interval.specs.Dispatch.{Runs, blocks, program_of, terminal_of, free_of, free}

-- as it is gathered
pub frees_is : (l : List Request) (b : Busy) → Runs (keep active l) b → (p m : ℕ) → free_of (take b.n b.programs) (take b.n b.terminals) p m ≡ free l p m
frees_is l b r p m = ap₂ (λ (k o : List ℕ). free_of k o p m) r.programs r.terminals

pub line_is : (l : List Request) → count_by expired l ≡ length (keep expired l)
line_is l = sym (length-filter expired l) ∙ ap length (keep_of expired l)

-- one of two is asked of each
one_of_two : (x y b p q r : Bool) → r ≡ (p || (b && q)) → pick (x || (b && y)) true r ≡ (pick x true p || (b && pick y true q))
one_of_two true y b p q r e = refl
one_of_two false y false p q r e = e
one_of_two false true true true q r e = refl
one_of_two false true true false q r e = refl
one_of_two false false true p q r e = e

-- of all tasks, one test of program and terminal is the two
two_in_one : (p m : ℕ) (b : Bool) (l : List Request)
    → any (λ (q : Request). eqb q.program p || (b && eqb q.terminal m)) l ≡ (has p (map program_of l) || (b && has m (map terminal_of l)))
two_in_one p m true [] = refl
two_in_one p m false [] = refl
two_in_one p m b (q ∷ l) = one_of_two (eqb q.program p) (eqb q.terminal m) b _ _ _ (two_in_one p m b l)

free_split : (x y b : Bool) → not (x || (not b && y)) ≡ ((b || not y) && not x)
free_split true true true = refl
free_split true true false = refl
free_split true false true = refl
free_split true false false = refl
free_split false true true = refl
free_split false true false = refl
free_split false false true = refl
free_split false false false = refl

-- as one test of each row asks it; nothing cites it
pub free_is : (p m : ℕ) (l : List Request) → not (list_any (blocks p m) l) ≡ free l p m
free_is p m l =
    ap not (any_of (blocks p m) l
    ∙ sym (any_keep (λ (q : Request). eqb q.program p || (not (eqb m (blank 4)) && eqb q.terminal m)) active l)
    ∙ two_in_one p m (not (eqb m (blank 4))) (keep active l))
    ∙ free_split (has p (map program_of (keep active l))) (has m (map terminal_of (keep active l))) (eqb m (blank 4))
