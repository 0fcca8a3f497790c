-- The bytes that are there are all that a number or the rest has; no command but 1..17 has a row; the tests of a record's form and of
-- its issuer's kind by its row.
-- Assumes nothing.
use Rattle.std.specs.Prelude.{◌≡◌, refl, List, ℕ, zero, suc, ◌-◌, ◌<◌, ◌≤◌, min, length, take, drop, eqb}
use Rattle.std.proofs.Common.{◌∙◌, zero-lt-suc, le_of_suc-le-suc, arith, length-drop, take_all}
use Rattle.std.proofs.lemmas.List.{take_min, drop_min}
use Rattle.std.proofs.Math.Path.{ap}
use Rattle.std.proofs.Math.ListN.{get_or-eq_default}
use Rattle.base.specs.Bytes.{num, num_from, blank}
use Rattle.model.specs.Commands.{command, Size, table, no_row, row_of, formed, Who, wrong_kind}
use Rattle.records.specs.Rows.{size_of, who_of, parts, part_of, Columns, shaped_as, shut_to}
use Rattle.records.specs.declared.Kind.{Kind}
use Rattle.records.specs.declared.Kind.TheVariants.{Anyone, System, Task}
use Rattle.records.specs.declared.Part.TheVariants.{Interval}
use Rattle.records.specs.declared.Row.{Row}

pub num_min : (at k : ℕ) (l : List ℕ) → num at (min k (length l - at)) l ≡ num at k l
num_min at k l = rw (← length-drop at l) (ap (num_from 0) (take_min k (drop at l)))

-- the part of a slice from the lesser of a place and its end
pub rest_min : (at : ℕ) (l : List ℕ) (m : ℕ) → m ≡ min at (length l) → take (length l - m) (drop m l) ≡ drop at l
rest_min at l m e =
    take_all (length l - m) (drop m l) (rw (length-drop m l) (omega arith)) ∙ ap (λ (k : ℕ). drop k l) e ∙ drop_min at l

-- none of 1..k
abbrev pub Unlike : ℕ → ℕ → Type 0
Unlike zero n = Unit {0}
Unlike (suc k) n = Unlike k n × (n ≡ suc k → ⊥)

past : (k n : ℕ) → Unlike k n → 0 < n → k < n
past zero n u h = h
past (suc k) n u h =
    let b : k < n = past k n u.0 h in
    let d : n ≡ suc k → ⊥ = u.1 in
    omega arith

-- "command not 1..17"
pub no_row_lem : (n : ℕ) → Unlike 17 n → (row_of n ≡ no_row) × (part_of n ≡ Interval)
no_row_lem zero u = (refl, refl)
no_row_lem (suc n) u =
    let h : 17 ≤ n = le_of_suc-le-suc (past 17 (suc n) u (zero-lt-suc n)) in
    (get_or-eq_default table no_row h, get_or-eq_default parts Interval h)

-- a blank issuer is the system
pub kind_of : (k : Kind) (n : ℕ) → shut_to k (eqb n (blank 8)) ≡ wrong_kind (who_of k) n
kind_of Anyone n = refl
kind_of System n = refl
kind_of Task n = refl

module _ (n : ℕ) (r : Row) (c : Columns n r) where
  pub shaped_row : (l : List ℕ) → n ≡ command l → shaped_as (size_of r.0) l ≡ formed l
  unfolding formed
  shaped_row l e = ap (λ (z : Size). shaped_as z l) c.size ∙ ap (λ (m : ℕ). shaped_as (row_of m).size l) e

  pub shut_row_lem : (k : ℕ) → shut_to r.1 (eqb k (blank 8)) ≡ wrong_kind (row_of n).who k
  shut_row_lem k = kind_of r.1 k ∙ ap (λ (w : Who). wrong_kind w k) c.who
