-- The state of the loop that counts the records, and a turn of it. Assumes nothing.
use mathlib.Core.Path.{◌≡◌, refl, ap, sym, ◌∙◌}
use mathlib.Core.List.{List}
use Prim.Native.Nat.{ℕ, suc, ◌+◌, ◌≤◌}
use native.Mathlib.Omega.{arith}
use lib.ListN.{length, take, drop}
use Rattle.base.specs.Bytes.{num}
use Rattle.model.specs.Lists.{Framed, bad, good, behind}
use Rattle.std.specs.Prelude.{Option, None, Some}
use Rattle.frames.specs.Framing.{accepted, framing}
use Rattle.frames.specs.Reading.{next_at, part_at, left}
use Rattle.frames.specs.Laws.Records.{left_end, left_bad, left_on}
use Rattle.frames.specs.Laws.Reading.{end_told, bad_told, record_told}
use Rattle.frames.specs.declared.framing.Framed.{Framed as Accepted}
use Rattle.frames.specs.declared.reading.Part.TheVariants.{Record, End, Bad}

-- k records, and those that are left
abbrev counted : ℕ → Framed → Option Accepted
counted k bad = None
counted k (good v rs) = Some (accepted (k + length rs) v)

counted_none : (x : Framed) → framing x ≡ counted 0 x
counted_none bad = refl
counted_none (good v rs) = let e : length rs ≡ 0 + length rs = omega arith in ap (λ (k : ℕ). Some (accepted k v)) e

counted_one : (k : ℕ) (r : List ℕ) (x : Framed) → counted k (behind r x) ≡ counted (k + 1) x
counted_one k r bad = refl
counted_one k r (good v rs) = let e : k + suc (length rs) ≡ k + 1 + length rs = omega arith in ap (λ (m : ℕ). Some (accepted m v)) e

-- the loop has passed k records and stands at `at`
pub record Passed (v : ℕ) (l : List ℕ) (at k : ℕ) : Type 0 where
  pub within : at ≤ 9 + length l
  pub few : k ≤ at
  pub same : framing (left v l 9) ≡ counted k (left v l at)

pub passed_none : (v : ℕ) (l : List ℕ) → Passed v l 9 0
passed_none v l = record { within = omega arith; few = omega arith; same = counted_none (left v l 9) }

module _ (v : ℕ) (l : List ℕ) (at k : ℕ) (p : Passed v l at k) where
  pub passed_more : (start next : ℕ) → Record start next ≡ part_at l at → Passed v l next (k + 1)
  passed_more start next q =
      let t = record_told l at start next q in
      let r : List ℕ = take (num at 2 l) (drop (at + 2) l) in
      let on : left v l at ≡ behind r (left v l (next_at l at)) = left_on v l at t.1.here t.0 in
      record {
        within = omega arith;
        few = omega arith;
        same = rw t.1.ends (p.same ∙ ap (counted k) on ∙ counted_one k r (left v l (next_at l at)));
      }

  pub passed_end : End ≡ part_at l at → Some (accepted k v) ≡ framing (left v l 9)
  passed_end q =
      let e : k + 0 ≡ k = omega arith in
      sym (p.same ∙ ap (counted k) (left_end v l at (end_told l at q)) ∙ ap (λ (m : ℕ). Some (accepted m v)) e)

  pub passed_bad : Bad ≡ part_at l at → None ≡ framing (left v l 9)
  passed_bad q = let t = bad_told l at q in sym (p.same ∙ ap (counted k) (left_bad v l at t.0 t.1))
