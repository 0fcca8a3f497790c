-- A reader of a list that records fill meets them all, in order: what it says at a place, and what is left behind it. Assumes nothing.
use Rattle.std.specs.Prelude.{◌≡◌, true, false, leb, length, drop}
use Rattle.std.proofs.Math.Path.{ap}
use Rattle.std.proofs.Common.{sym, ◌∙◌, le-leb, leb-true, leb-false}
use mathlib.Core.List.{List, [], ◌∷◌}
use Prim.Native.Nat.{ℕ, ◌+◌, ◌-◌, ◌≤◌, ◌<◌}
use native.Mathlib.Omega.{arith}
use Rattle.std.proofs.Math.ListN.{take}
use Rattle.std.proofs.lemmas.Bool.{lt-leb}
use Rattle.base.specs.Bytes.{num}
use Rattle.base.specs.Laws.Tests.{by_test}
use Rattle.model.specs.Lists.{Framed, bad, good, behind, whole}
use Rattle.frames.specs.Reading.{next_at, part_at, left, listed, records_from, Filled}
use Rattle.frames.specs.Laws.Records.{Whole, whole_told, left_end, left_bad, left_on}
use Rattle.frames.specs.declared.reading.Part.TheVariants.{Record, End, Bad}

-- what a reader that says `Record` has said
pub record Ahead (l : List ℕ) (at start next : ℕ) : Type 0 where
  pub here : at < length l
  pub begins : start ≡ at + 2
  pub ends : next ≡ next_at l at
  pub order : start ≤ next
  pub within : next ≤ length l
  pub nine : 9 ≤ next - start

-- what is left behind the record that it says, where records fill the list: it is the first of them
pub record Onward (l : List ℕ) (at start next : ℕ) : Type 0 where
  pub ahead : Ahead l at start next
  pub filled : Filled l next
  pub cut : take (next - start) (drop start l) ∷ records_from l next ≡ records_from l at

module _ (l : List ℕ) (at : ℕ) where
  -- ---- what it says

  pub part_end : length l ≤ at → part_at l at ≡ End
  unfolding part_at
  part_end h = rw (le-leb (length l) at h)

  pub part_bad : at < length l → whole (drop at l) ≡ false → part_at l at ≡ Bad
  unfolding part_at
  part_bad h w = rw (lt-leb (length l) at h, w)

  pub part_record : at < length l → whole (drop at l) ≡ true → part_at l at ≡ Record (at + 2) (next_at l at)
  unfolding part_at
  part_record h w = rw (lt-leb (length l) at h, w)

  pub part_cases : {P : Type 0} → (length l ≤ at → part_at l at ≡ End → P)
      → (at < length l → whole (drop at l) ≡ false → part_at l at ≡ Bad → P)
      → (at < length l → whole (drop at l) ≡ true → part_at l at ≡ Record (at + 2) (next_at l at) → P) → P
  part_cases e b r =
      by_test (leb (length l) at) (λ t. let h = leb-true (length l) at t in e h (part_end h))
      (λ t. let h = leb-false (length l) at t in
      by_test (whole (drop at l)) (λ w. r h w (part_record h w)) (λ w. b h w (part_bad h w)))

  -- ---- what was said

  pub end_told : End ≡ part_at l at → length l ≤ at
  end_told q =
      part_cases (λ h e. h) (λ h w e. let z : ◌≡◌ {A = ℕ} 0 1 = cc in absurd (omega arith)) (λ h w e. let z : ◌≡◌ {A = ℕ} 0 1 = cc in absurd (omega arith))

  pub bad_told : Bad ≡ part_at l at → (at < length l) × (whole (drop at l) ≡ false)
  bad_told q =
      part_cases (λ h e. let z : ◌≡◌ {A = ℕ} 0 1 = cc in absurd (omega arith)) (λ h w e. (h, w)) (λ h w e. let z : ◌≡◌ {A = ℕ} 0 1 = cc in absurd (omega arith))

  pub record_told : (start next : ℕ) → Record start next ≡ part_at l at → (whole (drop at l) ≡ true) × Ahead l at start next
  record_told start next q =
      part_cases (λ h e. let z : ◌≡◌ {A = ℕ} 0 1 = cc in absurd (omega arith)) (λ h w e. let z : ◌≡◌ {A = ℕ} 0 1 = cc in absurd (omega arith))
      (λ h w e.
      let s : start ≡ at + 2 = cc in
      let n : next ≡ next_at l at = cc in
      let k : Whole l at = whole_told l at w in
      (w, record { here = h; begins = s; ends = n; order = omega arith; within = omega arith; nine = omega arith }))

  -- ---- what is left

  pub from_end : length l ≤ at → records_from l at ≡ []
  unfolding records_from
  from_end h = ap listed (left_end 0 l at h)

  behind_good : (r : List ℕ) (x : Framed) (rs : List (List ℕ)) → behind r x ≡ good 0 rs → (x ≡ good 0 (listed x)) × (r ∷ listed x ≡ rs)
  behind_good r bad rs e = let z : ◌≡◌ {A = ℕ} 0 1 = cc in absurd (omega arith)
  behind_good r (good v ss) rs e = ((cc), (cc))

  module _ (f : Filled l at) where
    pub filled_whole : at < length l → whole (drop at l) ≡ true
    filled_whole h =
        by_test (whole (drop at l)) (λ w. w)
        (λ w. let b : left 0 l at ≡ bad = left_bad 0 l at h w in let g = f.fills in let z : ◌≡◌ {A = ℕ} 0 1 = cc in absurd (omega arith))

    pub filled_record : at < length l → part_at l at ≡ Record (at + 2) (next_at l at)
    filled_record h = part_record h (filled_whole h)

    -- one record on
    pub filled_next : (start next : ℕ) → Record start next ≡ part_at l at → Onward l at start next
    unfolding records_from
    filled_next start next q =
        let t = record_told start next q in
        let a = t.1 in
        let r : List ℕ = take (num at 2 l) (drop (at + 2) l) in
        let on : left 0 l at ≡ behind r (left 0 l (next_at l at)) = left_on 0 l at a.here t.0 in
        let k : next - start ≡ num at 2 l = omega arith in
        let g = behind_good r (left 0 l (next_at l at)) (records_from l at) (sym on ∙ f.fills) in
        record { ahead = a; filled = rw a.ends (record { fills = g.0 }); cut = rw (k, a.begins, a.ends) g.1 }
