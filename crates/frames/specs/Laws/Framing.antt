-- What framing says of a list: the header's rules, the records, and that a reader from behind the header meets them. Assumes nothing.
use Rattle.std.proofs.Math.Path.{◌≡◌, ap, sym}
use Rattle.std.specs.Prelude.{None, Some, refl, true, false, ◌&&◌, List, leb, eqb, length}
use Rattle.std.proofs.Common.{◌∙◌, arith, leb-true, le-leb, eqb-true, eq-eqb}
use Prim.Native.Nat.{ℕ, ◌+◌, ◌≤◌}
use Rattle.base.specs.Bytes.{num}
use Rattle.base.specs.Laws.Tests.{by_test, and_l, and_r, and_i, is_false}
use Rattle.model.specs.Lists.{Framed, bad, good, headed, framed}
use Rattle.frames.specs.Framing.{accepted, framing}
use Rattle.frames.specs.declared.framing.Framed.{Framed as Accepted}
use Rattle.frames.specs.Reading.{left, listed, records_from, Filled}
use Rattle.frames.specs.Laws.Records.{started, left_started}

-- what `headed` says
pub record Headed (l : List ℕ) : Type 0 where
  pub low : 9 ≤ length l
  pub high : length l ≤ 4096
  pub length_field : num 0 4 l + 4 ≡ length l
  pub version : num 4 1 l ≡ 1

module _ (l : List ℕ) where
  pub headed_told : headed l ≡ true → Headed l
  headed_told e =
      let a = leb 9 (length l) in
      let b = leb (length l) 4096 in
      let c = eqb (num 0 4 l + 4) (length l) in
      let d = eqb (num 4 1 l) 1 in
      let abc = and_l (a && b && c) d e in
      let ab = and_l (a && b) c abc in
      record {
        low = leb-true 9 (length l) (and_l a b ab);
        high = leb-true (length l) 4096 (and_r a b ab);
        length_field = eqb-true (num 0 4 l + 4) (length l) (and_r (a && b) c abc);
        version = eqb-true (num 4 1 l) 1 (and_r (a && b && c) d e);
      }

  pub headed_is : Headed l → headed l ≡ true
  headed_is h =
      and_i (and_i (and_i (le-leb 9 (length l) h.low) (le-leb (length l) 4096 h.high))
      (eq-eqb (num 0 4 l + 4) (length l) h.length_field)) (eq-eqb (num 4 1 l) 1 h.version)

  pub headed_not : (Headed l → ⊥) → headed l ≡ false
  headed_not h = is_false (headed l) (λ e. h (headed_told e))

  -- ---- by the header

  pub framed_left : headed l ≡ true → framed l ≡ left (num 5 4 l) l 9
  unfolding framed left
  framed_left e = rw e

  pub framed_bad : headed l ≡ false → framed l ≡ bad
  unfolding framed
  framed_bad e = rw e

-- an accepted list: its records are those that a reader from place 9 on meets
pub record IsFramed (l : List ℕ) (v : ℕ) : Type 0 where
  pub header : Headed l
  pub start : v ≡ num 5 4 l
  pub filled : Filled l 9
  pub is : framed l ≡ good v (records_from l 9)

module _ (l : List ℕ) (v : ℕ) where
  pub framed_told : (rs : List (List ℕ)) → framed l ≡ good v rs → IsFramed l v × (records_from l 9 ≡ rs)
  unfolding records_from
  framed_told rs e =
      by_test (headed l)
      (λ t.
      let w : ℕ = num 5 4 l in
      let at-w : left w l 9 ≡ good v rs = sym (framed_left l t) ∙ e in
      let own : good v rs ≡ good w rs = sym at-w ∙ left_started w w l 9 ∙ ap (started w) at-w in
      let at-0 : left 0 l 9 ≡ good 0 rs = left_started 0 w l 9 ∙ ap (started 0) at-w in
      let all : listed (left 0 l 9) ≡ rs = ap listed at-0 in
      (record { header = headed_told l t; start = cc; filled = record { fills = at-0 ∙ ap (good 0) (sym all) }; is = e ∙ ap (good v) (sym all) }, all))
      (λ t. let b : framed l ≡ bad = framed_bad l t in let z : ◌≡◌ {A = ℕ} 0 1 = cc in absurd (omega arith))

  -- by what `frame` answers
  pub accepted_told : (n : ℕ) → Some (accepted n v) ≡ framing (framed l) → IsFramed l v × (n ≡ length (records_from l 9))
  accepted_told n q = by (framed l) refl q
    where
      by : (x : Framed) → framed l ≡ x → Some (accepted n v) ≡ framing x → IsFramed l v × (n ≡ length (records_from l 9))
      by bad e q = let z : ◌≡◌ {A = ℕ} 0 1 = cc in absurd (omega arith)
      by (good u rs) e q =
          let both : accepted n v ≡ accepted (length rs) u = cc in
          let uv : u ≡ v = sym (ap (λ (x : Accepted). x.start) both) in
          let g = framed_told rs (e ∙ ap (λ (k : ℕ). good k rs) uv) in
          let n-is : n ≡ length rs = ap (λ (x : Accepted). x.records) both in
          (g.0, n-is ∙ ap length (sym g.1))

pub refused_told : (l : List ℕ) → None ≡ framing (framed l) → framed l ≡ bad
refused_told l q = by (framed l) refl q
  where
    by : (x : Framed) → framed l ≡ x → None ≡ framing x → framed l ≡ bad
    by bad e q = e
    by (good u rs) e q = let z : ◌≡◌ {A = ℕ} 0 1 = cc in absurd (omega arith)
