-- `Requests::close` meets its contract: the library's copy within a slice is the rows without the one at i. Assumes nothing.
use Rattle.std.proofs.Common.{◌≡◌, ℕ, ◌+◌, ◌-◌, ◌<◌, List, ◌++◌, length, take, drop, sym, ap, ap₂, ◌∙◌, add-one, arith, length-take, take-take}
use Rattle.std.specs.List.{copy_within}
use Rattle.std.proofs.lemmas.List.{drop-take}
use Rattle.base.specs.Lists.{over, cut_at}
use Rattle.base.specs.Laws.Cut.{length_cut}
use Rattle.base.specs.Laws.Scans.{take_least}
use Rattle.interval.specs.declared.Request.{Request}
use Rattle.interval.specs.declared.Requests.{Requests}
use Rattle.interval.specs.Table.{live}
use Rattle.interval.specs.Laws.Typed.{with_rows, counted}
use Rattle.interval.proofs.Requests.close.Goals as goal

module _ {A : Type 0} (i count : ℕ) (l : List A) (h : i < length (take count l)) where
  abbrev front : List A
  front = take count l

  abbrev behind : ℕ
  behind = length front - (i + 1)

  pub few : length front - 1 ≡ length (cut_at i front)
  few = omega (arith, length_cut i front h)

  pub shifted : copy_within l (i + 1) (length front) i ≡ over (cut_at i front) l
  shifted =
      let n : i + 1 + behind ≡ length front = omega arith in
      let k : length (cut_at i front) ≡ i + behind = omega (arith, length_cut i front h) in
      let same : take (i + 1 + behind) l ≡ front = ap (λ (m : ℕ). take m l) (n ∙ length-take count l) ∙ take_least count l in
      let a : take i l ≡ take i front = sym (take-take i count l (omega (arith, length-take count l))) in
      let b : take behind (drop (i + 1) l) ≡ drop (i + 1) front = sym (drop-take (i + 1) behind l) ∙ ap (drop (i + 1)) same in
      let z : (take i front ++ drop (i + 1) front) ++ drop (i + behind) l ≡ over (cut_at i front) l = rw (k, add-one i) in
      ap₂ (λ (x y : List A). (x ++ y) ++ drop (i + behind) l) a b ∙ z

pub returns : goal.returns
returns c =
    let t : Requests = c.args.self.now in
    let i : ℕ = c.args.i in
    let n : length c.live-n.result.now ≡ length (live t) = ap length c.live-n.ensures in
    let few : length c.live-n.result.now - 1 ≡ length (cut_at i (live t)) = ap (λ (m : ℕ). m - 1) n ∙ few i t.count t.rows c.requires in
    ap₂ (λ (m : ℕ) (l : List Request). counted m (with_rows t l)) few
    (c.copy_within.ensures.after ∙ ap (λ (m : ℕ). copy_within t.rows (i + 1) m i) n ∙ shifted i t.count t.rows c.requires)
