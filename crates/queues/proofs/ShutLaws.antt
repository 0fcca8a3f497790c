-- A row goes: the later ones are copied down. Assumes nothing.
use Rattle.std.specs.Prelude.{◌≡◌, ℕ, suc, ◌+◌, ◌-◌, ◌<◌, min, List, ◌++◌, length, take, drop}
use Rattle.std.specs.List.{copy_within}
use Rattle.std.proofs.Common.{sym, ap, ap₂, ◌∙◌, arith, add-one, length-drop, take-take}
use Rattle.std.proofs.Math.Seq.{paste, length_paste_head}
use Rattle.std.proofs.lemmas.List.{drop-take}
use Rattle.base.specs.Lists.{over}
use Rattle.base.specs.Laws.Scans.{take_least}
use Rattle.queues.specs.declared.Queues.{Queues}
use Rattle.queues.specs.Delete.{less, shut_at}

module _ (l : List ℕ) (c r : ℕ) (h : r < min c (length l)) where
  abbrev after : ℕ
  after = min c (length l) - suc r

  less_is : less r (take c l) ≡ take r l ++ take after (drop (suc r) l)
  less_is =
      let e : min c (length l) ≡ suc r + after = omega arith in
      let f : take c l ≡ take (suc r + after) l = sym (take_least c l) ∙ ap (λ (j : ℕ). take j l) e in
      ap (less r) f ∙ ap₂ (λ (a b : List ℕ). a ++ b) (take-take r (suc r + after) l (omega arith)) (drop-take (suc r) after l)

  less_length : length (less r (take c l)) ≡ r + after
  less_length = ap length less_is ∙ length_paste_head l r (drop (suc r) l) after (omega arith) (omega (arith, length-drop (suc r) l))

  copied : copy_within l (r + 1) (min c (length l)) r ≡ over (less r (take c l)) l
  copied =
      let s : r + 1 ≡ suc r = add-one r in
      let e : min c (length l) - (r + 1) ≡ after = omega arith in
      ap₂ (λ (i n : ℕ). paste l r (drop i l) n) s e
      ∙ ap₂ (λ (w : List ℕ) (j : ℕ). w ++ drop j l) (sym less_is) (sym less_length)

-- the struct, as the code leaves it
pub shut_is : (q : Queues) (r e : ℕ) → length q.names ≡ 16 → length q.pointers ≡ 16 → r < min q.count 16 → e ≡ min q.count 16
    → (ns ps : List ℕ) → ns ≡ copy_within q.names (r + 1) e r → ps ≡ copy_within q.pointers (r + 1) e r
    → record { count = e - 1; names = ns; pointers = ps; used = q.used; owner = q.owner; slot = q.slot; len = q.len } ≡ shut_at q r
unfolding shut_at
shut_is q r e n p h f ns ps hn hp =
    let en : e ≡ min q.count (length q.names) = omega arith in
    let ep : e ≡ min q.count (length q.pointers) = omega arith in
    let names = hn ∙ ap (λ (j : ℕ). copy_within q.names (r + 1) j r) en ∙ copied q.names q.count r (omega arith) in
    let pointers = hp ∙ ap (λ (j : ℕ). copy_within q.pointers (r + 1) j r) ep ∙ copied q.pointers q.count r (omega arith) in
    cc (f, names, pointers)
