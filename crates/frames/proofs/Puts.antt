-- What the writer's stores leave: each part is laid right behind what is written already. Assumes nothing.
use mathlib.Core.Path.{◌≡◌, refl, ap, ap₂, sym, ◌∙◌}
use mathlib.Core.List.{List, [], ◌∷◌, ◌++◌, append_assoc}
use Prim.Native.Nat.{ℕ, ◌+◌, ◌-◌, ◌/◌, ◌%◌, ◌≤◌, ◌<◌}
use native.Mathlib.Omega.{arith}
use lib.ListN.{length, drop, length-append}
use lib.Seq.{drop-drop}
use borrow.Rule.Slice.PartMut.{put_mid}
use Rattle.std.proofs.lemmas.List.{take-append-drop, nil_from_length}
use Rattle.std.specs.Int.{w16, w32, to_be_bytes}
use Rattle.base.specs.Bytes.{bytes_of}
use Rattle.base.specs.Lists.{over}
use Rattle.base.specs.Laws.Over.{take_over, drop_over}
use Rattle.model.specs.Lists.{encoded}
use Rattle.frames.specs.Writing.{carried, answer_of, head_of, written, written_over}
use Rattle.frames.specs.Laws.Encoded.{length_encoded, written_fits, written_not, head_fits}

over_behind : (p m b : List ℕ) → put_mid (length p) (length m) (over p b) m ≡ over (p ++ m) b
over_behind p m b =
    ap₂ (λ (x y : List ℕ). x ++ (m ++ drop (length m) y)) (take_over p b) (drop_over p b)
    ∙ ap (λ (r : List ℕ). p ++ (m ++ r)) (drop-drop (length m) (length p) b)
    ∙ sym (append_assoc p m (drop (length p + length m) b))
    ∙ ap (λ (k : ℕ). p ++ m ++ drop k b) (sym (length-append p m))

-- ---- the ten bytes

-- a number's bytes are the library's; the length of its bytes is that of what it leaves by 2 ^ 16
four : (x : ℕ) → to_be_bytes w32 x ≡ bytes_of 4 x
four x =
    let a : x / 16777216 % 256 ≡ x / 256 / 256 / 256 % 256 = omega arith in
    let b : x / 65536 % 256 ≡ x / 256 / 256 % 256 = omega arith in
    ap₂ (λ (i j : ℕ). i ∷ j ∷ x / 256 % 256 ∷ x % 256 ∷ []) a b

size : (n : ℕ) → to_be_bytes w16 ((n % 65536 + 8) % 65536) ≡ bytes_of 2 (8 + n)
size n =
    let high : (n % 65536 + 8) % 65536 / 256 % 256 ≡ (8 + n) / 256 % 256 = omega arith in
    let low : (n % 65536 + 8) % 65536 % 256 ≡ (8 + n) % 256 = omega arith in
    ap₂ (λ (x y : ℕ). x ∷ y ∷ []) high low

-- four stores
pub head_put : (c a l m n : ℕ) (b s k t u : List ℕ) → 10 ≤ length b
    → s ≡ to_be_bytes w16 ((n % 65536 + 8) % 65536) → k ≡ c ∷ a ∷ [] → t ≡ to_be_bytes w16 l → u ≡ to_be_bytes w32 m
    → put_mid 6 4 (put_mid 4 2 (put_mid 2 2 (s ++ drop 2 b) k) t) u ≡ (written_over (head_of c a l m n) b).buffer
head_put c a l m n b s k t u h es ek et eu =
    let S : List ℕ = bytes_of 2 (8 + n) in
    let K : List ℕ = c ∷ a ∷ [] in
    let T : List ℕ = bytes_of 2 l in
    let U : List ℕ = bytes_of 4 m in
    let one : put_mid 2 2 (s ++ drop 2 b) k ≡ over (S ++ K) b =
    ap₂ (λ (x y : List ℕ). put_mid 2 2 (x ++ drop 2 b) y) (es ∙ size n) ek ∙ over_behind S K b in
    let two : put_mid 4 2 (put_mid 2 2 (s ++ drop 2 b) k) t ≡ over (S ++ K ++ T) b =
    ap₂ (λ (x y : List ℕ). put_mid 4 2 x y) one et ∙ over_behind (S ++ K) T b in
    ap₂ (λ (x y : List ℕ). put_mid 6 4 x y) two (eu ∙ four m) ∙ over_behind (S ++ K ++ T) U b ∙ sym (head_fits c a l m n b h)

-- ---- and the answer's own bytes behind them

module _ (c a l m : ℕ) (bytes : List ℕ) (k : ℕ) where
  abbrev b : List ℕ
  b = carried bytes k

  abbrev e : List ℕ
  e = encoded (answer_of c a l m bytes k)

  pub none_put : (own out : List ℕ) → own ≡ b → length out < 10 + length own → written 0 out ≡ written_over e out
  none_put own out z h =
      let s : length own ≡ length b = ap length z in
      let k = length_encoded (answer_of c a l m bytes k) in
      sym (written_not e out (omega arith))

  pub all_put : (own x out out₁ : List ℕ) → own ≡ b → x ≡ own → 10 + length own ≤ length out → out₁ ≡ (written_over (head_of c a l m (length own)) out).buffer
      → written (10 + length own) (put_mid 10 (10 + length own - 10) out₁ x) ≡ written_over e out
  all_put own x out out₁ z y h p =
      let H : List ℕ = head_of c a l m (length own) in
      let s : length own ≡ length b = ap length z in
      let n : 10 + length own - 10 ≡ length own = omega arith in
      let long : 10 + length own ≡ length e = let k = length_encoded (answer_of c a l m bytes k) in omega arith in
      let o : put_mid 10 (10 + length own - 10) out₁ x ≡ over e out =
      ap₂ (λ (i : ℕ) (r : List ℕ). put_mid 10 i r x) n (p ∙ head_fits c a l m (length own) out (omega arith))
      ∙ ap (put_mid 10 (length own) (over H out)) y ∙ over_behind H own out
      ∙ ap (λ (r : List ℕ). over (head_of c a l m (length r) ++ r) out) z in
      ap₂ (λ (i : ℕ) (r : List ℕ). written i r) long o ∙ sym (written_fits e out (omega arith))

  -- none of its own: the ten bytes are all, and nothing is copied
  pub head_alone : (own out out₁ : List ℕ) → own ≡ b → length own ≤ 0 → 10 + length own ≤ length out → out₁ ≡ (written_over (head_of c a l m (length own)) out).buffer
      → written (10 + length own) out₁ ≡ written_over e out
  head_alone own out out₁ z h k p =
      let n : length own ≡ 0 = omega arith in
      let x : own ≡ [] = nil_from_length own n in
      let none : put_mid 10 (10 + length own - 10) out₁ own ≡ out₁ = rw x (take-append-drop 10 out₁) in
      ap (λ (r : List ℕ). written (10 + length own) r) (sym none) ∙ all_put own own out out₁ z refl k p
