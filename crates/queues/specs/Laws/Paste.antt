-- A part of the lent bytes after an item was laid into a slot: its own slot holds the item, and every other slot what it held.
-- Assumes nothing.
use Rattle.std.specs.Prelude.{◌≡◌, refl, true, List, ◌++◌, ℕ, ◌+◌, ◌-◌, ◌*◌, ◌<◌, ◌≤◌, ltb, length, take, drop, get_or}
use Rattle.std.proofs.Common.{sym, ap, ◌∙◌, append_assoc, arith, length-take, length-drop, take_at, drop_at, ext_get_or, get_or-take, get_or-drop, get_or-append-add, length-take-le, ltb-true, ltb-false}
use Rattle.std.proofs.Math.Arith.{lt_of_le-ne}
use Rattle.std.proofs.Math.ListN.{get_or-append}
use Rattle.std.proofs.Math.Seq.{paste, length_paste_head, take-length}
use Rattle.std.proofs.lemmas.List.Edits.{length-paste}
use Rattle.base.specs.Bytes.{is_bytes}
use Rattle.base.specs.Laws.Tests.{by_test, and_i}
use Rattle.base.specs.Laws.Bytes.{is_bytes_append, is_bytes_take, is_bytes_drop}

-- a part goes by its elements
part_ext : (n a : ℕ) (x y : List ℕ) → length x ≡ length y → ((i : ℕ) → a ≤ i → i < a + n → get_or x i 0 ≡ get_or y i 0)
    → take n (drop a x) ≡ take n (drop a y)
part_ext n a x y l h =
    ext_get_or 0 (take n (drop a x)) (take n (drop a y)) (simp (length-take, length-drop, l))
    (λ i b.
    let c : i < n = omega (arith, length-take n (drop a x), b) in
    get_or-take n (drop a x) i 0 c ∙ get_or-drop a x i 0 ∙ h (a + i) (omega arith) (omega arith)
    ∙ sym (get_or-take n (drop a y) i 0 c ∙ get_or-drop a y i 0))

-- an element outside what was pasted is as it was
paste_before : (d : List ℕ) (at : ℕ) (s : List ℕ) (n i : ℕ) → at ≤ length d → i < at → get_or (paste d at s n) i 0 ≡ get_or d i 0
paste_before d at s n i hd h =
    let b : i < length (take at d) = omega (arith, length-take-le at d hd) in
    ap (λ (l : List ℕ). get_or l i 0) (append_assoc (take at d) (take n s) (drop (at + n) d))
    ∙ get_or-append (take at d) (take n s ++ drop (at + n) d) 0 i b ∙ get_or-take at d i 0 h

paste_after : (d : List ℕ) (at : ℕ) (s : List ℕ) (n i : ℕ) → at ≤ length d → n ≤ length s → at + n ≤ i
    → get_or (paste d at s n) i 0 ≡ get_or d i 0
paste_after d at s n i hd hs h =
    let l : length (take at d ++ take n s) ≡ at + n = length_paste_head d at s n hd hs in
    let e : length (take at d ++ take n s) + (i - (at + n)) ≡ i = omega arith in
    let f : at + n + (i - (at + n)) ≡ i = omega arith in
    ap (λ (k : ℕ). get_or (paste d at s n) k 0) (sym e)
    ∙ get_or-append-add (take at d ++ take n s) (drop (at + n) d) (i - (at + n)) 0
    ∙ get_or-drop (at + n) d (i - (at + n)) 0 ∙ ap (λ (k : ℕ). get_or d k 0) f

-- what was pasted is read back
pub paste_there : (d : List ℕ) (at : ℕ) (s : List ℕ) → at ≤ length d → take (length s) (drop at (paste d at s (length s))) ≡ s
paste_there d at s hd =
    let n = length s in
    ap (λ (l : List ℕ). take n (drop at l)) (append_assoc (take at d) (take n s) (drop (at + n) d))
    ∙ ap (take n) (drop_at (take at d) (take n s ++ drop (at + n) d) at (length-take-le at d hd))
    ∙ ap (λ (l : List ℕ). take n (l ++ drop (at + n) d)) (take-length s)
    ∙ take_at s (drop (at + n) d) n refl

-- an item in slot k: another slot is as it was
module _ (b s : List ℕ) (k : ℕ) (long : length b ≡ 8192) (below : k < 128) (fits : length s ≤ 64) where
  pub paste_long : length (paste b (k * 64) s (length s)) ≡ 8192
  paste_long = length-paste b (k * 64) s (length s) (omega arith) (omega arith) ∙ long

  other_byte : (t : ℕ) → (t ≡ k → ⊥) → (i : ℕ) → t * 64 ≤ i → i < t * 64 + 64 → get_or (paste b (k * 64) s (length s)) i 0 ≡ get_or b i 0
  other_byte t d i a e =
      by_test (ltb t k)
      (λ h. let l : t < k = ltb-true t k h in paste_before b (k * 64) s (length s) i (omega arith) (omega arith))
      (λ h.
      let l : k < t = lt_of_le-ne (ltb-false t k h) (λ f. d (sym f)) in
      paste_after b (k * 64) s (length s) i (omega arith) (omega arith) (omega arith))

  pub paste_other : (t m : ℕ) → (t ≡ k → ⊥) → m ≤ 64 → take m (drop (t * 64) (paste b (k * 64) s (length s))) ≡ take m (drop (t * 64) b)
  paste_other t m d h =
      part_ext m (t * 64) (paste b (k * 64) s (length s)) b (length-paste b (k * 64) s (length s) (omega arith) (omega arith))
      (λ i a e. other_byte t d i a (omega arith))

  pub paste_bytes : is_bytes b ≡ true → is_bytes s ≡ true → is_bytes (paste b (k * 64) s (length s)) ≡ true
  paste_bytes h g =
      let n = length s in
      is_bytes_append (take (k * 64) b ++ take n s) (drop (k * 64 + n) b)
      ∙ and_i (is_bytes_append (take (k * 64) b) (take n s) ∙ and_i (is_bytes_take (k * 64) b h) (is_bytes_take n s g)) (is_bytes_drop (k * 64 + n) b h)
