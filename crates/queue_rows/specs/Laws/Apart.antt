-- Lists of words that differ at most in the k words from a on: what stands before and behind is the same; a word stored there, and a part put
-- there. Assumes nothing.
use Rattle.std.specs.Prelude.{ℕ, zero, suc, ◌+◌, ◌-◌, ◌<◌, ◌≤◌, ◌≡◌, List, [], ◌∷◌, ◌++◌, length, take, drop, get_or, set}
use Rattle.std.proofs.Common.{sym, ap, ◌∙◌, arith, take-take, drop-drop, drop-set-lt, length-take-le, get_or-take, get_or-drop, take_at, drop_at}
use Rattle.std.proofs.Math.Seq.{take-nil, take-append-add}
use Rattle.std.proofs.lemmas.List.{take-append-le, take-set-le}
use borrow.Rule.Slice.PartMut.{put_mid}

pub record Apart (a k : ℕ) (w v : List ℕ) : Type 0 where
  pub before : take a v ≡ take a w
  pub behind : drop (a + k) v ≡ drop (a + k) w

-- a part is read of what ends with it
part_take : (b j : ℕ) (l : List ℕ) → take j (drop b l) ≡ drop b (take (b + j) l)
part_take zero j l = let e : 0 + j ≡ j = omega arith in ap (λ (i : ℕ). take i l) (sym e)
part_take (suc b) j [] = take-nil j ∙ sym (ap (drop (suc b)) (take-nil (suc b + j)))
part_take (suc b) j (x ∷ l) =
    let e : suc b + j ≡ suc (b + j) = omega arith in
    part_take b j l ∙ sym (ap (λ (i : ℕ). drop (suc b) (take i (x ∷ l))) e)

-- what stands at i is the first of what is left there
first_left : (i : ℕ) (l : List ℕ) → get_or l i 0 ≡ get_or (drop i l) 0 0
first_left i l = let e : i + 0 ≡ i = omega arith in sym (get_or-drop i l 0 0 ∙ ap (λ (k : ℕ). get_or l k 0) e)

-- ---- before it, and behind it

module _ {a k : ℕ} {w v : List ℕ} (s : Apart a k w v) where
  pub word_before : (i : ℕ) → i < a → get_or v i 0 ≡ get_or w i 0
  word_before i h = sym (get_or-take a v i 0 h) ∙ ap (λ (l : List ℕ). get_or l i 0) s.before ∙ get_or-take a w i 0 h

  pub part_before : (b j : ℕ) → b + j ≤ a → take j (drop b v) ≡ take j (drop b w)
  part_before b j h =
      part_take b j v ∙ ap (drop b) (sym (take-take (b + j) a v h) ∙ ap (take (b + j)) s.before ∙ take-take (b + j) a w h)
      ∙ sym (part_take b j w)

  pub left_behind : (b : ℕ) → a + k ≤ b → drop b v ≡ drop b w
  left_behind b h =
      let e : a + k + (b - (a + k)) ≡ b = omega arith in
      let from : (l : List ℕ) → drop b l ≡ drop (b - (a + k)) (drop (a + k) l) =
      λ l. ap (λ (i : ℕ). drop i l) (sym e) ∙ sym (drop-drop (b - (a + k)) (a + k) l) in
      from v ∙ ap (drop (b - (a + k))) s.behind ∙ sym (from w)

  pub part_behind : (b j : ℕ) → a + k ≤ b → take j (drop b v) ≡ take j (drop b w)
  part_behind b j h = ap (take j) (left_behind b h)

  pub word_behind : (i : ℕ) → a + k ≤ i → get_or v i 0 ≡ get_or w i 0
  word_behind i h = first_left i v ∙ ap (λ (l : List ℕ). get_or l 0 0) (left_behind i h) ∙ sym (first_left i w)

-- ---- a word stored in it

pub set_apart : (a k : ℕ) (w : List ℕ) (i x : ℕ) → a ≤ i → i < a + k → Apart a k w (set w i x)
set_apart a k w i x h g = record { before = take-set-le a w i x h; behind = drop-set-lt (a + k) w i x g }

-- ---- the m words from a on put

module _ (a m : ℕ) (w ys : List ℕ) (h : a + m ≤ length w) (e : length ys ≡ m) where
  pub left_put : drop a (put_mid a m w ys) ≡ ys ++ drop m (drop a w)
  left_put = drop_at (take a w) (ys ++ drop m (drop a w)) a (length-take-le a w (omega arith))

  pub put_apart : (t k : ℕ) → t ≤ a → a + m ≤ t + k → Apart t k w (put_mid a m w ys)
  put_apart t k b g =
      let front : length (take a w) ≡ a = length-take-le a w (omega arith) in
      let all : Apart a m w (put_mid a m w ys) = record {
        before = take_at (take a w) (ys ++ drop m (drop a w)) a front;
        behind = sym (drop-drop m a (put_mid a m w ys)) ∙ ap (drop m) left_put ∙ drop_at ys (drop m (drop a w)) m e ∙ drop-drop m a w;
      } in
      record {
        before = take-append-le t (take a w) (ys ++ drop m (drop a w)) (omega arith) ∙ take-take t a w b;
        behind = left_behind all (t + k) g;
      }

  -- the k words from a on, where m of them are put
  pub part_put : (k : ℕ) → m ≤ k → take k (drop a (put_mid a m w ys)) ≡ ys ++ drop m (take k (drop a w))
  part_put k b =
      let j : length ys + (k - m) ≡ k = omega arith in
      let i : m + (k - m) ≡ k = omega arith in
      ap (take k) left_put ∙ ap (λ (n : ℕ). take n (ys ++ drop m (drop a w))) (sym j) ∙ take-append-add ys (drop m (drop a w)) (k - m)
      ∙ ap (λ (r : List ℕ). ys ++ r) (part_take m (k - m) (drop a w) ∙ ap (λ (n : ℕ). drop m (take n (drop a w))) i)
