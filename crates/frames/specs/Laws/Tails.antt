-- What a writer that was lent `&mut out[w..]` says of the tail, said of the whole buffer. Assumes nothing.
-- `put_tail w out ys` is what the borrow checker has of `out` once the tail is back as ys: its `put_mid w (length out - w) out ys`
-- is an abbreviation of the same term, so that these laws apply to it as they stand.
use Rattle.std.specs.Prelude.{◌≡◌, List, [], ◌++◌, ℕ, ◌+◌, ◌-◌, ◌≤◌, length, take, drop}
use Rattle.std.proofs.Common.{ap, sym, ◌∙◌, append_assoc, append-nil, arith, length-append, length-drop, drop_of_length-le, drop-drop, take_all}
use Rattle.base.specs.Lists.{over}
use Rattle.base.specs.Laws.Over.{take_over, drop_over}
use Rattle.frames.specs.Writing.{written, written_over}
use Rattle.frames.specs.Laws.Encoded.{written_told}

-- the part that is lent, and the whole when it is back as ys
abbrev pub tail_of : ℕ → List ℕ → List ℕ
tail_of w out = take (length out - w) (drop w out)

abbrev pub put_tail : ℕ → List ℕ → List ℕ → List ℕ
put_tail w out ys = take w out ++ (ys ++ drop (length out - w) (drop w out))

pub tail_whole : (w : ℕ) (out : List ℕ) → tail_of w out ≡ drop w out
tail_whole w out = take_all (length out - w) (drop w out) (rw length-drop (omega arith))

pub tail_length : (w : ℕ) (out : List ℕ) → length (tail_of w out) ≡ length out - w
tail_length w out = ap length (tail_whole w out) ∙ length-drop w out

module _ (w : ℕ) (out e ys : List ℕ) (h : w + length e ≤ length out) (is : ys ≡ over e (tail_of w out)) where
  none_behind : drop (length out - w) (drop w out) ≡ []
  none_behind = drop_of_length-le (drop w out) {i = length out - w} (rw length-drop (omega arith))

  pub put_tail_lem : put_tail w out ys ≡ take w out ++ e ++ drop (w + length e) out
  put_tail_lem =
      ap (λ (r : List ℕ). take w out ++ (ys ++ r)) none_behind
      ∙ ap (λ (r : List ℕ). take w out ++ r)
      (append-nil ys ∙ is ∙ ap (λ (r : List ℕ). e ++ drop (length e) r) (tail_whole w out)
      ∙ ap (λ (r : List ℕ). e ++ r) (drop-drop (length e) w out))
      ∙ sym (append_assoc (take w out) e (drop (w + length e) out))

  -- where the buffer holds what was written before, over the buffer as it was lent
  pub over_put_tail : (es out₀ : List ℕ) → out ≡ over es out₀ → w ≡ length es → put_tail w out ys ≡ over (es ++ e) out₀
  over_put_tail es out₀ o n =
      let front : take w out ≡ es = ap (λ (k : ℕ). take k out) n ∙ ap (take (length es)) o ∙ take_over es out₀ in
      let behind : drop w out ≡ drop (length es) out₀ = ap (λ (k : ℕ). drop k out) n ∙ ap (drop (length es)) o ∙ drop_over es out₀ in
      put_tail_lem ∙ ap (λ (r : List ℕ). r ++ e ++ drop (w + length e) out) front
      ∙ ap (λ (r : List ℕ). es ++ e ++ r)
      (sym (drop-drop (length e) w out) ∙ ap (drop (length e)) behind ∙ drop-drop (length e) (length es) out₀
      ∙ ap (λ (k : ℕ). drop k out₀) (sym (length-append es e)))

-- by the writer's promise
module _ (w : ℕ) (out e ys : List ℕ) (r : ℕ) (h : w + length e ≤ length out) (q : written r ys ≡ written_over e (tail_of w out)) where
  pub tail_told : (r ≡ length e) × (ys ≡ over e (tail_of w out))
  tail_told = let n = tail_length w out in written_told e (tail_of w out) r ys (omega arith) q
