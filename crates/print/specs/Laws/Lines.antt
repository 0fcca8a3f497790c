-- The answers that stand in a buffer, one after the other. Assumes nothing.
use Rattle.std.specs.Prelude.{Option, Some, None, ℕ, zero, suc, ◌+◌, ◌≤◌, ◌<◌, ◌≡◌, Bool, true, false, ◌&&◌, List, [], ◌∷◌, ◌++◌, take, drop}
use Rattle.std.proofs.Common.{arith, ◌∙◌}
use Rattle.std.proofs.Math.Path.{refl, ap}
use Rattle.std.proofs.Math.ListN.{length}
use Rattle.std.proofs.Math.Dec.{leb}
use borrow.Author.Tests.{le-leb, lt-leb, leb-true}
use Rattle.base.specs.Bytes.{num}
use Rattle.base.specs.Choice.{pick}
use Rattle.base.specs.Laws.Tests.{by_test, and_l, and_r}
use Rattle.frames.specs.Writing.{Written}
use Rattle.model.specs.Commands.{Answer}
use Rattle.print.specs.Text.{put, puts, last_digits, IsDigitCount, decimal}
use Rattle.print.specs.Lines.{word, bytes_text, line_of, is_answer, answer_size, answer_of, answers_by}
use Rattle.print.specs.Laws.Text.{puts_both, decimal_told}

and_false : (a : Bool) → (a && false) ≡ false
and_false true = refl
and_false false = refl

-- ---- how many bytes an answer has

module _ (l : List ℕ) where
  pub size_short : length l < 10 → None ≡ answer_size l
  unfolding answer_size
  size_short h = rw (lt-leb 10 (length l) h) refl

  pub size_low : num 0 2 l < 8 → None ≡ answer_size l
  unfolding answer_size
  size_low h = rw (lt-leb 8 (num 0 2 l) h, and_false (leb 10 (length l))) refl

  pub size_past : length l < 2 + num 0 2 l → None ≡ answer_size l
  unfolding answer_size
  size_past h = rw (lt-leb (2 + num 0 2 l) (length l) h, and_false (leb 10 (length l) && leb 8 (num 0 2 l))) refl

  pub size_whole : 10 ≤ length l → 8 ≤ num 0 2 l → 2 + num 0 2 l ≤ length l → Some (2 + num 0 2 l) ≡ answer_size l
  unfolding answer_size
  size_whole a b c = rw (le-leb 10 (length l) a, le-leb 8 (num 0 2 l) b, le-leb (2 + num 0 2 l) (length l) c) refl

  -- an answer stands there: it has ten bytes at least, and they are there
  pub size_told : (n : ℕ) → Some n ≡ answer_size l → (is_answer l ≡ true) × (n ≡ 2 + num 0 2 l) × (10 ≤ n) × (n ≤ length l)
  unfolding answer_size
  size_told n e =
      by_test (is_answer l)
      (λ t.
      let same : Some n ≡ Some (2 + num 0 2 l) = e ∙ ap (λ (b : Bool). pick b (Some (2 + num 0 2 l)) None) t in
      let size : n ≡ 2 + num 0 2 l = cc in
      let low : 8 ≤ num 0 2 l = leb-true 8 (num 0 2 l) (and_r (leb 10 (length l)) (leb 8 (num 0 2 l)) (and_l (leb 10 (length l) && leb 8 (num 0 2 l)) (leb (2 + num 0 2 l) (length l)) t)) in
      let past : 2 + num 0 2 l ≤ length l = leb-true (2 + num 0 2 l) (length l) (and_r (leb 10 (length l) && leb 8 (num 0 2 l)) (leb (2 + num 0 2 l) (length l)) t) in
      (t, size, (omega arith), (omega arith)))
      (λ t. let none : Some n ≡ None = e ∙ ap (λ (b : Bool). pick b (Some (2 + num 0 2 l)) None) t in cc)

  -- none stands there
  pub size_none : None ≡ answer_size l → is_answer l ≡ false
  unfolding answer_size
  size_none e =
      by_test (is_answer l)
      (λ t. let some : ◌≡◌ {A = Option ℕ} None (Some (2 + num 0 2 l)) = e ∙ ap (λ (b : Bool). pick b (Some (2 + num 0 2 l)) None) t in cc)
      (λ t. t)

-- ---- the answers

pub answers_none : (f : ℕ) (l : List ℕ) → is_answer l ≡ false → answers_by f l ≡ []
answers_none zero l e = refl
answers_none (suc f) l e = rw e refl

pub answers_more : (f n : ℕ) (l : List ℕ) → is_answer l ≡ true → n ≡ 2 + num 0 2 l
    → answers_by (suc f) l ≡ answer_of (take n l) ∷ answers_by f (drop n l)
answers_more f n l e size = rw (e, size) refl

-- ---- a line

-- its seven parts, one behind the other
pub line_put : (place : ℕ) (a : Answer) (s₀ s₁ s₂ s₃ s₄ s₅ s₆ s₇ : Written)
    → s₁ ≡ puts s₀ (word place) → s₂ ≡ puts s₁ (word a.condition) → s₃ ≡ puts s₂ (word a.action) → s₄ ≡ puts s₃ (word a.label)
    → s₅ ≡ puts s₄ (word a.number) → s₆ ≡ puts s₅ (bytes_text a.bytes) → s₇ ≡ put s₆ 10 → s₇ ≡ puts s₀ (line_of place a)
line_put place a s₀ s₁ s₂ s₃ s₄ s₅ s₆ s₇ e₁ e₂ e₃ e₄ e₅ e₆ e₇ =
    let w₁ = word place in
    let w₂ = w₁ ++ word a.condition in
    let w₃ = w₂ ++ word a.action in
    let w₄ = w₃ ++ word a.label in
    let w₅ = w₄ ++ word a.number in
    let w₆ = w₅ ++ bytes_text a.bytes in
    let f₂ = puts_both s₀ s₁ s₂ w₁ (word a.condition) e₁ e₂ in
    let f₃ = puts_both s₀ s₂ s₃ w₂ (word a.action) f₂ e₃ in
    let f₄ = puts_both s₀ s₃ s₄ w₃ (word a.label) f₃ e₄ in
    let f₅ = puts_both s₀ s₄ s₅ w₄ (word a.number) f₄ e₅ in
    let f₆ = puts_both s₀ s₅ s₆ w₅ (bytes_text a.bytes) f₅ e₆ in
    puts_both s₀ s₆ s₇ w₆ (10 ∷ []) f₆ e₇

-- a number that is told is the number
pub word_told : (s t : Written) (m n : ℕ) → m ≡ n → t ≡ puts s (word m) → t ≡ puts s (word n)
word_told s t m n e h = h ∙ ap (λ (k : ℕ). puts s (word k)) e

-- the digits and the space
pub word_put : (s t u : Written) (n k : ℕ) (text : List ℕ) → n < 18446744073709551616 → IsDigitCount 10 1 n k → text ≡ last_digits 10 k n
    → t ≡ puts s text → u ≡ put t 32 → u ≡ puts s (word n)
word_put s t u n k text bits few is e f =
    puts_both s t u (decimal n) (32 ∷ []) (e ∙ ap (puts s) (is ∙ decimal_told n k bits few)) f

pub bytes_told : (s t : Written) (l m : List ℕ) → l ≡ m → t ≡ puts s (bytes_text l) → t ≡ puts s (bytes_text m)
bytes_told s t l m e h = h ∙ ap (λ (k : List ℕ). puts s (bytes_text k)) e
