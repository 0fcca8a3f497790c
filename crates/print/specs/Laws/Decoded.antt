-- Answers that were written one behind the other are read back as they were, so that what is printed of them is a line for each.
-- Assumes nothing.
use Rattle.std.specs.Prelude.{ℕ, zero, suc, ◌+◌, ◌≤◌, ◌≡◌, refl, true, List, [], ◌∷◌, ◌++◌, length}
use Rattle.std.proofs.Common.{arith, ap, ap₂, ◌∙◌, length-append, take_at, drop_at, le-leb}
use Rattle.base.specs.Bytes.{num}
use Rattle.base.specs.Laws.Bytes.{num_bytes_of}
use Rattle.model.specs.Commands.{Answer}
use Rattle.model.specs.Lists.{encoded, encoded_all}
use Rattle.model.specs.Demands.{Proper}
use Rattle.frames.specs.Laws.Encoded.{length_encoded}
use Rattle.print.specs.Lines.{is_answer, answer_of, answers_by, lines_from, lines_of}
use Rattle.print.specs.Laws.Lines.{answers_none, answers_more}

-- each of the answers is one that a monitor may give
abbrev pub Propers : List Answer → Type 0
Propers [] = Unit {0}
Propers (a ∷ l) = Proper a × Propers l

module _ (a : Answer) (p : Proper a) where
  size_back : (rest : List ℕ) → num 0 2 (encoded a ++ rest) ≡ 8 + length a.bytes
  size_back rest = let h = p.size in num_bytes_of 2 (8 + length a.bytes) (omega arith)

  pub is_back : (rest : List ℕ) → is_answer (encoded a ++ rest) ≡ true
  is_back rest =
      let z = size_back rest in
      let n : length (encoded a ++ rest) ≡ 10 + length a.bytes + length rest = length-append (encoded a) rest ∙ ap (λ (k : ℕ). k + length rest) (length_encoded a) in
      rw (le-leb 10 (length (encoded a ++ rest)) (omega arith), z, le-leb 8 (8 + length a.bytes) (omega arith), le-leb (2 + (8 + length a.bytes)) (length (encoded a ++ rest)) (omega arith)) refl

  pub answer_back : answer_of (encoded a) ≡ a
  answer_back =
      let l : num 4 2 (encoded a) ≡ a.label = num_bytes_of 2 a.label p.label in
      let m : num 6 4 (encoded a) ≡ a.number = num_bytes_of 4 a.number p.number in
      let c : num 2 1 (encoded a) ≡ a.condition = omega arith in
      let t : num 3 1 (encoded a) ≡ a.action = omega arith in
      made c t l m
    where
      made : {c t l m : ℕ} → c ≡ a.condition → t ≡ a.action → l ≡ a.label → m ≡ a.number
          → record { condition = c; action = t; label = l; number = m; bytes = a.bytes } ≡ a
      made e f g h = rw (e, f, g, h) refl

-- what was written is what is read
pub answers_back : (l : List Answer) → Propers l → (f : ℕ) → length (encoded_all l) ≤ f → answers_by f (encoded_all l) ≡ l
answers_back [] p f h = answers_none f [] refl
answers_back (a ∷ l) p zero h =
    let n = length-append (encoded a) (encoded_all l) in let e = length_encoded a in absurd (omega arith)
answers_back (a ∷ l) p (suc f) h =
    let n = length-append (encoded a) (encoded_all l) in
    let e = length_encoded a in
    let z = size_back a p.0 (encoded_all l) in
    answers_more f (length (encoded a)) (encoded a ++ encoded_all l) (is_back a p.0 (encoded_all l)) (omega arith)
    ∙ ap₂ (λ (x : List ℕ) (y : List ℕ). answer_of x ∷ answers_by f y) (take_at (encoded a) (encoded_all l) (length (encoded a)) refl)
    (drop_at (encoded a) (encoded_all l) (length (encoded a)) refl)
    ∙ ap₂ (λ (x : Answer) (y : List Answer). x ∷ y) (answer_back a p.0) (answers_back l p.1 f (omega arith))

-- "a line for each answer"
pub lines_back : (l : List Answer) → Propers l → lines_of (encoded_all l) ≡ lines_from 1 l
unfolding lines_of
lines_back l p = ap (lines_from 1) (answers_back l p (length (encoded_all l)) (omega arith))
