-- The size of an answer, and what the writer has written where the answer has room. Assumes nothing.
use Rattle.std.specs.Prelude.{◌≡◌, List, ℕ, min, ◌+◌, ◌≤◌, ◌<◌, length, take}
use Rattle.std.proofs.Common.{ap, ◌∙◌, arith, length-take, take-take, le-leb}
use Rattle.std.proofs.lemmas.Bool.{lt-leb}
use Rattle.base.specs.Lists.{over}
use Rattle.model.specs.Commands.{Answer}
use Rattle.model.specs.Lists.{encoded}
use Rattle.frames.specs.Writing.{carried, answer_of, head_of, Written, written, written_over}

pub length_encoded : (a : Answer) → length (encoded a) ≡ 10 + length a.bytes
length_encoded a = omega arith

-- 64 bytes at most: all that were asked for
pub carried_few : (bytes : List ℕ) (n : ℕ) → n ≤ 64 → carried bytes n ≡ take n bytes
carried_few bytes n h = take-take n 64 bytes h

pub length_carried : (bytes : List ℕ) (n : ℕ) → length (carried bytes n) ≡ min n (min 64 (length bytes))
length_carried bytes n = simp length-take

pub carried_max : (bytes : List ℕ) (n : ℕ) → length (carried bytes n) ≤ 64
carried_max bytes n = let h = length_carried bytes n in omega arith

-- "74 bytes per record" is room for any answer
pub encoded_max : (c a l m : ℕ) (bytes : List ℕ) (n : ℕ) → length (encoded (answer_of c a l m bytes n)) ≤ 74
encoded_max c a l m bytes n = let h = length_encoded (answer_of c a l m bytes n) in let k = carried_max bytes n in omega arith

module _ (e b : List ℕ) where
  pub written_fits : length e ≤ length b → written_over e b ≡ written (length e) (over e b)
  unfolding written_over
  written_fits h = rw (le-leb (length e) (length b) h)

  pub written_not : length b < length e → written_over e b ≡ written 0 b
  unfolding written_over
  written_not h = rw (lt-leb (length e) (length b) h)

  pub written_told : (r : ℕ) (after : List ℕ) → length e ≤ length b → written r after ≡ written_over e b → (r ≡ length e) × (after ≡ over e b)
  written_told r after h q =
      let w : written r after ≡ written (length e) (over e b) = q ∙ written_fits h in
      (ap (λ (x : Written). x.count) w, ap (λ (x : Written). x.buffer) w)

-- the ten bytes before an answer's own
module _ (c a l m n : ℕ) (b : List ℕ) where
  pub head_fits : 10 ≤ length b → (written_over (head_of c a l m n) b).buffer ≡ over (head_of c a l m n) b
  head_fits h = ap (λ (x : Written). x.buffer) (written_fits (head_of c a l m n) b h)

  pub head_not : length b < 10 → (written_over (head_of c a l m n) b).buffer ≡ b
  head_not h = ap (λ (x : Written). x.buffer) (written_not (head_of c a l m n) b h)
