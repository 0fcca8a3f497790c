-- A number of 64 bits that std writes in decimal is written with the fewest digits that hold it. Assumes nothing.
use Rattle.std.specs.Prelude.{ℕ, zero, suc, ◌+◌, ◌-◌, ◌*◌, ◌/◌, ◌%◌, ◌^◌, ◌≤◌, ◌<◌, ◌≡◌, refl, List, [], ◌∷◌, ◌++◌, ltb}
use Rattle.std.specs.Fmt.{decimal as text_of}
use Rattle.std.proofs.Math.Nat.{pow-suc}
use Rattle.std.proofs.lemmas.Fmt.{decimal_digit, decimal_step}
use Rattle.std.proofs.Common.{arith, ap, ap₂, ◌∙◌, lt-ltb, ltb-true, ltb-false}
use Rattle.base.specs.Laws.Tests.{by_test}
use Rattle.print.specs.Text.{hex_digit_ascii, last_digits, IsDigitCount}

pub record Fewest (n : ℕ) : Type 0 where
  pub count : ℕ
  pub holds : IsDigitCount 10 1 n count
  pub digits : text_of n ≡ last_digits 10 count n

glyph_of : (d : ℕ) → d < 10 → 48 + d ≡ hex_digit_ascii d
glyph_of d h = rw (lt-ltb d 10 h) refl

one_digit : (n : ℕ) → n < 10 → Fewest n
one_digit n h =
    let same : n ≡ n % 10 = omega arith in
    record {
      count = 1;
      holds = ((omega arith), (omega arith), λ more. absurd (omega arith));
      digits = decimal_digit n h ∙ ap (λ (g : ℕ). g ∷ []) (glyph_of n h ∙ ap hex_digit_ascii same);
    }

-- a digit more
module _ (n : ℕ) (p : Fewest (n / 10)) where
  least : 10 ≤ n → 10 ^ (suc p.count - 1) ≤ n
  least h =
      by_test (ltb 1 p.count)
      (λ t.
      let q : 10 ^ (p.count - 1) ≤ n / 10 = p.holds.2 (ltb-true 1 p.count t) in
      let long : 10 ^ suc (p.count - 1) ≡ 10 ^ (p.count - 1) * 10 = pow-suc 10 (p.count - 1) in
      let one : 1 ≤ p.count = p.holds.0 in
      let e : suc p.count - 1 ≡ suc (p.count - 1) = omega arith in
      rw (e, long) (omega arith))
      (λ t.
      let one : 1 ≤ p.count = p.holds.0 in
      let few : p.count ≤ 1 = ltb-false 1 p.count t in
      let e : suc p.count - 1 ≡ 1 = omega arith in
      rw e h)

  one_more : 10 ≤ n → n < 18446744073709551616 → Fewest n
  one_more h bits =
      let long : 10 ^ suc p.count ≡ 10 ^ p.count * 10 = pow-suc 10 p.count in
      let below : n / 10 < 10 ^ p.count = p.holds.1 in
      record {
        count = suc p.count;
        holds = ((omega arith), (omega arith), λ _. least h);
        digits = decimal_step n h bits ∙ ap₂ (λ (l : List ℕ) (g : ℕ). l ++ (g ∷ [])) p.digits (glyph_of (n % 10) (omega arith));
      }

pub fewest : (f n : ℕ) → n < 10 ^ suc f → n < 18446744073709551616 → Fewest n
fewest zero n h bits = one_digit n (omega arith)
fewest (suc f) n h bits =
    by_test (ltb n 10)
    (λ t. one_digit n (ltb-true n 10 t))
    (λ t.
    let long : 10 ^ suc (suc f) ≡ 10 ^ suc f * 10 = pow-suc 10 (suc f) in
    let more : 10 ≤ n = ltb-false n 10 t in
    one_more n (fewest f (n / 10) (omega arith) (omega arith)) more bits)
