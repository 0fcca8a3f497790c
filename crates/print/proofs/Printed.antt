-- The loop over the answers: the lines put and those left are all of them. Assumes nothing.
use Prim.Native.Nat.{ℕ, zero, suc, ◌+◌, ◌-◌, ◌≤◌}
use native.Mathlib.Omega.{arith}
use mathlib.Core.Path.{◌≡◌, refl, sym, ap, ◌∙◌}
use mathlib.Core.List.{List, ◌∷◌}
use Rattle.std.specs.Prelude.{Some, None}
use lib.ListN.{length, take, drop, length-drop}
use Rattle.model.specs.Commands.{Answer}
use Rattle.frames.specs.Writing.{Written, written}
use Rattle.print.specs.Text.{puts, laid}
use Rattle.print.specs.Lines.{line_of, lines_from, lines_of, answer_of, answers_by, answer_size}
use Rattle.print.specs.Laws.Text.{puts_append, puts_laid}
use Rattle.print.specs.Laws.Lines.{size_told, size_none, answers_none, answers_more}

pub record Printed (l out₀ out : List ℕ) (end place : ℕ) (left : List ℕ) : Type 0 where
  pub fuel : ℕ
  pub enough : length left ≤ fuel
  pub tells : puts (written end out) (lines_from place (answers_by fuel left)) ≡ puts (written 0 out₀) (lines_of l)
  pub few : place + length left ≤ length l + 1
  pub same : length out ≡ length out₀

module _ (l out₀ : List ℕ) where
  pub printed_none : Printed l out₀ out₀ 0 1 l
  unfolding lines_of
  printed_none = record { fuel = length l; enough = omega arith; tells = refl; few = omega arith; same = refl }

  module _ (out : List ℕ) (end place : ℕ) (left : List ℕ) (p : Printed l out₀ out end place left) where
    -- none is left
    pub printed_all : None ≡ answer_size left → written end out ≡ laid (lines_of l) out₀
    printed_all e =
        sym (ap (λ (rest : List Answer). puts (written end out) (lines_from place rest)) (answers_none p.fuel left (size_none left e)))
        ∙ p.tells ∙ puts_laid (lines_of l) out₀

    -- a line more is put
    pub printed_more : (n : ℕ) → Some n ≡ answer_size left → (out' : List ℕ) (end' : ℕ) → length out' ≡ length out
        → written end' out' ≡ puts (written end out) (line_of place (answer_of (take n left)))
        → Printed l out₀ out' end' (place + 1) (drop n left)
    printed_more n size out' end' kept e = more p.fuel refl
      where
        more : (f : ℕ) → p.fuel ≡ f → Printed l out₀ out' end' (place + 1) (drop n left)
        more zero z = let t = size_told left n size in let h = p.enough in absurd (omega arith)
        more (suc g) z =
            let t = size_told left n size in
            let h = p.enough in
            let k = p.few in
            let d = length-drop n left in
            let rest = lines_from (place + 1) (answers_by g (drop n left)) in
            let split : answers_by p.fuel left ≡ answer_of (take n left) ∷ answers_by g (drop n left) =
            ap (λ (f : ℕ). answers_by f left) z ∙ answers_more g n left t.0 t.1 in
            record {
              fuel = g;
              enough = omega arith;
              tells = ap (λ (s : Written). puts s rest) e
                  ∙ sym (puts_append (written end out) (line_of place (answer_of (take n left))) rest)
                  ∙ sym (ap (λ (r : List Answer). puts (written end out) (lines_from place r)) split)
                  ∙ p.tells;
              few = omega arith;
              same = kept ∙ p.same;
            }
