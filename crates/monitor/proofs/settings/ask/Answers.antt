-- `settings::ask` meets its contract: an arm knows the number, and the number what is asked. Assumes nothing.
use Rattle.std.proofs.Common.{◌≡◌, ℕ, List, refl, sym, ap, ap₂, ◌∙◌, arith}
use borrow.Author.Tests.{ne_eqb}
use Rattle.model.specs.Commands.{issuer, operand}
use Rattle.handlers.specs.declared.Tasks.{Tasks}
use Rattle.handlers.specs.declared.answers.Handled.{Handled}
use Rattle.handlers.specs.Set.{handle_in, ignore_in, reset_in}
use Rattle.monitor.specs.Settings.{sets, sets_by, setting_turn}
use Rattle.monitor.proofs.settings.ask.Goals as goal
use Rattle.monitor.proofs.settings.ask.Goals.{in-15, in-16, in_default}

-- what no arm names is read as a reset
other : (t : Tasks) (n : ℕ) (r : List ℕ) → (n ≡ 15 → ⊥) → (n ≡ 16 → ⊥) → setting_turn t n r ≡ sets_by (reset_in t (issuer r) (operand 0 1 r))
unfolding setting_turn
other t n r a b = rw (ne_eqb n 15 a, ne_eqb n 16 b) refl

pub returns : goal.returns
unfolding setting_turn
returns c =
    let a = c.args in
    let r = a.rec.now in
    let task = c.issuer-task.ensures.exact in
    let condition = c.number1_at-condition.ensures.exact in
    let asked = λ (n : ℕ). setting_turn a.t n r in
    let e : sets_by c.match-command.from ≡ setting_turn a.t a.command r =
    elim c.match-command.branch [
      | in-15 w ↦
          let h : w.handle.result ≡ handle_in a.t (issuer r) (operand 0 1 r) (operand 1 2 r) =
          w.handle.ensures.exact ∙ rw (task, condition, w.number2_at.ensures.exact) refl in
          ap sets_by (w.from-is ∙ h) ∙ ap asked (sym w.in-15.is)
      | in-16 w ↦
          ap sets_by (w.from-is ∙ w.ignore.ensures.exact ∙ ap₂ (ignore_in a.t) task condition) ∙ ap asked (sym w.in-16.is)
      | in_default w ↦
          ap sets_by (w.from-is ∙ w.reset.ensures.exact ∙ ap₂ (reset_in a.t) task condition)
          ∙ sym (other a.t a.command r (λ e. omega arith) (λ e. omega arith))
    ] in
    record { exact = c.from.ensures ∙ ap sets e }
