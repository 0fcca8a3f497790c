-- What is printed of a list of bytes is document 01's printed form of the model's answers. Assumes nothing.
use Rattle.std.specs.Prelude.{ℕ, ◌≡◌, true, List, replicate}
use Rattle.std.proofs.Common.{arith}
use Rattle.std.proofs.lemmas.List.{length-replicate}
use Rattle.base.specs.Bytes.{is_bytes}
use Rattle.model.specs.Limits.{cabinet}
use Rattle.model.specs.Lists.{framed}
use Rattle.model.proofs.Laws.Itself.{cabinet_fits}
use Rattle.print.specs.Laws.Forms.{form_for, run_form}
use Rattle.printed.specs.Form.{formed}

pub formed_model : (l : List ℕ) → is_bytes l ≡ true → formed l ≡ form_for cabinet (framed l)
unfolding formed
formed_model l h = run_form cabinet cabinet_fits l (replicate 27454 0) h (omega (arith, length-replicate {A = ℕ} 27454 0))
