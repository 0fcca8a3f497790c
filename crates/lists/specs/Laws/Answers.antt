-- An answer as the code holds it is the model's again when it is written, and takes 74 bytes at most. That its bytes are 64 at most
-- follows from how it is held: what is laid over 64 zeros and is 64 bytes long has no more. Assumes nothing.
use Rattle.std.specs.Prelude.{◌≡◌, List, ℕ, ◌≤◌, length, drop, replicate}
use Rattle.std.proofs.Common.{ap, sym, ◌∙◌, arith, length-append}
use Rattle.base.specs.Laws.Over.{take_over}
use Rattle.model.specs.Commands as model
use Rattle.model.specs.Lists.{encoded}
use Rattle.monitor.specs.Answers.{padded, laid}
use Rattle.monitor.specs.declared.answers.Answer.{Answer}
use Rattle.frames.specs.Writing.{carried, answer_of}
use Rattle.frames.specs.Laws.Encoded.{carried_few, length_encoded}

-- the writer's answer, of an answer as the code holds it
abbrev pub held : Answer → model.Answer
held a = answer_of a.condition a.action a.label a.number a.bytes a.len

abbrev with_bytes : model.Answer → List ℕ → model.Answer
with_bytes m b = record { condition = m.condition; action = m.action; label = m.label; number = m.number; bytes = b }

pub padded_few : (b : List ℕ) → length (padded b) ≡ 64 → length b ≤ 64
padded_few b e = let n = length-append b (drop (length b) (replicate 64 0)) in omega arith

pub carried_padded : (b : List ℕ) → length b ≤ 64 → carried (padded b) (length b) ≡ b
carried_padded b h = carried_few (padded b) (length b) h ∙ take_over b (replicate 64 0)

module _ (m : model.Answer) (a : Answer) (is : a ≡ laid m) (long : length a.bytes ≡ 64) where
  pub laid_few : length m.bytes ≤ 64
  laid_few = padded_few m.bytes (sym (ap (λ (x : Answer). length x.bytes) is) ∙ long)

  pub held_laid : held a ≡ m
  held_laid = ap held is ∙ ap (with_bytes m) (carried_padded m.bytes laid_few)

  pub laid_max : length (encoded m) ≤ 74
  laid_max = let n = length_encoded m in let k = laid_few in omega arith
