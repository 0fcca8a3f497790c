-- What the model's run is, by what `frame` answers: 35, 36, or the answers to the records that a reader meets. Assumes nothing.
use Rattle.std.specs.Prelude.{None, Some, ◌≡◌, List, ℕ, ◌*◌, leb, length}
use Rattle.std.proofs.Math.Path.{ap}
use Rattle.std.proofs.Common.{sym, ◌∙◌}
use Rattle.base.specs.Choice.{pick}
use Rattle.model.specs.Limits.{Limits}
use Rattle.model.specs.State.{empty_at}
use Rattle.model.specs.Lists.{framed, answers_from, refusal, answered, ran, run}
use Rattle.frames.specs.Framing.{accepted, framing}
use Rattle.frames.specs.Reading.{records_from}
use Rattle.frames.specs.Laws.Framing.{accepted_told, refused_told}

module _ (L : Limits) (l b : List ℕ) where
  pub refused_runs : None ≡ framing (framed l) → run L l b ≡ refusal 35 b
  unfolding run
  refused_runs q = ap (ran L b) (refused_told l q)

  pub accepted_runs : (n v : ℕ) → Some (accepted n v) ≡ framing (framed l)
      → run L l b ≡ pick (leb (74 * n) (length b)) (answered (answers_from L (empty_at v) (records_from l 9)) b) (refusal 36 b)
  unfolding run
  accepted_runs n v q =
      let t = accepted_told l v n q in
      ap (ran L b) t.0.is
      ∙ ap (λ (k : ℕ). pick (leb (74 * k) (length b)) (answered (answers_from L (empty_at v) (records_from l 9)) b) (refusal 36 b)) (sym t.1)
