-- What a run is, by what `frame` answers: 35, 36, or the answers to the records that a reader meets. Assumes nothing.
use Rattle.std.specs.Prelude.{Some, None, ◌≡◌, List, ℕ, ◌*◌, ◌≤◌, ◌<◌, length}
use Rattle.std.proofs.Common.{ap, ◌∙◌, arith}
use Rattle.model.specs.Lists.{Framed, good, framed, refusal, answered}
use Rattle.monitor.specs.Table.{fresh_tables}
use Rattle.frames.specs.Framing.{accepted, framing}
use Rattle.frames.specs.Reading.{records_from}
use Rattle.frames.specs.Laws.Framing.{IsFramed, accepted_told, refused_told}
use Rattle.lists.specs.Run.{answers_on, run_on, Fitting}
use Rattle.lists.specs.Laws.Leaves.{on_bad, on_short, on_good}

module _ (l b : List ℕ) where
  pub refused_on : None ≡ framing (framed l) → run_on (framed l) b ≡ refusal 35 b
  refused_on q = ap (λ (f : Framed). run_on f b) (refused_told l q) ∙ on_bad b

  module _ (n v : ℕ) (q : Some (accepted n v) ≡ framing (framed l)) where
    told : IsFramed l v × (n ≡ length (records_from l 9))
    told = accepted_told l v n q

    good_on : run_on (framed l) b ≡ run_on (good v (records_from l 9)) b
    good_on = ap (λ (f : Framed). run_on f b) told.0.is

    pub short_on : length b < 74 * n → run_on (framed l) b ≡ refusal 36 b
    short_on h = let t = told.1 in good_on ∙ on_short b v (records_from l 9) (omega arith)

    pub fitting_on : 74 * n ≤ length b → Fitting l b
    fitting_on h = let t = told.1 in record { filled = told.0.filled; room = omega arith }

    pub answered_on : 74 * n ≤ length b → run_on (framed l) b ≡ answered (answers_on (fresh_tables v) (records_from l 9)) b
    answered_on h = let t = told.1 in good_on ∙ on_good b v (records_from l 9) (omega arith)
