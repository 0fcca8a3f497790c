-- Both clauses that delete queue had: the code's contract is proved clause by clause now, and nothing cites this. Assumes nothing.
use Rattle.std.specs.Prelude.{◌≡◌, List, [], ℕ}
use Rattle.std.proofs.Math.Bool.{true}
use Rattle.model.specs.Queues.{delete}
use Rattle.queues.specs.declared.Queues.{Queues}
use Rattle.queues.specs.declared.delete.Deleted.{Deleted}
use Rattle.queues.specs.Model.{queues_of}
use Rattle.queues.specs.Sound.{sound_q, Did}
use Rattle.queues.specs.Delete.{condition_of, number_of, delete_from}
use Rattle.queues.specs.Laws.Typed.{Typed}
use Rattle.queues.proofs.Laws.Delete.{delete_meets}

pub delete_both : (q : Queues) (n : ℕ) → Typed q → (r : Deleted) → Typed r.queues → r ≡ delete_from q n
    → (r ≡ delete_from q n)
    × (sound_q q ≡ true → (b : List ℕ) → Did q b r.queues b (delete (queues_of q b) n) (condition_of r.outcome) (number_of r.outcome) [])
delete_both q n ty r ty' f = (f, λ h b. delete_meets q n ty h b r ty' f)
