-- The cases of `delete_from`, as the code comes to them. Assumes nothing.
use Rattle.std.specs.Prelude.{◌≡◌, ℕ, position, eqb, Err, Ok, Some, None}
use Rattle.std.proofs.Common.{refl, ap, ap₂, ◌∙◌, ne_eqb}
use Rattle.base.specs.Bytes.{blank}
use Rattle.base.specs.Lists.{copies}
use Rattle.queues.specs.declared.Queues.{Queues}
use Rattle.queues.specs.declared.delete.DeleteError.TheVariants.{UnknownQueue}
use Rattle.queues.specs.Table.{names_of, owners}
use Rattle.queues.specs.Delete.{shut_at, shut, emptied, swept, answer, delete_from}
use Rattle.queues.proofs.Rows.{row_some, row_none}

module _ (q : Queues) (n : ℕ) where
  module _ (d : n ≡ blank 8 → ⊥) where
    pub delete_unknown : position (λ m. eqb m n) (names_of q) ≡ None → answer q (Err UnknownQueue) ≡ delete_from q n
    unfolding delete_from
    delete_unknown h = rw (ne_eqb n (blank 8) d, row_none q n h)

    pub delete_freed : (row : ℕ) → position (λ m. eqb m n) (names_of q) ≡ Some row → (r s : Queues) (k : ℕ) → r ≡ shut_at q row
        → s ≡ emptied r n → k ≡ copies n (owners r) → answer s (Ok k) ≡ delete_from q n
    unfolding delete_from swept
    delete_freed row h r s k e f i =
        let g = row_some q n row h in
        let is : r ≡ shut q n = e ∙ ap (shut_at q) g.1 in
        rw (ne_eqb n (blank 8) d, g.0)
        (ap₂ (λ (x : Queues) (j : ℕ). answer x (Ok j)) (f ∙ ap (λ (x : Queues). emptied x n) is) (i ∙ ap (λ (x : Queues). copies n (owners x)) is))

pub shut_used : (q : Queues) (r : ℕ) → (shut_at q r).used ≡ q.used
unfolding shut_at
shut_used q r = refl

-- for the search of `Queues::delete`
pub ruleset cases = (delete_unknown, shut_used)
