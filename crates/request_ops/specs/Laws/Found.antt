-- What it says that the first was found, or none. Assumes nothing.
use Rattle.std.specs.Prelude.{◌≡◌, ℕ, ◌<◌, Bool, true, false, List, length, Some, None, position}
use Rattle.std.proofs.Common.{sym, ap, ◌∙◌, arith, lt-ltb, le-ltb}
use Rattle.std.specs.Option.{is_some}
use Rattle.base.specs.Choice.{pick}
use Rattle.base.specs.Lists.{any, first_at}
use Rattle.base.specs.Laws.Tests.{by_test}
use Rattle.base.specs.Laws.Keep.{first_at_any}
use Rattle.base.specs.Laws.Library.{position_of, position_some, position_none}

module _ {A : Type 0} (p : A → Bool) (l : List A) where
  pub position_any : position p l ≡ pick (any p l) (Some (first_at p l)) None
  position_any = position_of p l ∙ ap (λ (b : Bool). pick b (Some (first_at p l)) None) (sym (first_at_any p l))

  module _ (i : ℕ) (e : position p l ≡ Some i) where
    pub found_at : first_at p l ≡ i
    found_at = (position_some p l i e).0

    pub found_in : i < length l
    found_in = (position_some p l i e).1

    pub found : any p l ≡ true
    found = let k = found_at in let h = found_in in first_at_any p l ∙ lt-ltb (first_at p l) (length l) (omega arith)

  pub not_found : position p l ≡ None → any p l ≡ false
  not_found e = first_at_any p l ∙ le-ltb (first_at p l) (length l) (omega (arith, position_none p l e))

  pub some_found : is_some (position p l) ≡ any p l
  some_found = rw position_any (by_test (any p l) (λ t. rw t) (λ t. rw t))
