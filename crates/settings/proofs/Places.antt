-- The place that std's `position` gives: of a list each element of which was read as another, and whether there is one. Assumes nothing.
use Rattle.std.specs.Option.{is_some}
use Rattle.std.specs.Prelude.{ℕ, ◌+◌, ◌≡◌, Bool, not, cond, List, [], ◌∷◌, Some, None, map, ltb, length, position}
use Rattle.std.specs.List.{position_or_len}
use Rattle.std.proofs.Common.{refl, sym, ap, ap₂, ◌∙◌}
use Rattle.std.proofs.Math.ListN.{length-map}
use Rattle.base.specs.Lists.{any, first_at}
use Rattle.base.specs.Laws.Tests.{by_test}
use Rattle.base.specs.Laws.Keep.{first_at_any}
use Rattle.base.specs.Laws.Library.{position_of}

module _ {A : Type 0} (p : A → Bool) where
  pub position_any : (l : List A) → is_some (position p l) ≡ any p l
  position_any l =
      ap is_some (position_of p l) ∙ by_test (ltb (first_at p l) (length l)) (λ t. rw t (sym (first_at_any p l ∙ t))) (λ t. rw t (sym (first_at_any p l ∙ t)))

module _ {A B : Type 0} (g : A → B) (p : B → Bool) where
  position_or_len_map : (l : List A) → position_or_len p (map g l) ≡ position_or_len (λ x. p (g x)) l
  position_or_len_map [] = refl
  position_or_len_map (x ∷ l) = ap (λ (n : ℕ). cond (not (p (g x))) (1 + n) 0) (position_or_len_map l)

  pub position_map : (l : List A) → position p (map g l) ≡ position (λ x. p (g x)) l
  position_map l = ap₂ (λ (k n : ℕ). cond (ltb k n) (Some k) None) (position_or_len_map l) (length-map l g)
