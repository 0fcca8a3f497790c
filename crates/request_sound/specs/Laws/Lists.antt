-- Lists by a test that always passes, by two tests, by tests that agree where a third passes; and what the type of a slice of words says.
-- Assumes nothing.
use Rattle.std.specs.Prelude.{◌≡◌, ℕ, suc, ◌^◌, Bool, true, ◌&&◌, List, [], ◌∷◌, Some, map, nat_lt, slice_index, refl}
use Rattle.std.specs.Bool.{then_some}
use Rattle.std.specs.List.{filter_map}
use Rattle.std.proofs.Common.{ap, Fits, lt-ltb}
use Rattle.std.specs.Int.{w64}
use Rattle.base.specs.Lists.{keep, all}
use Rattle.base.specs.Laws.Tests.{by_test, and_l, and_r, and_i}

pub keep_every : {A : Type 0} (l : List A) → keep (λ x. true) l ≡ l
keep_every [] = refl
keep_every (x ∷ l) = ap (λ r. x ∷ r) (keep_every l)

-- what a list gives by something that each has, and by what those have that pass a test
pub filter_every : {A B : Type 0} (f : A → B) (l : List A) → map f l ≡ filter_map (λ x. Some (f x)) l
filter_every f [] = refl
filter_every f (x ∷ l) = ap (λ r. f x ∷ r) (filter_every f l)

pub filter_kept : {A B : Type 0} (p : A → Bool) (f : A → B) (l : List A) → map f (keep p l) ≡ filter_map (λ x. then_some (p x) (f x)) l
filter_kept p f [] = refl
filter_kept p f (x ∷ l) = by_test (p x) (λ t. rw t (ap (λ r. f x ∷ r) (filter_kept p f l))) (λ t. rw t (filter_kept p f l))

pub all_both : {A : Type 0} (p q : A → Bool) (l : List A) → all p l ≡ true → all q l ≡ true → all (λ x. p x && q x) l ≡ true
all_both p q [] h g = refl
all_both p q (x ∷ l) h g =
    and_i (and_i (and_l (p x) (all p l) h) (and_l (q x) (all q l) g)) (all_both p q l (and_r (p x) (all p l) h) (and_r (q x) (all q l) g))

pub all_agree : {A : Type 0} (w p q : A → Bool) → ((x : A) → w x ≡ true → p x ≡ q x) → (l : List A) → all w l ≡ true → all p l ≡ all q l
all_agree w p q e [] h = refl
all_agree w p q e (x ∷ l) h = cc (e x (and_l (w x) (all w l) h), all_agree w p q e l (and_r (w x) (all w l) h))

abbrev pub is_word : ℕ → Bool
is_word n = nat_lt n (2 ^ 64)

-- from `c.shared-slice-known.given` or `c.slice-known.given`
pub words_told : (l : List ℕ) → ((i : ℕ) → Fits w64 (slice_index l i)) → all is_word l ≡ true
words_told [] h = refl
words_told (x ∷ l) h = and_i (lt-ltb x (2 ^ 64) (h 0).fits) (words_told l (λ i. h (suc i)))
