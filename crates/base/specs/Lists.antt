-- Lists by a test, over any element type, in the library's words where it has one; and lists of numbers as sets.
use Rattle.std.specs.Prelude.{ℕ, suc, ◌+◌, Bool, true, false, not, ◌&&◌, List, [], ◌∷◌, ◌++◌, length, take, drop, eqb, filter}
use Rattle.std.specs.List.{list_all}
use Rattle.base.specs.Choice.{pick}

module _ {A : Type 0} where
  -- what passes the test, in order
  abbrev pub keep : (A → Bool) → List A → List A
  keep p l = filter p l

  -- does one pass
  abbrev pub any : (A → Bool) → List A → Bool
  any p [] = false
  any p (x ∷ xs) = pick (p x) true (any p xs)

  -- do all pass
  abbrev pub all : (A → Bool) → List A → Bool
  all p l = list_all p l

  -- the first that passes, or d
  abbrev pub first : (A → Bool) → A → List A → A
  first p d [] = d
  first p d (x ∷ xs) = pick (p x) x (first p d xs)

  -- how many stand before the first that passes, and the length where none does
  abbrev pub first_at : (A → Bool) → List A → ℕ
  first_at p [] = 0
  first_at p (x ∷ xs) = pick (p x) 0 (suc (first_at p xs))

  -- the new live part laid over the old row: what stands past it is kept
  abbrev pub over : List A → List A → List A
  over ks l = ks ++ drop (length ks) l

  -- all but what stands at i
  abbrev pub cut_at : ℕ → List A → List A
  cut_at i l = take i l ++ drop (suc i) l

-- is n in the list
abbrev pub has : ℕ → List ℕ → Bool
has n l = any (λ m. eqb m n) l

-- how often n is in the list
abbrev pub copies : ℕ → List ℕ → ℕ
copies n [] = 0
copies n (m ∷ l) = pick (eqb m n) 1 0 + copies n l

-- none stands twice
abbrev pub once : List ℕ → Bool
once [] = true
once (n ∷ l) = not (has n l) && once l

-- each is in the other list
abbrev pub within : List ℕ → List ℕ → Bool
within l m = all (λ n. has n m) l
