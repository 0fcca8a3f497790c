-- What the borrow checker tells of a value by its type (the type's relation, `Denote/Laws.antt`'s `Is`), as tests: of a number, of each element
-- of an array, of each byte of a slice. A declared type's lemmas are made of these. Assumes nothing.
use Rattle.std.specs.Prelude.{ℕ, suc, ◌^◌, ◌≡◌, refl, Bool, true, List, [], ◌∷◌, map, ltb, length, get_or}
use Rattle.std.proofs.Common.{sym, ◌∙◌, lt-ltb}
use Rattle.std.proofs.lemmas.List.{length-map}
use Rattle.std.specs.Int.{Width, w8}
use mir.Val.{Val, Fits, bits}
use denote.Shadow.{shadow}
use denote.Array.{each}
use denote.Struct.Field.{Field, uint_field, array_field}
use Rattle.base.specs.Lists.{all}
use Rattle.base.specs.Bytes.{is_bytes}
use Rattle.base.specs.Laws.Tests.{and_i}

-- the relation of the type F, of x at some machine values: what `c.good.0` is of a parameter, and `c.f.ok` of the result of f
abbrev pub Told : (F : Field) → F.Value → List Val → Type 0
Told F x vs = shadow (F.row.own_val (F.into x) vs)

-- every value of the type F passes the test
abbrev pub Passes : (F : Field) → (F.Value → Bool) → Type 0
Passes F p = (x : F.Value) (vs : List Val) → Told F x vs → p x ≡ true

pub uint_passes : (w : Width) → Passes (uint_field w) (λ n. ltb n (2 ^ bits w))
uint_passes w n vs s = lt-ltb n (2 ^ bits w) s.1

module _ (F : Field) where
  each_passes : (p : F.Value → Bool) → Passes F p → (l : List F.Value) (us : List Val)
      → shadow (each F.row.Denot F.row.own_val (map F.into l) us) → all p l ≡ true
  each_passes p h [] us s = refl
  each_passes p h (x ∷ l) [] s = absurd s
  each_passes p h (x ∷ l) (u ∷ us) s = and_i (h x (u ∷ []) s.0) (each_passes p h l us s.1)

  module _ (n : ℕ) (l : List F.Value) (vs : List Val) (s : Told (array_field F n) l vs) where
    pub array_long : length l ≡ n
    array_long = sym (length-map l F.into) ∙ s.1.0.1

    pub array_all : (p : F.Value → Bool) → Passes F p → all p l ≡ true
    array_all p h = each_passes p h l s.0 s.1.1

-- of a slice of bytes, from `c.shared-slice-known.given` or `c.slice-known.given`
pub bytes_told : (l : List ℕ) → ((i : ℕ) → Fits w8 (get_or l i 0)) → is_bytes l ≡ true
bytes_told [] h = refl
bytes_told (x ∷ l) h = and_i (lt-ltb x 256 (h 0).fits) (bytes_told l (λ i. h (suc i)))
