-- Names in words: how many there are, then the places for them.
use Rattle.std.specs.Prelude.{ℕ, Bool, ◌&&◌, List, [], ◌∷◌, ◌++◌, eqb, leb, length, take, drop, get_or, replicate}
use Rattle.base.specs.Choice.{pick}
use Rattle.base.specs.Lists.{all, has, once, over}
use Rattle.base.specs.Bytes.{blank, is_name}
use Rattle.model.specs.Plans.{invalid_request, not_unique, no_space, Outcome, fault, done}

pub record Names : Type 0 where
  pub count : ℕ
  pub places : List ℕ

abbrev pub view_of : List ℕ → Names
view_of w = record { count = get_or w 0 0; places = drop 1 w }

-- those that count: what stands past them is kept and means nothing, and a count that says more than there are places is all of them
abbrev pub names_in : Names → List ℕ
names_in v = take v.count v.places

abbrev pub with_names : Names → List ℕ → Names
with_names v l = record { count = length l; places = over l v.places }

abbrev pub fresh_of : Names → Names
fresh_of v = record { count = 0; places = replicate (length v.places) 0 }

-- "10 if blank, 7 known, 1 full"
unfoldable pub define_in : Names → ℕ → Outcome Names
define_in v n =
    pick (eqb n (blank 4)) (fault v invalid_request)
    (pick (has n (names_in v)) (fault v not_unique)
    (pick (leb (length v.places) (length (names_in v))) (fault v no_space)
    (done (with_names v (names_in v ++ (n ∷ []))) 0)))

-- "the bounds hold; names are unique within their kind (programs, terminals, ..) and not blank"
unfoldable pub sound_names : Names → Bool
sound_names v = leb v.count (length v.places) && once (names_in v) && all (is_name 4) (names_in v)
