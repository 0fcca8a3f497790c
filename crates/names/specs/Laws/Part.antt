-- The places, as the part of the words behind the first, where there is one. Assumes nothing.
use Rattle.std.specs.Prelude.{ℕ, ◌-◌, min, ◌≡◌, Bool, ◌&&◌, List, [], ◌∷◌, leb, length, take, drop, get_or}
use Rattle.std.proofs.Common.{arith, take_all}
use Rattle.base.specs.Lists.{all, once}
use Rattle.base.specs.Bytes.{is_name}
use Rattle.names.specs.Names.{view_of, sound_names}

pub behind_first : (w : List ℕ) (k : ℕ) → k ≡ min 1 (length w) → take (length w - k) (drop k w) ≡ drop 1 w
behind_first [] k e = let z : k ≡ 0 = omega arith in rw z
behind_first (x ∷ w) k e = let z : k ≡ 1 = omega arith in rw z (take_all (length (x ∷ w) - 1) w (omega arith))

-- the three tests, as the code makes them
pub tested : (w : List ℕ) (n k : ℕ) (a b c : Bool) → n ≡ get_or w 0 0 → k ≡ min 1 (length w) → a ≡ leb n (length (view_of w).places)
    → b ≡ once (take n (take (length w - k) (drop k w))) → c ≡ all (is_name 4) (take n (take (length w - k) (drop k w))) → (a && b && c) ≡ sound_names (view_of w)
unfolding sound_names
tested w n k a b c en ek ea eb ec = rw (ea, eb, ec, behind_first w k ek, en)
