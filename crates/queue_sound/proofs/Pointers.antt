-- The rule of pointers as a test of each name with its pointer. Assumes nothing.
use Rattle.std.specs.Prelude.{ℕ, ◌≡◌, refl, List, [], ◌∷◌, leb, zip, ◌&&◌}
use Rattle.std.specs.List.{list_all}
use Rattle.std.proofs.Common.{ap}
use Rattle.base.specs.Lists.{copies}
use Rattle.queue_rows.specs.Sound.{pointed}

pub pointed_zip : (os ns ps : List ℕ) → list_all (λ (p : ℕ × ℕ). leb p.1 (copies p.0 os)) (zip ns ps) ≡ pointed os ns ps
pointed_zip os [] ps = refl
pointed_zip os (n ∷ ns) [] = refl
pointed_zip os (n ∷ ns) (p ∷ ps) = ap (λ b. leb p (copies n os) && b) (pointed_zip os ns ps)
