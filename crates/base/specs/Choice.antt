-- A choice by a test.
use Rattle.std.specs.Prelude.{Bool, cond}

abbrev pub pick {ℓ} : {A : Type ℓ} → Bool → A → A → A
pick c a b = cond c a b
