-- What a test's value tells: the Booleans' connectives, the tests on numbers, and a choice by a test.
-- Assumes nothing.
use Rattle.std.specs.Prelude.{ℕ, ◌+◌, ◌<◌, ◌≤◌, ◌≡◌, refl, Bool, true, false, ◌&&◌, ◌||◌, leb, ltb, eqb}
use Rattle.std.proofs.Common.{sym, ◌∙◌, arith, leb-true, le-leb, ltb-true, lt-ltb, eqb-true, eq-eqb}
use Rattle.std.proofs.lemmas.Bool.{false≢true}
use Rattle.base.specs.Choice.{pick}

pub by_test {ℓ} : {P : Type ℓ} (b : Bool) → (b ≡ true → P) → (b ≡ false → P) → P
by_test true t f = t refl
by_test false t f = f refl

pub no : {P : Type 0} → false ≡ true → P
no e = absurd (false≢true e)

-- ---- both, one of two
pub and_l : (a b : Bool) → (a && b) ≡ true → a ≡ true
and_l true b e = refl
and_l false b e = e

pub and_r : (a b : Bool) → (a && b) ≡ true → b ≡ true
and_r true b e = e
and_r false b e = no e

pub both : (a b : Bool) → (a && b) ≡ true → (a ≡ true) × (b ≡ true)
both a b e = (and_l a b e, and_r a b e)

pub and_i : {a b : Bool} → a ≡ true → b ≡ true → (a && b) ≡ true
and_i e f = rw (e, f)

-- not both, and the second is: not the first
pub and_false_l : (a b : Bool) → (a && b) ≡ false → b ≡ true → a ≡ false
and_false_l true b e f = sym f ∙ e
and_false_l false b e f = refl

pub and_none : (a : Bool) → false ≡ (a && false)
and_none true = refl
and_none false = refl

pub or_l : (a b : Bool) → a ≡ true → (a || b) ≡ true
or_l a b e = rw e

pub or_r : (a b : Bool) → b ≡ true → (a || b) ≡ true
or_r true b e = refl
or_r false b e = e

pub or_elim {ℓ} : {P : Type ℓ} (a b : Bool) → (a || b) ≡ true → (a ≡ true → P) → (b ≡ true → P) → P
or_elim true b e f g = f refl
or_elim false b e f g = g e

-- neither
pub or_false_l : (a b : Bool) → (a || b) ≡ false → a ≡ false
or_false_l true b e = e
or_false_l false b e = refl

pub or_false_r : (a b : Bool) → (a || b) ≡ false → b ≡ false
or_false_r true b e = no (sym e)
or_false_r false b e = e

pub is_false : (b : Bool) → (b ≡ true → ⊥) → b ≡ false
is_false true h = absurd (h refl)
is_false false h = refl

pub bool_ext : (a b : Bool) → (a ≡ true → b ≡ true) → (b ≡ true → a ≡ true) → a ≡ b
bool_ext true b f g = sym (f refl)
bool_ext false true f g = g refl
bool_ext false false f g = refl

-- ---- numbers
pub eqb_same : (n : ℕ) → eqb n n ≡ true
eqb_same n = eq-eqb n n refl

pub eqb_sym : (m n : ℕ) → eqb m n ≡ eqb n m
eqb_sym m n = bool_ext (eqb m n) (eqb n m) (λ e. eq-eqb n m (sym (eqb-true m n e))) (λ e. eq-eqb m n (sym (eqb-true n m e)))

pub leb_add : (k m n : ℕ) → leb (m + k) (n + k) ≡ leb m n
leb_add k m n =
    bool_ext (leb (m + k) (n + k)) (leb m n) (λ e. let h : m + k ≤ n + k = leb-true (m + k) (n + k) e in le-leb m n (omega arith))
    (λ e. let h : m ≤ n = leb-true m n e in le-leb (m + k) (n + k) (omega arith))

pub ltb_add : (k m n : ℕ) → ltb (m + k) (n + k) ≡ ltb m n
ltb_add k m n =
    bool_ext (ltb (m + k) (n + k)) (ltb m n) (λ e. let h : m + k < n + k = ltb-true (m + k) (n + k) e in lt-ltb m n (omega arith))
    (λ e. let h : m < n = ltb-true m n e in lt-ltb (m + k) (n + k) (omega arith))

-- ---- a choice
pub pick_map : {A B : Type 0} (f : A → B) (b : Bool) (x y : A) → f (pick b x y) ≡ pick b (f x) (f y)
pick_map f true x y = refl
pick_map f false x y = refl

pub pick_same : {A : Type 0} (b : Bool) (x : A) → pick b x x ≡ x
pick_same true x = refl
pick_same false x = refl

pub pick_self : (b : Bool) → pick b true false ≡ b
pick_self true = refl
pick_self false = refl

-- it is not the first: the test fails, and it is the second
pub pick_second : {A : Type 0} (b : Bool) (x y z : A) → (x ≡ z → ⊥) → pick b x y ≡ z → (b ≡ false) × (y ≡ z)
pick_second true x y z h e = absurd (h e)
pick_second false x y z h e = (refl, e)

pub pick_elim : {A : Type 0} (P : A → Type 0) (b : Bool) (x y : A) → (b ≡ true → P x) → (b ≡ false → P y) → P (pick b x y)
pick_elim P true x y t f = t refl
pick_elim P false x y t f = f refl
