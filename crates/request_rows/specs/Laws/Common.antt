-- General laws of lists: a test that all pass, where one is cut out, one is put behind, or some are stored in a part; and numbers
-- one after another. Assumes nothing.
use Rattle.std.specs.Prelude.{ℕ, zero, suc, ◌+◌, ◌<◌, ◌≤◌, ◌≡◌, refl, Bool, true, false, not, ◌&&◌, ◌||◌, leb, ltb, take, drop}
use Rattle.std.proofs.Common.{sym, ap, ◌∙◌, arith, length-append, length-take, length-drop, lt-ltb, ne_eqb}
use mathlib.Core.List.{List, [], ◌∷◌, ◌++◌}
use Rattle.std.proofs.Math.ListN.{length}
use Rattle.std.proofs.Math.Seq.{paste}
use Rattle.base.specs.Lists.{any, all, has, once, cut_at}
use Rattle.base.specs.Bytes.{is_byte, is_bytes, stored}
use Rattle.base.specs.Laws.Tests.{by_test, and_i, or_r, pick_elim}
use Rattle.base.specs.Laws.Keep.{all_append, all_drop, all_take}

module _ {A : Type 0} (p : A → Bool) where
  pub all_cut : (i : ℕ) (l : List A) → all p l ≡ true → all p (cut_at i l) ≡ true
  all_cut i l h = all_append p (take i l) (drop (suc i) l) ∙ and_i (all_take p i l h) (all_drop p (suc i) l h)

  pub all_snoc : (l : List A) (x : A) → all p l ≡ true → p x ≡ true → all p (l ++ (x ∷ [])) ≡ true
  all_snoc l x h e = all_append p l (x ∷ []) ∙ and_i h (and_i e refl)

  pub all_paste : (d : List A) (at : ℕ) (s : List A) (n : ℕ) → all p d ≡ true → all p s ≡ true → all p (paste d at s n) ≡ true
  all_paste d at s n h e =
      all_append p (take at d ++ take n s) (drop (at + n) d)
      ∙ and_i (all_append p (take at d) (take n s) ∙ and_i (all_take p at d h) (all_take p n s e)) (all_drop p (at + n) d h)

-- one of two tests
pub any_or : {A : Type 0} (p q : A → Bool) (l : List A) → any (λ x. p x || q x) l ≡ (any p l || any q l)
any_or p q [] = refl
any_or p q (x ∷ l) =
    by_test (p x) (λ e. rw e)
    (λ e. by_test (q x) (λ f. rw (e, f) (sym (or_r (any p l) true refl))) (λ f. rw (e, f) (any_or p q l)))

pub any_and : {A : Type 0} (b : Bool) (p : A → Bool) (l : List A) → any (λ x. b && p x) l ≡ (b && any p l)
any_and true p l = refl
any_and false p [] = refl
any_and false p (x ∷ l) = any_and false p l

pub cut_few : {A : Type 0} (i : ℕ) (l : List A) → length (cut_at i l) ≤ length l
cut_few i l = simp (length-append, length-take, length-drop) (omega arith)

-- ---- bytes that are stored

module _ (d : List ℕ) (at : ℕ) (s : List ℕ) where
  pub bytes_stored : is_bytes d ≡ true → is_bytes s ≡ true → is_bytes (stored d at s) ≡ true
  unfolding stored
  bytes_stored h e =
      pick_elim (λ (r : List ℕ). is_bytes r ≡ true) (leb (at + length s) (length d)) (paste d at s (length s)) d
      (λ _. all_paste is_byte d at s (length s) h e) (λ _. h)

-- ---- numbers one after another

abbrev pub up_from : ℕ → ℕ → List ℕ
up_from k zero = []
up_from k (suc n) = k ∷ up_from (suc k) n

up_later : (m k n : ℕ) → m < k → has m (up_from k n) ≡ false
up_later m k zero h = refl
up_later m k (suc n) h = rw (ne_eqb k m (λ e. omega arith)) (up_later m (suc k) n (omega arith))

pub up_once : (k n : ℕ) → once (up_from k n) ≡ true
up_once k zero = refl
up_once k (suc n) = and_i (ap not (up_later k (suc k) n (omega arith))) (up_once (suc k) n)

pub up_below : (most k n : ℕ) → k + n ≤ most → all (λ i. ltb i most) (up_from k n) ≡ true
up_below most k zero h = refl
up_below most k (suc n) h = and_i (lt-ltb k most (omega arith)) (up_below most (suc k) n (omega arith))
