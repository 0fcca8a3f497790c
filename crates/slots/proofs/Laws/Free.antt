-- Which slot is found free: the lowest, where neither the asker's share is used up nor all slots; and none where either is. Assumes nothing.
use Rattle.std.specs.Prelude.{◌≡◌, refl, Bool, true, false, ◌&&◌, ◌⊎◌, ℕ, ◌≤◌, ◌<◌, Option, Some, None}
use Rattle.std.proofs.Common.{sym, ap, ◌∙◌, arith}
use Rattle.std.proofs.Math.Path.{subst}
use Rattle.std.proofs.Math.Logic.{inl, inr}
use Rattle.std.proofs.Math.Dec.{ltb}
use borrow.Author.Tests.{ltb-true, ltb-false, lt-ltb, le-ltb}
use Rattle.base.specs.Choice.{pick}
use Rattle.base.specs.Laws.Tests.{by_test, and_l, and_r, and_i}
use Rattle.slots.specs.Bits.{lowest_clear, number, held, free_for}
use Rattle.slots.specs.Told.{Typed, Free, Found}
use Rattle.slots.proofs.Laws.Lowest.{lowest_is, lowest_room}
use Rattle.slots.specs.declared.Used.{Used}
use Rattle.slots.proofs.Laws.Slots.{number_lt, held_le}

abbrev choice : Used → Bool → Option ℕ
choice u b = pick b (Some (lowest_clear (number u) 128)) None

-- one is found where neither the share is used up nor all slots, and none where either is
pub free_some : (may : ℕ) (u : Used) → held u < may → held u < 128 → free_for may u ≡ Some (lowest_clear (number u) 128)
unfolding free_for
free_some may u h l = ap (choice u) (and_i (lt-ltb (held u) may h) (lt-ltb (held u) 128 l))

pub free_none : (may : ℕ) (u : Used) → (may ≤ held u) ⊎ (128 ≤ held u) → free_for may u ≡ None
unfolding free_for
free_none may u (inl h) = rw (le-ltb (held u) may h)
free_none may u (inr h) =
    by_test (ltb (held u) may) (λ e. rw (e, le-ltb (held u) 128 h)) (λ e. rw e)

picked : (b : Bool) (x k : ℕ) → pick b (Some x) None ≡ Some k → (b ≡ true) × (x ≡ k)
picked true x k e = (refl, cc)
picked false x k e = cc

refused : (b : Bool) (x : ℕ) → pick b (Some x) None ≡ None → b ≡ false
refused true x e = cc
refused false x e = refl

module _ (u : Used) (t : Typed u) where
  pub free_at : (may k : ℕ) → free_for may u ≡ Some k → Free may u k
  unfolding free_for
  free_at may k e =
      let w = number u in
      let p = picked (ltb (held u) may && ltb (held u) 128) (lowest_clear w 128) k e in
      let share : held u < may = ltb-true (held u) may (and_l (ltb (held u) may) (ltb (held u) 128) p.0) in
      let room : held u < 128 = ltb-true (held u) 128 (and_r (ltb (held u) may) (ltb (held u) 128) p.0) in
      let is = lowest_is w 128 in
      let low : lowest_clear w 128 < 128 = lowest_room w 128 (number_lt u t) room in
      subst (λ (x : ℕ). Free may u x) p.1
      (record { below = low; clear = is.at low; lowest = is.below; share = share; room = room })

  pub free_full : (may : ℕ) → free_for may u ≡ None → (may ≤ held u) ⊎ (held u ≡ 128)
  unfolding free_for
  free_full may e =
      let f = refused (ltb (held u) may && ltb (held u) 128) (lowest_clear (number u) 128) e in
      by_test (ltb (held u) may)
      (λ g. inr (omega (arith, held_le u t, ltb-false (held u) 128 (rw g at f))))
      (λ g. inl (ltb-false (held u) may g))

  pub found : (may : ℕ) (r : Option ℕ) → r ≡ free_for may u → Found may u r
  found may r e = record { some = λ k f. free_at may k (sym e ∙ f); full = λ f. free_full may (sym e ∙ f) }
