-- One turn of the sweep: the next entry goes, or moves down behind those that stay. Assumes nothing.
use mathlib.Core.Path.{◌≡◌, refl, sym, ap, ap₂, ◌∙◌}
use mathlib.Core.Bool.{true, false, not}
use mathlib.Core.List.{List, [], ◌∷◌, ◌++◌, append-nil}
use Prim.Native.Nat.{ℕ, ◌+◌, ◌<◌, ◌≤◌}
use native.Mathlib.Nat.{suc_inj}
use native.Mathlib.Numerals.{add-one}
use native.Mathlib.Omega.{arith}
use lib.Dec.{eqb}
use lib.ListN.{length, take, get_or, set, length-append}
use lib.Seq.{take-suc, length-take-le}
use borrow.Author.Tests.{eq-eqb, ne_eqb}
use Rattle.base.specs.Choice.{pick}
use Rattle.base.specs.Lists.{over}
use Rattle.base.specs.Laws.Tests.{by_test}
use Rattle.base.specs.Laws.Keep.{keep_append, length_keep}
use Rattle.base.specs.Laws.Over.{over_set, over_read}
use Rattle.slots.specs.Bits.{cleared}
use Rattle.slots.specs.declared.Used.{Used}
use Rattle.queue_rows.specs.Table.{slots_of}
use Rattle.queue_rows.specs.Delete.{others_than, slots_but, clear_all}
use Rattle.queue_rows.specs.Laws.From.{slots_snoc}
use Rattle.queue_rows.specs.Laws.DeleteLists.{but_long}
use Rattle.queue_ops.specs.Sweep.{Swept}

-- ---- one entry more

module _ (n : ℕ) where
  but_snoc : (os ss : List ℕ) (o s : ℕ) → length os ≡ length ss
      → slots_but n (os ++ (o ∷ [])) (ss ++ (s ∷ [])) ≡ slots_but n os ss ++ pick (eqb o n) [] (s ∷ [])
  but_snoc [] [] o s l = refl
  but_snoc [] (t ∷ ss) o s l = absurd (omega arith)
  but_snoc (p ∷ os) [] o s l = absurd (omega arith)
  but_snoc (p ∷ os) (t ∷ ss) o s l =
      let r = but_snoc os ss o s (suc_inj l) in
      by_test (eqb p n) (λ e. rw (e, r)) (λ e. rw (e, r))

clear_all_snoc : (u : Used) (l : List ℕ) (s : ℕ) → clear_all u (l ++ (s ∷ [])) ≡ cleared (clear_all u l) s
clear_all_snoc u [] s = refl
clear_all_snoc u (t ∷ l) s = clear_all_snoc (cleared u t) l s

module _ (n : ℕ) (owner slot : List ℕ) (u : Used) where
  module _ (i : ℕ) (h : i < length owner) (g : i < length slot) where
    abbrev os : List ℕ
    os = take i owner

    abbrev ss : List ℕ
    ss = take i slot

    abbrev o : ℕ
    o = get_or owner i 0

    abbrev s : ℕ
    s = get_or slot i 0

    abbrev kept : List ℕ
    kept = others_than n os

    abbrev kept_slots : List ℕ
    kept_slots = slots_but n os ss

    more_owners : take (i + 1) owner ≡ os ++ (o ∷ [])
    more_owners = ap (λ (m : ℕ). take m owner) (add-one i) ∙ take-suc owner i 0 (omega arith)

    more_slots : take (i + 1) slot ≡ ss ++ (s ∷ [])
    more_slots = ap (λ (m : ℕ). take m slot) (add-one i) ∙ take-suc slot i 0 (omega arith)

    as_long : length os ≡ length ss
    as_long = length-take-le i owner (omega arith) ∙ sym (length-take-le i slot (omega arith))

    kept_le : length kept ≤ i
    kept_le = omega (arith, length_keep (λ m. not (eqb m n)) os, length-take-le i owner (omega arith))

    slots_kept : length kept_slots ≡ length kept
    slots_kept = but_long n os ss as_long

    turn_others : others_than n (take (i + 1) owner) ≡ kept ++ others_than n (o ∷ [])
    turn_others = ap (others_than n) more_owners ∙ keep_append (λ m. not (eqb m n)) os (o ∷ [])

    turn_but : slots_but n (take (i + 1) owner) (take (i + 1) slot) ≡ kept_slots ++ pick (eqb o n) [] (s ∷ [])
    turn_but = ap₂ (slots_but n) more_owners more_slots ∙ but_snoc n os ss o s as_long

    turn_slots : slots_of n (take (i + 1) owner) (take (i + 1) slot) ≡ slots_of n os ss ++ pick (eqb o n) (s ∷ []) []
    turn_slots = ap₂ (slots_of n) more_owners more_slots ∙ slots_snoc n os ss o s as_long

    -- ---- of entries that are swept so far
    module _ (v : Used) (j : ℕ) (x y : List ℕ) (w : Swept n owner slot u i v j x y) where
      -- what is read at i is what stood there
      at_owner : get_or x i 0 ≡ o
      at_owner = ap (λ (r : List ℕ). get_or r i 0) w.owners ∙ over_read kept owner i 0 kept_le

      at_slot : get_or y i 0 ≡ s
      at_slot = ap (λ (r : List ℕ). get_or r i 0) w.slots ∙ over_read kept_slots slot i 0 (omega (arith, kept_le, slots_kept))

      -- an entry of n's: its slot is free
      pub turn_hit : get_or x i 0 ≡ n → Swept n owner slot u (i + 1) (cleared v (get_or y i 0)) j x y
      turn_hit f =
          let e : eqb o n ≡ true = eq-eqb o n (sym at_owner ∙ f) in
          let others : others_than n (take (i + 1) owner) ≡ kept = turn_others ∙ rw e (append-nil kept) in
          let but : slots_but n (take (i + 1) owner) (take (i + 1) slot) ≡ kept_slots = turn_but ∙ rw e (append-nil kept_slots) in
          let freed : slots_of n (take (i + 1) owner) (take (i + 1) slot) ≡ slots_of n os ss ++ (s ∷ []) = turn_slots ∙ rw e in
          record {
            used = cc (w.used, at_slot, freed, clear_all_snoc u (slots_of n os ss) s);
            kept = w.kept ∙ ap length (sym others);
            owners = cc (w.owners, others);
            slots = cc (w.slots, but);
          }

      -- another's: it moves down
      pub turn_miss : (get_or x i 0 ≡ n → ⊥) → Swept n owner slot u (i + 1) v (j + 1) (set x j (get_or x i 0)) (set y j (get_or y i 0))
      turn_miss f =
          let e : eqb o n ≡ false = ne_eqb o n (λ x. f (at_owner ∙ x)) in
          let others : others_than n (take (i + 1) owner) ≡ kept ++ (o ∷ []) = turn_others ∙ rw e in
          let but : slots_but n (take (i + 1) owner) (take (i + 1) slot) ≡ kept_slots ++ (s ∷ []) = turn_but ∙ rw e in
          let freed : slots_of n (take (i + 1) owner) (take (i + 1) slot) ≡ slots_of n os ss = turn_slots ∙ rw e (append-nil (slots_of n os ss)) in
          let one : set (over kept owner) (length kept) o ≡ over (kept ++ (o ∷ [])) owner = over_set kept owner o (omega (arith, kept_le)) in
          let two : set (over kept_slots slot) (length kept_slots) s ≡ over (kept_slots ++ (s ∷ [])) slot =
          over_set kept_slots slot s (omega (arith, kept_le, slots_kept)) in
          record {
            used = w.used ∙ ap (clear_all u) (sym freed);
            kept = omega (arith, w.kept, ap length others, length-append kept (o ∷ []));
            owners = cc (w.owners, w.kept, at_owner, one, others);
            slots = cc (w.slots, w.kept, slots_kept, at_slot, two, but);
          }

-- the same of what is equal
pub swept_as : {n : ℕ} {owner slot : List ℕ} {u : Used} {i : ℕ} {v v' : Used} {j j' : ℕ} {x x' y y' : List ℕ}
    → v ≡ v' → j ≡ j' → x ≡ x' → y ≡ y' → Swept n owner slot u i v' j' x' y' → Swept n owner slot u i v j x y
swept_as e f g h w = record { used = e ∙ w.used; kept = f ∙ w.kept; owners = g ∙ w.owners; slots = h ∙ w.slots }

pub swept_in : {n : ℕ} {owner owner' slot slot' : List ℕ} {u : Used} {i i' : ℕ} {v : Used} {j : ℕ} {x y : List ℕ}
    → owner ≡ owner' → slot ≡ slot' → i ≡ i' → Swept n owner slot u i v j x y → Swept n owner' slot' u i' v j x y
swept_in e f g w = rw (← e, ← f, ← g) w
