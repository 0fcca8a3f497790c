-- One turn of the sweep: the next entry goes, or moves down behind those that stay. Assumes nothing.
use mathlib.Core.Path.{◌≡◌, refl, sym, ap, ap₂, ◌∙◌}
use mathlib.Core.Bool.{true, false, not}
use mathlib.Core.List.{List, [], ◌∷◌, ◌++◌, append-nil}
use Prim.Native.Nat.{ℕ, ◌+◌, ◌-◌, ◌<◌, ◌≤◌}
use native.Mathlib.Nat.{suc_inj}
use native.Mathlib.Numerals.{add-one}
use native.Mathlib.Omega.{arith}
use lib.Dec.{eqb}
use lib.ListN.{length, take, get_or, set, length-append}
use lib.Seq.{take-suc, length-take-le}
use borrow.Author.Tests.{eq-eqb, ne_eqb}
use Rattle.base.specs.Choice.{pick}
use Rattle.base.specs.Lists.{copies, over}
use Rattle.base.specs.Laws.Tests.{by_test}
use Rattle.base.specs.Laws.Keep.{keep_append, length_keep}
use Rattle.base.specs.Laws.Over.{over_set, over_read}
use Rattle.slots.specs.Bits.{cleared}
use Rattle.slots.specs.declared.Used.{Used}
use Rattle.queues.specs.declared.Queues.{Queues}
use Rattle.queues.specs.Table.{slots_of, entries, owners}
use Rattle.queues.specs.Laws.From.{slots_snoc}
use Rattle.queues.specs.Laws.DeleteLists.{others_long, but_long}
use Rattle.queues.specs.Delete.{others_than, slots_but, clear_all, emptied}

-- ---- one entry more

module _ (n : ℕ) where
  pub but_snoc : (os ss : List ℕ) (o s : ℕ) → length os ≡ length ss
      → slots_but n (os ++ (o ∷ [])) (ss ++ (s ∷ [])) ≡ slots_but n os ss ++ pick (eqb o n) [] (s ∷ [])
  but_snoc [] [] o s l = refl
  but_snoc [] (t ∷ ss) o s l = absurd (omega arith)
  but_snoc (p ∷ os) [] o s l = absurd (omega arith)
  but_snoc (p ∷ os) (t ∷ ss) o s l =
      let r = but_snoc os ss o s (suc_inj l) in
      by_test (eqb p n) (λ e. rw (e, r)) (λ e. rw (e, r))

pub clear_all_snoc : (u : Used) (l : List ℕ) (s : ℕ) → clear_all u (l ++ (s ∷ [])) ≡ cleared (clear_all u l) s
clear_all_snoc u [] s = refl
clear_all_snoc u (t ∷ l) s = clear_all_snoc (cleared u t) l s

-- ---- the struct after i entries

unfoldable pub swept_to : Queues → ℕ → ℕ → Queues
swept_to q n i = record {
  count = q.count;
  names = q.names;
  pointers = q.pointers;
  used = clear_all q.used (slots_of n (take i q.owner) (take i q.slot));
  owner = over (others_than n (take i q.owner)) q.owner;
  slot = over (slots_but n (take i q.owner) (take i q.slot)) q.slot;
  len = q.len;
}

pub swept_none : (q : Queues) (n : ℕ) → swept_to q n 0 ≡ q
unfolding swept_to
swept_none q n = refl

pub swept_all : (q : Queues) (n j k : ℕ) (t : Queues) → entries q ≤ length q.owner → t ≡ swept_to q n (entries q)
    → j ≡ length (others_than n (owners q)) → k ≡ entries q - j → (t ≡ emptied q n) × (k ≡ copies n (owners q))
unfolding swept_to emptied
swept_all q n j k t h e f g =
    (e, omega (arith, others_long n (owners q), length-take-le (entries q) q.owner h))

-- ---- one turn

module _ (q : Queues) (n i : ℕ) (ho : i < length q.owner) (hs : i < length q.slot) where
  abbrev os : List ℕ
  os = take i q.owner

  abbrev ss : List ℕ
  ss = take i q.slot

  abbrev o : ℕ
  o = get_or q.owner i 0

  abbrev s : ℕ
  s = get_or q.slot i 0

  abbrev kept : List ℕ
  kept = others_than n os

  abbrev kept_slots : List ℕ
  kept_slots = slots_but n os ss

  more_owners : take (i + 1) q.owner ≡ os ++ (o ∷ [])
  more_owners = ap (λ (m : ℕ). take m q.owner) (add-one i) ∙ take-suc q.owner i 0 ho

  more_slots : take (i + 1) q.slot ≡ ss ++ (s ∷ [])
  more_slots = ap (λ (m : ℕ). take m q.slot) (add-one i) ∙ take-suc q.slot i 0 hs

  as_long : length os ≡ length ss
  as_long = length-take-le i q.owner (omega arith) ∙ sym (length-take-le i q.slot (omega arith))

  kept_le : length kept ≤ i
  kept_le = omega (arith, length_keep (λ m. not (eqb m n)) os, length-take-le i q.owner (omega arith))

  turn_others : others_than n (take (i + 1) q.owner) ≡ kept ++ others_than n (o ∷ [])
  turn_others = ap (others_than n) more_owners ∙ keep_append (λ m. not (eqb m n)) os (o ∷ [])

  turn_but : slots_but n (take (i + 1) q.owner) (take (i + 1) q.slot) ≡ kept_slots ++ pick (eqb o n) [] (s ∷ [])
  turn_but = ap₂ (slots_but n) more_owners more_slots ∙ but_snoc n os ss o s as_long

  turn_slots : slots_of n (take (i + 1) q.owner) (take (i + 1) q.slot) ≡ slots_of n os ss ++ pick (eqb o n) (s ∷ []) []
  turn_slots = ap₂ (slots_of n) more_owners more_slots ∙ slots_snoc n os ss o s as_long

  -- what is read at i is what stood there
  read_owner : get_or (swept_to q n i).owner i 0 ≡ o
  unfolding swept_to
  read_owner = over_read kept q.owner i 0 kept_le

  read_slot : get_or (swept_to q n i).slot i 0 ≡ s
  unfolding swept_to
  read_slot = over_read kept_slots q.slot i 0 (omega (arith, kept_le, but_long n os ss as_long))

  abbrev freed : Queues → ℕ → Queues
  freed t k = record {
    count = t.count;
    names = t.names;
    pointers = t.pointers;
    used = cleared t.used k;
    owner = t.owner;
    slot = t.slot;
    len = t.len;
  }

  abbrev moved : Queues → ℕ → ℕ → ℕ → Queues
  moved t j x y = record {
    count = t.count;
    names = t.names;
    pointers = t.pointers;
    used = t.used;
    owner = set t.owner j x;
    slot = set t.slot j y;
    len = t.len;
  }

  -- an entry of n's: its slot is free
  module _ (e : eqb o n ≡ true) where
    hit_others : others_than n (take (i + 1) q.owner) ≡ kept
    hit_others = turn_others ∙ rw e (append-nil kept)

    hit_but : slots_but n (take (i + 1) q.owner) (take (i + 1) q.slot) ≡ kept_slots
    hit_but = turn_but ∙ rw e (append-nil kept_slots)

    hit_slots : slots_of n (take (i + 1) q.owner) (take (i + 1) q.slot) ≡ slots_of n os ss ++ (s ∷ [])
    hit_slots = turn_slots ∙ rw e

    hit : freed (swept_to q n i) s ≡ swept_to q n (i + 1)
    unfolding swept_to
    hit = cc (hit_others, hit_but, hit_slots, clear_all_snoc q.used (slots_of n os ss) s)

  -- another's: it moves down
  module _ (e : eqb o n ≡ false) where
    miss_others : others_than n (take (i + 1) q.owner) ≡ kept ++ (o ∷ [])
    miss_others = turn_others ∙ rw e

    miss_but : slots_but n (take (i + 1) q.owner) (take (i + 1) q.slot) ≡ kept_slots ++ (s ∷ [])
    miss_but = turn_but ∙ rw e

    miss_slots : slots_of n (take (i + 1) q.owner) (take (i + 1) q.slot) ≡ slots_of n os ss
    miss_slots = turn_slots ∙ rw e (append-nil (slots_of n os ss))

    miss : moved (swept_to q n i) (length kept) o s ≡ swept_to q n (i + 1)
    unfolding swept_to
    miss =
        let l : length kept_slots ≡ length kept = but_long n os ss as_long in
        cc (miss_others, miss_but, miss_slots, l, over_set kept q.owner o (omega (arith, kept_le)), over_set kept_slots q.slot s (omega (arith, kept_le)))

  -- ---- the same, of a struct t that is swept so far
  module _ (t : Queues) (j : ℕ) (e : t ≡ swept_to q n i) (g : j ≡ length kept) where
    at_owner : get_or t.owner i 0 ≡ o
    at_owner = ap (λ (x : Queues). get_or x.owner i 0) e ∙ read_owner

    at_slot : get_or t.slot i 0 ≡ s
    at_slot = ap (λ (x : Queues). get_or x.slot i 0) e ∙ read_slot

    pub turn_hit : get_or t.owner i 0 ≡ n
        → (freed t (get_or t.slot i 0) ≡ swept_to q n (i + 1)) × (j ≡ length (others_than n (take (i + 1) q.owner)))
    turn_hit f =
        let h : eqb o n ≡ true = eq-eqb o n (sym at_owner ∙ f) in
        (ap₂ freed e at_slot ∙ hit h, g ∙ ap length (sym (hit_others h)))

    pub turn_miss : (get_or t.owner i 0 ≡ n → ⊥)
        → (moved t j (get_or t.owner i 0) (get_or t.slot i 0) ≡ swept_to q n (i + 1)) × (j + 1 ≡ length (others_than n (take (i + 1) q.owner)))
    turn_miss f =
        let h : eqb o n ≡ false = ne_eqb o n (λ x. f (at_owner ∙ x)) in
        let m : moved t j (get_or t.owner i 0) (get_or t.slot i 0) ≡ moved (swept_to q n i) (length kept) o s = cc (e, g, at_owner, at_slot) in
        (m ∙ miss h, omega (arith, ap length (miss_others h), length-append kept (o ∷ [])))
