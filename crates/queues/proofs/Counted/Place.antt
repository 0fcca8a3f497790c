-- The search for a queue's item at a place, one entry a turn, and the slot at a place as a number, 128 where there is none: the code has an Option and
-- the library's methods now, and nothing but the laws beside it cites these. Assumes nothing.
use Rattle.std.specs.Prelude.{◌≡◌, refl, false, ◌||◌, List, ℕ, suc, ◌+◌, ◌-◌, ◌<◌, ◌≤◌, eqb, leb, ltb, take, drop, get_or, Option, Some, None}
use Rattle.std.proofs.Common.{sym, ap, ◌∙◌, arith}
use Rattle.std.proofs.Math.Bool.{true}
use Rattle.std.proofs.Math.ListN.{length, get_or-eq_default}
use Rattle.std.proofs.lemmas.Option.{slice_get_past, slice_get-get_or}
use borrow.Author.Tests.{eq-eqb, ne_eqb, eqb-false, le-ltb, lt-ltb, ltb-true, ltb-false, le-leb, lt-leb, leb-true}
use Rattle.base.specs.Choice.{pick}
use Rattle.base.specs.Lists.{all}
use Rattle.base.specs.Laws.Tests.{by_test, and_l, and_r}
use Rattle.base.specs.Laws.Keep.{all_get_d}
use Rattle.base.specs.Laws.Scans.{left_cons, left_end}
use Rattle.queues.specs.declared.Queues.{Queues}
use Rattle.queues.specs.Table.{slots_of, slots_in}
use Rattle.queues.specs.Place.{has_item, slot_at as slot_option}
use Rattle.queues.specs.Laws.Place as now

module _ (os ss : List ℕ) (n m : ℕ) (ho : n ≤ length os) (hs : n ≤ length ss) (i k : ℕ) where
  -- the slot behind k others, from entry i on
  abbrev pub seek : ℕ
  seek = get_or (slots_of m (drop i (take n os)) (drop i (take n ss))) k 128

  pub seek_end : n ≤ i → seek ≡ 128
  seek_end h = rw (left_end os n i (omega arith))

  module _ (h : i < n) where
    pub seek_here : get_or os i 0 ≡ m → k ≡ 0 → seek ≡ get_or ss i 0
    seek_here e z =
        rw (z, left_cons os n i 0 h (omega arith), left_cons ss n i 0 h (omega arith), eq-eqb (get_or os i 0) m e)

    pub seek_miss : (get_or os i 0 ≡ m → ⊥) → get_or (slots_of m (drop (i + 1) (take n os)) (drop (i + 1) (take n ss))) k 128 ≡ seek
    seek_miss d = rw (left_cons os n i 0 h (omega arith), left_cons ss n i 0 h (omega arith), ne_eqb (get_or os i 0) m d)

  pub seek_past : i < n → get_or os i 0 ≡ m → (k ≡ 0 → ⊥)
      → get_or (slots_of m (drop (i + 1) (take n os)) (drop (i + 1) (take n ss))) (k - 1) 128 ≡ seek
  seek_past h e d =
      let p : k ≡ suc (k - 1) = omega arith in
      let s : seek ≡ get_or (slots_of m (drop i (take n os)) (drop i (take n ss))) (suc (k - 1)) 128 =
      ap (λ (x : ℕ). get_or (slots_of m (drop i (take n os)) (drop i (take n ss))) x 128) p in
      sym (s ∙ (rw (left_cons os n i 0 h (omega arith), left_cons ss n i 0 h (omega arith), eq-eqb (get_or os i 0) m e)))

-- ---- the slot at a place, as a number

-- the slot at a place, from 1, of a queue's slots; 128 where it has none
unfoldable pub slot_at : List ℕ → List ℕ → ℕ → ℕ
slot_at len ss p = pick (eqb p 0) 128 (pick (has_item len (get_or ss (p - 1) 128)) (get_or ss (p - 1) 128) 128)

abbrev pub slot_in : Queues → ℕ → ℕ → ℕ
slot_in q n p = slot_at q.len (slots_in q n) p

-- n is how many entries there are
pub counted : (os ss : List ℕ) (n h m i s : ℕ) → n ≡ h → s ≡ get_or (slots_of m (take n os) (take n ss)) i 128
    → s ≡ get_or (slots_of m (take h os) (take h ss)) i 128
counted os ss n h m i s e f = rw e at f

module _ (len ss : List ℕ) (p s : ℕ) where
  pub at_zero : p ≡ 0 → 128 ≡ slot_at len ss p
  unfolding slot_at
  at_zero z = rw (eq-eqb p 0 z)

  module _ (d : p ≡ 0 → ⊥) (is : s ≡ get_or ss (p - 1) 128) where
    pub at_past : 128 ≤ s → 128 ≡ slot_at len ss p
    unfolding slot_at
    at_past h = rw (ne_eqb p 0 d, ← is, le-ltb s 128 h)

    pub at_long : s < 128 → 64 < get_or len s 0 → 128 ≡ slot_at len ss p
    unfolding slot_at
    at_long h l = rw (ne_eqb p 0 d, ← is, lt-ltb s 128 h, lt-leb (get_or len s 0) 64 l)

    pub at_slot : s < 128 → get_or len s 0 ≤ 64 → s ≡ slot_at len ss p
    unfolding slot_at
    at_slot h l = rw (ne_eqb p 0 d, ← is, lt-ltb s 128 h, le-leb (get_or len s 0) 64 l)

-- where a slot is found, the place is one of the queue's, and the slot is the one there
pub record At (len ss : List ℕ) (p : ℕ) : Type 0 where
  pub from : 1 ≤ p
  pub to : p ≤ length ss
  pub is : slot_at len ss p ≡ get_or ss (p - 1) 128
  pub short : get_or len (slot_at len ss p) 0 ≤ 64

module _ (len ss : List ℕ) (p : ℕ) where
  abbrev slot : ℕ
  slot = get_or ss (p - 1) 128

  slot_in_lem : slot < 128 → p - 1 < length ss
  slot_in_lem h =
      by_test (ltb (p - 1) (length ss)) (ltb-true (p - 1) (length ss))
      (λ e.
      let z : slot ≡ 128 = get_or-eq_default ss 128 (ltb-false (p - 1) (length ss) e) in
      absurd (omega arith))

  found : eqb p 0 ≡ false → has_item len slot ≡ true → slot_at len ss p ≡ slot → At len ss p
  found e f is =
      let h : slot < 128 = ltb-true slot 128 (and_l (ltb slot 128) (leb (get_or len slot 0) 64) f) in
      let l : get_or len slot 0 ≤ 64 = leb-true (get_or len slot 0) 64 (and_r (ltb slot 128) (leb (get_or len slot 0) 64) f) in
      let d : p ≡ 0 → ⊥ = eqb-false p 0 e in
      let b = slot_in_lem h in
      let some : 1 ≤ p = omega arith in
      record { from = some; to = omega arith; is = is; short = rw is l }

  pub at_found : slot_at len ss p < 128 → At len ss p
  unfolding slot_at
  at_found h =
      by_test (eqb p 0) (λ e. let g : 128 < 128 = rw e at h in absurd (omega arith))
      (λ e.
      by_test (has_item len slot) (λ f. found e f (rw (e, f)))
      (λ f. let g : 128 < 128 = rw (e, f) at h in absurd (omega arith)))

  -- where every slot has an item, a place has none exactly if it is not the queue's
  pub at_none : all (has_item len) ss ≡ true → leb 128 (slot_at len ss p) ≡ (eqb p 0 || ltb (length ss) p)
  unfolding slot_at
  at_none h =
      by_test (eqb p 0) (λ e. rw e)
      (λ e.
      let d : p ≡ 0 → ⊥ = eqb-false p 0 e in
      by_test (ltb (length ss) p)
      (λ f.
      let past : length ss ≤ p - 1 = omega (arith, ltb-true (length ss) p f) in
      rw (e, f, get_or-eq_default ss 128 past))
      (λ f.
      let l : p ≤ length ss = ltb-false (length ss) p f in
      let g : has_item len slot ≡ true = all_get_d (has_item len) ss (p - 1) 128 h (omega arith) in
      rw (e, f, g) (lt-leb 128 slot (ltb-true slot 128 (and_l (ltb slot 128) (leb (get_or len slot 0) 64) g)))))

-- ---- the slot at a place, as an Option

abbrev pub as_number : Option ℕ → ℕ
as_number None = 128
as_number (Some s) = s

module _ (len ss : List ℕ) (p : ℕ) where
  -- the number says what the Option says
  pub counts : slot_at len ss p ≡ as_number (slot_option len ss p)
  unfolding slot_at slot_option
  counts =
      by_test (eqb p 0) (λ e. rw e)
      (λ e.
      by_test (ltb (p - 1) (length ss))
      (λ f.
      let inside : p - 1 < length ss = ltb-true (p - 1) (length ss) f in
      by_test (has_item len (get_or ss (p - 1) 128))
      (λ g. rw (e, slice_get-get_or ss (p - 1) 128 inside, g))
      (λ g. rw (e, slice_get-get_or ss (p - 1) 128 inside, g)))
      (λ f.
      let past : length ss ≤ p - 1 = ltb-false (p - 1) (length ss) f in
      rw (e, get_or-eq_default ss 128 past, slice_get_past ss (p - 1) past)))

  pub number_some : (s : ℕ) → slot_option len ss p ≡ Some s → slot_at len ss p ≡ s
  number_some s e = counts ∙ ap as_number e

  pub number_none : slot_option len ss p ≡ None → slot_at len ss p ≡ 128
  number_none e = counts ∙ ap as_number e

  pub option_some : slot_at len ss p < 128 → slot_option len ss p ≡ Some (slot_at len ss p)
  option_some h = of (slot_option len ss p) refl
    where
      of : (x : Option ℕ) → slot_option len ss p ≡ x → slot_option len ss p ≡ Some (slot_at len ss p)
      of None e = absurd (omega (arith, number_none e, h))
      of (Some s) e = e ∙ ap (λ (k : ℕ). Some k) (sym (number_some s e))

  pub option_none : 128 ≤ slot_at len ss p → slot_option len ss p ≡ None
  option_none h = of (slot_option len ss p) refl
    where
      of : (x : Option ℕ) → slot_option len ss p ≡ x → slot_option len ss p ≡ None
      of None e = e
      of (Some s) e = absurd (omega (arith, number_some s e, (now.at_found len ss p s e).below, h))
