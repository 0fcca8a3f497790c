-- Starting is what the model does: the due tick, reckoned on the circle, stands for the clock plus the interval, and the data lie in a slot that is
-- no other's. Assumes nothing.
use Prim.Native.Nat.{ℕ, zero, suc, ◌+◌, ◌*◌, ◌^◌, ◌<◌, ◌≤◌, min}
use Rattle.std.specs.Prelude.{◌≡◌, Bool, true, false, not, ◌||◌, ◌⊎◌, eqb, ltb, leb, length, take, drop}
use Rattle.std.proofs.Math.Path.{refl, ap, ap₂}
use Rattle.std.proofs.Common.{sym, ◌∙◌, inl, inr, arith, length-append, ltb-true, ltb-false, lt-ltb, le-leb, ne_eqb}
use mathlib.Core.List.{List, [], ◌∷◌, ◌++◌, map, map-append}
use Rattle.std.proofs.Math.Arith.{lt_of_le-ne}
use Rattle.std.proofs.lemmas.Bool.{eqb-false, not-true, not-false}
use Rattle.base.specs.Lists.{any, has}
use Rattle.base.specs.Bytes.{blank, is_bytes, stored}
use Rattle.base.specs.Laws.Tests.{by_test, and_l, and_r, or_false_r}
use Rattle.base.specs.Laws.Keep.{all_none}
use Rattle.base.specs.Laws.Maps.{map_all_same}
use Rattle.base.specs.Laws.Counting.{has_map}
use Rattle.base.specs.Laws.Over.{take_over}
use Rattle.base.specs.Laws.Stored.{length_stored}
use Rattle.model.specs.Plans.{Check, check, done, outcome_in, Follows, invalid_request, wrong_length, unknown_program, unknown_terminal, not_unique, no_space}
use Rattle.model.specs.Interval as model
use Rattle.model.specs.Laws.PlanLaws.{Clear}
use Rattle.model.proofs.Laws.SoundStart.{start_sound}
use Rattle.names.specs.Names.{names_in}
use Rattle.request_rows.specs.Rows.{Row, phase_of, program_of, terminal_of, len_of, slot_of, data_of, named}
use Rattle.request_rows.specs.Table.{register_of, live, with_live, slots_in, spaces}
use Rattle.request_rows.specs.Start.{kept, begun_at, free_slot, room_in, new_row, begin, start_in}
use Rattle.request_rows.specs.Stands.{Memory, with_kept, limits_of, phase_at, request_at, interval_at, Fine}
use Rattle.request_rows.specs.Laws.Circle.{to_go_after, after_lt}
use Rattle.request_rows.specs.Laws.Ties.{small, Stays, checks_follow}
use Rattle.request_rows.specs.Laws.Standing.{OnCircle, phase_again, known_at, count_at, laid_longer, live_stays, area_stays}
use Rattle.request_rows.specs.Laws.Stored.{stored_there, stored_apart}
use Rattle.request_rows.specs.Laws.Slots.{slot_free, room_at}

-- ---- the new phase

begun_circle : (r i : ℕ) → OnCircle (begun_at r i)
unfolding begun_at
begun_circle r i = by_test (eqb i 0) (λ e. rw e tt) (λ e. rw e (after_lt r i))

begun_at_lem : (c r i : ℕ) → r < 2 ^ 32 → i < 2 ^ 32 → phase_at c r (begun_at r i) ≡ model.begun c i
unfolding begun_at
begun_at_lem c r zero hr hi = refl
begun_at_lem c r (suc i) hr hi =
    rw (ne_eqb (suc i) 0 (λ e. omega arith)) (ap (λ (k : ℕ). model.Waiting (c + k)) (to_go_after r (suc i) hr hi))

-- ---- the new row, and its data in slot k

module _ (r k : ℕ) (a : model.Asked) (low : k < 128) (fits : length a.bytes ≤ 64) where
  new_program : a.terminal < 2 ^ 32 → program_of (new_row r k a) ≡ a.program
  new_program h = omega arith

  new_terminal : a.terminal < 2 ^ 32 → terminal_of (new_row r k a) ≡ a.terminal
  new_terminal h = omega arith

  new_len : len_of (new_row r k a) ≡ length a.bytes
  new_len = omega arith

  new_slot : slot_of (new_row r k a) ≡ k
  new_slot = omega arith

module _ (area : List ℕ) (k : ℕ) (a : model.Asked) (within : k < slots_in area) (fits : length a.bytes ≤ 64) where
  -- the bytes with its data
  abbrev filled : List ℕ
  filled = stored area (k * 64) a.bytes

  new_data : (r : ℕ) → data_of filled (new_row r k a) ≡ a.bytes
  new_data r =
      let e : min (len_of (new_row r k a)) 64 ≡ length a.bytes = omega (arith, new_len r k a (omega arith) fits) in
      ap₂ (λ (n j : ℕ). take n (drop (j * 64) filled)) e (new_slot r k a (omega arith) fits) ∙ stored_there area (k * 64) a.bytes (omega arith)

  -- another slot lies before it or behind it
  apart : (j n : ℕ) → (j ≡ k → ⊥) → n ≤ 64 → (j * 64 + n ≤ k * 64) ⊎ (k * 64 + length a.bytes ≤ j * 64)
  apart j n d h =
      by_test (ltb j k) (λ e. let l : j < k = ltb-true j k e in inl (omega arith))
      (λ e. let l : k < j = lt_of_le-ne (ltb-false j k e) (λ z. d (sym z)) in inr (omega arith))

  other_data : (q : Row) → (slot_of q ≡ k → ⊥) → data_of filled q ≡ data_of area q
  other_data q d =
      stored_apart area (k * 64) a.bytes (slot_of q * 64) (min (len_of q) 64) (apart (slot_of q) (min (len_of q) 64) d (omega arith))

  module _ (c r : ℕ) where
    -- it stands for what was asked
    new_at : r < 2 ^ 32 → a.interval ≤ 359_999_000 → a.terminal < 2 ^ 32 → request_at c r filled (new_row r k a) ≡ model.accepted c a
    new_at hr hi ht =
        let p : phase_at c r (phase_of (new_row r k a).phase) ≡ model.begun c a.interval =
        ap (phase_at c r) (phase_again (begun_at r a.interval) (begun_circle r a.interval)) ∙ begun_at_lem c r a.interval hr (omega arith) in
        cc (p, new_program r k a (omega arith) fits ht, new_terminal r k a (omega arith) fits ht, new_data r)

    -- and every other for what it stood for
    others_at : (l : List Row) → has k (map slot_of l) ≡ false → map (request_at c r filled) l ≡ map (request_at c r area) l
    others_at l h =
        map_all_same (λ (q : Row). not (eqb (slot_of q) k)) (request_at c r filled) (request_at c r area)
        (λ q e. cc (other_data q (eqb-false (slot_of q) k (not-true (eqb (slot_of q) k) e)))) l
        (all_none (λ (q : Row). eqb (slot_of q) k) l ∙ ap not (sym (has_map slot_of k l) ∙ h))

-- ---- the plan

module _ (c : ℕ) (m : Memory) (f : Fine c m) (a : model.Asked) where
  abbrev rows : List Row
  rows = live m.requests

  abbrev slot : ℕ
  slot = free_slot (live m.requests)

  abbrev new : Row
  new = new_row (register_of m.requests) slot a

  abbrev begun : Memory
  begun = with_kept m (begin m.requests m.area a slot)

  -- what its checks have found out
  record Startable : Type 0 where
    soon : a.interval ≤ 359_999_000
    fits : length a.bytes ≤ 64
    row : length (live m.requests) < length m.requests.rows
    within : free_slot (live m.requests) < slots_in m.area

  module _ (ok : Startable) where
    free : has slot (map slot_of rows) ≡ false
    free = let w = ok.within in slot_free rows (omega arith)

    longer : length (rows ++ (new ∷ [])) ≤ length m.requests.rows
    longer = simp length-append (let w = ok.row in omega arith)

    begun_stands : a.terminal < 2 ^ 32 → interval_at c begun ≡ model.with_requests (interval_at c m) ((interval_at c m).requests ++ (model.accepted c a ∷ []))
    unfolding interval_at
    begun_stands ht =
        let r : ℕ = register_of m.requests in
        let read : Row → model.Request = request_at c r (filled m.area slot a ok.within ok.fits) in
        ap (model.with_requests (interval_at c m))
        (ap (map read) (take_over (rows ++ (new ∷ [])) m.requests.rows) ∙ map-append read rows (new ∷ [])
        ∙ ap₂ (λ (x : List model.Request) (q : model.Request). x ++ (q ∷ [])) (others_at m.area slot a ok.within ok.fits c r rows free)
        (new_at m.area slot a ok.within ok.fits c r (omega arith) ok.soon ht))

    begun_stays : Stays c m begun
    begun_stays =
        let k : free_slot (live m.requests) < 128 = let w = ok.within in omega arith in
        let e = new_slot (register_of m.requests) slot a k ok.fits in
        area_stays c m (with_live m.requests (rows ++ (new ∷ []))) (stored m.area (slot * 64) a.bytes) (length_stored m.area (slot * 64) a.bytes)
        (live_stays c m f (rows ++ (new ∷ [])) longer
        (laid_longer m.area rows (small m f.soundly).laid new
        (le-leb (len_of new) 64 (let w = ok.fits in omega (arith, new_len (register_of m.requests) slot a k ok.fits)))
        (lt-ltb (slot_of new) (slots_in m.area) (let w = ok.within in omega (arith, e)))
        (ap (λ (j : ℕ). has j (map slot_of rows)) e ∙ free)))

  -- its checks, of which the last two ask whether the name is taken and whether there is no room
  abbrev checks_of : Bool → Bool → List Check
  checks_of taken full =
      check (eqb a.name (blank 8) || ltb 359_999_000 a.interval) invalid_request
      ∷ check (ltb 64 (length a.bytes)) wrong_length
      ∷ check (not (has a.program (names_in m.programs))) unknown_program
      ∷ check (not (model.none_or_known a.terminal (names_in m.terminals))) unknown_terminal
      ∷ check taken not_unique
      ∷ check full no_space
      ∷ []

  abbrev checks : List Check
  checks = checks_of (any (named a.name) rows) (not (room_in m.requests m.area))

  startable : Clear checks → Startable
  startable k =
      let room : room_in m.requests m.area ≡ true = not-false (room_in m.requests m.area) k.1.1.1.1.1.0 in
      record {
        soon = ltb-false 359_999_000 a.interval (or_false_r (eqb a.name (blank 8)) (ltb 359_999_000 a.interval) k.0);
        fits = ltb-false 64 (length a.bytes) k.1.0;
        row = ltb-true (length rows) (length m.requests.rows) (and_l (ltb (length rows) (length m.requests.rows)) _ room);
        within = ltb-true slot (slots_in m.area) (and_r (ltb (length rows) (length m.requests.rows)) _ room);
      }

  planned : checks ≡ (model.start (limits_of m) (interval_at c m) a).checks
  unfolding model.start interval_at
  planned =
      ap₂ checks_of (sym (known_at c m a.name))
      (room_at m.requests m.area (small m f.soundly).laid ∙ ap (leb (spaces m.requests m.area)) (sym (count_at c m)))

  pub start_follows : a.name < 2 ^ 64 → a.terminal < 2 ^ 32 → is_bytes a.bytes ≡ true
      → Follows (interval_at c) (Fine c) (outcome_in (with_kept m) (start_in m.programs m.terminals m.requests m.area a)) (interval_at c m)
      (model.start (limits_of m) (interval_at c m) a)
  unfolding start_in model.start interval_at
  start_follows hn ht hb =
      checks_follow c (with_kept m) (kept m.requests m.area) checks (done (begin m.requests m.area a slot) 0) (model.start (limits_of m) (interval_at c m) a)
      f refl planned (λ k. ap (λ (i : model.Interval). done i 0) (begun_stands (startable k) ht))
      (λ s e. start_sound (limits_of m) (interval_at c m) s a hn hb e) (λ k. begun_stays (startable k))
