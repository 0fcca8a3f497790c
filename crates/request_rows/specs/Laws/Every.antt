-- Every sound state of interval control is what some sound memory stands for, at the state's own clock, and the memory's numbers have their widths.
-- Assumes nothing.
use Prim.Native.Nat.{ℕ, ◌+◌, ◌*◌, ◌%◌, ◌^◌, ◌<◌, ◌≤◌}
use Rattle.std.specs.Prelude.{◌≡◌, Bool, true, not, eqb, leb, ltb, length, take, replicate}
use Rattle.std.proofs.Math.Path.{refl}
use Rattle.std.proofs.Common.{sym, ap, ◌∙◌, arith, leb-true, ltb-true, lt-ltb, eqb-true}
use mathlib.Core.List.{List, [], ◌∷◌}
use Rattle.std.proofs.Math.ListN.{drop}
use Rattle.std.proofs.lemmas.List.{length-replicate}
use Rattle.base.specs.Lists.{all, has, once, over}
use Rattle.base.specs.Bytes.{blank, is_byte, is_bytes, is_name}
use Rattle.base.specs.Laws.Tests.{by_test, no, both, and_l, and_r, and_i, or_elim}
use Rattle.base.specs.Laws.Keep.{all_imp, all_replicate}
use Rattle.base.specs.Laws.Maps.{all_map}
use Rattle.base.specs.Laws.Over.{take_over, length_over, all_over}
use Rattle.model.specs.Limits.{Limits, sized}
use Rattle.model.specs.Interval as model
use Rattle.model.proofs.Laws.SoundInterval.{IntervalSound, view, view_request}
use Rattle.request_rows.specs.Circle.{to_go}
use Rattle.request_rows.specs.Rows.{Row, no_row, slot_of}
use Rattle.request_rows.specs.Table.{register_of, live, slots_in}
use Rattle.request_rows.specs.Stands.{Memory, limits_of, phase_at, interval_at, Means, Fine}
use Rattle.request_rows.specs.Typed.{word, typed_row, TypedNames, Typed}
use Rattle.request_rows.specs.Laws.Ties.{Laid, Small, sound_back}
use Rattle.request_rows.specs.Laws.Bounds.{bounds_same}
use Rattle.request_rows.specs.Laws.Common.{up_once, up_below}
use Rattle.request_rows.specs.Laws.Made.{phase_for, rows_from, data_for, names_for, requests_for, memory_for, One, Each, rows_length, rows_typed, rows_short, rows_slots, rows_stand, data_bytes, data_full}

-- ---- names

has_all : (p : ℕ → Bool) (n : ℕ) (l : List ℕ) → all p l ≡ true → has n l ≡ true → p n ≡ true
has_all p n [] h e = no e
has_all p n (x ∷ l) h e =
    by_test (eqb x n) (λ t. let same : x ≡ n = eqb-true x n t in rw same at (and_l (p x) (all p l) h))
    (λ t. has_all p n l (and_r (p x) (all p l) h) (rw t at e))

abbrev half : ℕ → Bool
half n = ltb n (2 ^ 32)

halves : (l : List ℕ) → all (is_name 4) l ≡ true → all half l ≡ true
halves l h = all_imp (is_name 4) half (λ n e. and_l (ltb n (2 ^ 32)) (not (eqb n (blank 4))) e) l h

module _ (most : ℕ) (l : List ℕ) (few : length l ≤ most) where
  names_size : length (over l (replicate most 0)) ≡ most
  names_size =
      let z : length {A = ℕ} (replicate most 0) ≡ most = length-replicate {A = ℕ} most 0 in
      length_over l (replicate most 0) (omega arith) ∙ z

  names_typed : most < 2 ^ 64 → all (is_name 4) l ≡ true → TypedNames (names_for most l)
  names_typed wide h = record {
    count = omega arith;
    size = omega (arith, names_size);
    each =
        all_over word l (replicate most 0)
        (all_imp half word (λ n e. lt-ltb n (2 ^ 64) (omega (arith, ltb-true n (2 ^ 32) e))) l (halves l h)) (all_replicate word most 0 refl);
  }

-- ---- requests

-- a due tick that is near is found again
due_back : (c d : ℕ) → c < d → d ≤ c + 359_999_000 → c + to_go (d % 2 ^ 32) (c % 2 ^ 32) ≡ d
unfolding to_go
due_back c d h k = omega arith

phase_stands : (L : Limits) (c : ℕ) (b : List ℕ) (p : model.Phase) → L.interval ≡ 359_999_000 → model.sound_phase L c b p ≡ true
    → phase_at c (c % 2 ^ 32) (phase_for p) ≡ p
phase_stands L c b (model.Waiting d) e h =
    let k = both (ltb c d) (leb d (c + L.interval)) h in
    ap model.Waiting (due_back c d (ltb-true c d k.0) (omega (arith, leb-true d (c + L.interval) k.1)))
phase_stands L c b model.Expired e h = refl
phase_stands L c b (model.Active t) e h = refl

module _ (p t r q s : ℕ) (i : model.Interval) (h : model.sound_interval (sized p t r q s) i ≡ true) where
  abbrev L : Limits
  L = sized p t r q s

  abbrev c : ℕ
  c = i.clock

  v : IntervalSound L i
  v = view {L = L} {i = i} h

  one : (x : model.Request) → model.sound_request L i x ≡ true → One c x
  one x e =
      let w = view_request L i x e in
      let size = both (leb (length x.bytes) 64) (is_bytes x.bytes) w.content in
      record {
        name = ltb-true x.name (2 ^ 64) (and_l (ltb x.name (2 ^ 64)) (not (eqb x.name (blank 8))) w.named);
        program = ltb-true x.program (2 ^ 32) (has_all half x.program i.programs (halves i.programs v.programs.named) w.program);
        terminal =
            or_elim (eqb x.terminal (blank 4)) (has x.terminal i.terminals) w.terminal
            (λ f. let same : x.terminal ≡ blank 4 = eqb-true x.terminal (blank 4) f in omega arith)
            (λ f. ltb-true x.terminal (2 ^ 32) (has_all half x.terminal i.terminals (halves i.terminals v.terminals.named) f));
        size = leb-true (length x.bytes) 64 size.0;
        bytes = size.1;
        phase = phase_stands L c x.bytes x.phase refl w.phase;
      }

  each_one : (l : List model.Request) → all (model.sound_request L i) l ≡ true → Each c l
  each_one [] e = tt
  each_one (x ∷ l) e =
      let g = both (model.sound_request L i x) (all (model.sound_request L i) l) e in
      (one x g.0, each_one l g.1)

  -- ---- the memory

  module _ (room : r ≤ 128) where
    abbrev l : List model.Request
    l = i.requests

    abbrev m : Memory
    m = memory_for p t r i

    few : length l ≤ r
    few = v.requests.fit

    low : 0 + length l ≤ 128
    low = omega (arith, few)

    each : Each c l
    each = each_one l v.requests.sound

    area_size_lem : length m.area ≡ r * 64
    area_size_lem =
        let z : length {A = ℕ} (replicate (r * 64) 0) ≡ r * 64 = length-replicate {A = ℕ} (r * 64) 0 in
        length_over (data_for l) (replicate (r * 64) 0) (omega (arith, data_full c l each, few)) ∙ z

    rows_size_lem : length m.requests.rows ≡ r
    rows_size_lem =
        let z = length-replicate r no_row in
        length_over (rows_from 0 l) (replicate r no_row) (omega (arith, rows_length 0 l, few)) ∙ z

    slots_are : slots_in m.area ≡ r
    slots_are = omega (arith, area_size_lem)

    live_is : live m.requests ≡ rows_from 0 l
    live_is = ap (λ (k : ℕ). take k m.requests.rows) (sym (rows_length 0 l)) ∙ take_over (rows_from 0 l) (replicate r no_row)

    -- ---- what it stands for

    every_means : Means m c
    every_means = omega arith

    every_stands : interval_at c m ≡ i
    unfolding interval_at
    every_stands =
        let e : register_of (requests_for r i) ≡ i.clock % 2 ^ 32 = every_means in
        let behind : List ℕ = drop (length (data_for l)) (replicate (r * 64) 0) in
        rw (e, take_over i.programs (replicate p 0), take_over i.terminals (replicate t 0), live_is, rows_stand c 0 l [] behind low refl each)

    -- ---- that it is sound

    laid : Laid m.area (live m.requests)
    laid =
        let slots = rows_slots c 0 l low each in
        rw live_is
        (record {
          shorts = rows_short c 0 l low each;
          insides =
              ap (λ (n : ℕ). all (λ (x : Row). ltb (slot_of x) n) (rows_from 0 l)) slots_are
              ∙ sym (all_map slot_of (λ (x : Row). ltb (slot_of x) r) (λ (n : ℕ). ltb n r) (λ x. refl) (rows_from 0 l))
              ∙ ap (all (λ (n : ℕ). ltb n r)) slots ∙ up_below r 0 (length l) (omega (arith, few));
          apart = ap once slots ∙ up_once 0 (length l);
        })

    programs_size_lem : length m.programs.places ≡ p
    programs_size_lem = names_size p i.programs v.programs.fit

    terminals_size_lem : length m.terminals.places ≡ t
    terminals_size_lem = names_size t i.terminals v.terminals.fit

    every_small : Small m
    every_small = record {
      programs = omega (arith, v.programs.fit, programs_size_lem);
      terminals = omega (arith, v.terminals.fit, terminals_size_lem);
      requests = omega (arith, few, rows_size_lem);
      register = refl;
      laid = laid;
    }

    every_fine : Fine c m
    every_fine =
        let limits : limits_of (memory_for p t r i) ≡ sized p t r 0 0 =
        rw (programs_size_lem, terminals_size_lem, rows_size_lem, slots_are) (ap (λ (n : ℕ). sized p t n 0 0) (omega arith)) in
        sound_back m c every_means every_small (rw (limits, every_stands) (bounds_same p t r 0 0 q s i ∙ h))

    every_typed : p < 2 ^ 64 → t < 2 ^ 64 → Typed m
    every_typed wide-p wide-t = record {
      programs = names_typed p i.programs v.programs.fit wide-p v.programs.named;
      terminals = names_typed t i.terminals v.terminals.fit wide-t v.terminals.named;
      requests = record {
        register = and_i (lt-ltb (i.clock % 2 ^ 32) (2 ^ 64) (omega arith)) refl;
        count = omega (arith, few);
        size = omega (arith, rows_size_lem);
        each = all_over typed_row (rows_from 0 l) (replicate r no_row) (rows_typed c 0 l low each) (all_replicate typed_row r no_row refl);
        past = refl;
      };
      bytes = all_over is_byte (data_for l) (replicate (r * 64) 0) (data_bytes c l each) (all_replicate is_byte (r * 64) 0 refl);
    }

-- ---- all together

-- m holds so many programs, terminals and requests and no words past them, is typed and sound, and stands for the state
pub record Holds (programs terminals requests : ℕ) (i : model.Interval) (m : Memory) : Type 0 where
  pub typed : Typed m
  pub fine : Fine i.clock m
  pub stands : interval_at i.clock m ≡ i
  pub programs_size : length m.programs.places ≡ programs
  pub terminals_size : length m.terminals.places ≡ terminals
  pub register_size : length m.requests.register ≡ 1
  pub rows_size : length m.requests.rows ≡ requests
  pub no_past : m.requests.past ≡ []
  pub area_size : length m.area ≡ requests * 64

-- a slice has less than 2 ^ 64 words; the bounds of the store do not matter
pub every : (p t r q s : ℕ) → p < 2 ^ 64 → t < 2 ^ 64 → r ≤ 128 → (i : model.Interval) → model.sound_interval (sized p t r q s) i ≡ true
    → Holds p t r i (memory_for p t r i)
every p t r q s wide-p wide-t room i h = record {
  typed = every_typed p t r q s i h room wide-p wide-t;
  fine = every_fine p t r q s i h room;
  stands = every_stands p t r q s i h room;
  programs_size = programs_size_lem p t r q s i h room;
  terminals_size = terminals_size_lem p t r q s i h room;
  register_size = refl;
  rows_size = rows_size_lem p t r q s i h room;
  no_past = refl;
  area_size = area_size_lem p t r q s i h room;
}
