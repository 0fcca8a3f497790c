-- Every sound state of interval control is what some sound struct stands for, at the state's own clock, and the struct's arrays have the
-- lengths, and its numbers the widths, of its type. Assumes nothing.
use Rattle.std.specs.Prelude.{◌≡◌, ℕ, ◌+◌, ◌%◌, ◌^◌, ◌<◌, ◌≤◌, Bool, true, not, leb, List, [], ◌∷◌, map, length, take, replicate, ◌==◌, nat_le, nat_lt, refl}
use Rattle.std.proofs.Common.{sym, ap, ◌∙◌, arith, leb-true, le-leb, ltb-true, lt-ltb, eqb-true, eq-eqb}
use Rattle.std.proofs.lemmas.List.{length-map}
use Rattle.base.specs.Lists.{all, has, over}
use Rattle.base.specs.Bytes.{blank, is_byte, is_bytes, is_name}
use Rattle.base.specs.Laws.Tests.{by_test, no, both, and_l, and_r, and_i, or_elim}
use Rattle.base.specs.Laws.Keep.{all_imp, all_replicate}
use Rattle.base.specs.Laws.Maps.{map-map, map_id, map_all_same, all_map_imp}
use Rattle.base.specs.Laws.Over.{take_over, length_over, all_over}
use Rattle.model.specs.Limits.{cabinet}
use Rattle.model.specs.Interval as model
use Rattle.model.proofs.Laws.SoundInterval.{IntervalSound, view, view_request}
use Rattle.interval.specs.declared.Phase.{Phase}
use Rattle.interval.specs.declared.Phase.TheVariants.{Waiting, Expired, Active}
use Rattle.interval.specs.declared.Request.{Request}
use Rattle.interval.specs.declared.Requests.{Requests}
use Rattle.interval.specs.Circle.{to_go}
use Rattle.interval.specs.Table.{live}
use Rattle.interval.specs.Rows.{no_row}
use Rattle.interval.specs.Stands.{phase_at, request_at, interval_at, Means, sound_r}
use Rattle.interval.specs.Typed.{word, typed_phase, typed_row, Typed}
use Rattle.interval.specs.Laws.Clock.{sound_unview}

-- ---- the struct of a state

-- a due tick on the register's circle
abbrev pub phase_of : model.Phase → Phase
phase_of (model.Waiting d) = Waiting (d % 2 ^ 32)
phase_of model.Expired = Expired
phase_of (model.Active t) = Active t

-- the data, and zeros behind them
abbrev pub row_of : model.Request → Request
row_of q = record {
  name = q.name;
  program = q.program;
  terminal = q.terminal;
  phase = phase_of q.phase;
  len = length q.bytes;
  bytes = over q.bytes (replicate 64 0);
}

abbrev pub table_of : model.Interval → Requests
table_of i = record {
  register = i.clock % 2 ^ 32;
  pcount = length i.programs;
  programs = over i.programs (replicate 16 0);
  tcount = length i.terminals;
  terminals = over i.terminals (replicate 8 0);
  count = length i.requests;
  rows = over (map row_of i.requests) (replicate 32 no_row);
}

-- ---- what it stands for

-- a due tick that is near is found again
due_back : (c d : ℕ) → c < d → d ≤ c + 359_999_000 → c + to_go (d % 2 ^ 32) (c % 2 ^ 32) ≡ d
unfolding to_go
due_back c d h k = omega arith

phase_stands : (c : ℕ) (b : List ℕ) (p : model.Phase) → model.sound_phase cabinet c b p ≡ true → phase_at c (c % 2 ^ 32) (phase_of p) ≡ p
phase_stands c b (model.Waiting d) h =
    let k = both (nat_lt c d) (nat_le d (c + 359_999_000)) h in
    ap model.Waiting (due_back c d (ltb-true c d k.0) (leb-true d (c + 359_999_000) k.1))
phase_stands c b model.Expired h = refl
phase_stands c b (model.Active t) h = refl

module _ (i : model.Interval) where
  abbrev at : Request → model.Request
  at q = request_at i.clock (i.clock % 2 ^ 32) q

  row_stands : (q : model.Request) → model.sound_request cabinet i q ≡ true → request_at i.clock (i.clock % 2 ^ 32) (row_of q) ≡ q
  row_stands q h =
      let v = view_request cabinet i q h in
      rw (phase_stands i.clock q.bytes q.phase v.phase, take_over q.bytes (replicate 64 0))

  live_is : live (table_of i) ≡ map row_of i.requests
  live_is =
      ap (λ (k : ℕ). take k (table_of i).rows) (sym (length-map i.requests row_of)) ∙ take_over (map row_of i.requests) (replicate 32 no_row)

  pub every_means : Means (table_of i) i.clock
  every_means = refl

  module _ (s : model.sound_interval cabinet i ≡ true) where
    v : IntervalSound cabinet i
    v = view {L = cabinet} {i = i} s

    requests_stand : map at (live (table_of i)) ≡ i.requests
    requests_stand =
        ap (map at) live_is ∙ map-map at row_of i.requests
        ∙ map_all_same (model.sound_request cabinet i) (λ (q : model.Request). at (row_of q)) (λ (q : model.Request). q) row_stands i.requests v.requests.sound
        ∙ map_id (λ (q : model.Request). q) (λ q. refl) i.requests

    pub every_stands : interval_at i.clock (table_of i) ≡ i
    unfolding interval_at
    every_stands = rw (take_over i.programs (replicate 16 0), take_over i.terminals (replicate 8 0), requests_stand)

    data_few : (q : model.Request) → model.sound_request cabinet i q ≡ true → length q.bytes ≤ 64
    data_few q h = leb-true (length q.bytes) 64 (and_l (nat_le (length q.bytes) 64) (is_bytes q.bytes) (view_request cabinet i q h).content)

    pub every_sound : sound_r (table_of i) ≡ true
    every_sound =
        let short : all (λ (q : Request). leb q.len 64) (map row_of i.requests) ≡ true =
        all_map_imp row_of (model.sound_request cabinet i) (λ (q : Request). leb q.len 64) (λ q h. le-leb (length q.bytes) 64 (data_few q h)) i.requests v.requests.sound in
        sound_unview (table_of i) i.clock every_means
        (record {
          programs = le-leb (length i.programs) 16 v.programs.fit;
          terminals = le-leb (length i.terminals) 8 v.terminals.fit;
          count = le-leb (length i.requests) 32 v.requests.fit;
          lengths = rw live_is short;
          state = rw every_stands s;
        })

    -- ---- what the type says

    has_all : (p : ℕ → Bool) (n : ℕ) (l : List ℕ) → all p l ≡ true → has n l ≡ true → p n ≡ true
    has_all p n [] h e = no e
    has_all p n (x ∷ l) h e =
        by_test (x == n) (λ t. let same : x ≡ n = eqb-true x n t in rw same at (and_l (p x) (all p l) h))
        (λ t. has_all p n l (and_r (p x) (all p l) h) (rw t at e))

    words : (l : List ℕ) → all (is_name 4) l ≡ true → all word l ≡ true
    words l h = all_imp (is_name 4) word (λ n e. and_l (nat_lt n (2 ^ 32)) (not (n == blank 4)) e) l h

    phase_typed : (p : model.Phase) → typed_phase (phase_of p) ≡ true
    phase_typed (model.Waiting d) = lt-ltb (d % 2 ^ 32) (2 ^ 32) (omega arith)
    phase_typed model.Expired = refl
    phase_typed (model.Active t) = refl

    row_typed : (q : model.Request) → model.sound_request cabinet i q ≡ true → typed_row (row_of q) ≡ true
    row_typed q h =
        let r = view_request cabinet i q h in
        let few : length q.bytes ≤ 64 = data_few q h in
        let name = and_l (nat_lt q.name (2 ^ 64)) (not (q.name == blank 8)) r.named in
        let program = has_all word q.program i.programs (words i.programs v.programs.named) r.program in
        let terminal : word q.terminal ≡ true =
        or_elim (q.terminal == blank 4) (has q.terminal i.terminals) r.terminal
        (λ e. let same : q.terminal ≡ blank 4 = eqb-true q.terminal (blank 4) e in rw same)
        (λ e. has_all word q.terminal i.terminals (words i.terminals v.terminals.named) e) in
        let size = lt-ltb (length q.bytes) (2 ^ 8) (omega arith) in
        let full = eq-eqb (length (over q.bytes (replicate 64 0))) 64 (length_over q.bytes (replicate 64 0) few) in
        let bytes =
        all_over is_byte q.bytes (replicate 64 0) (and_r (nat_le (length q.bytes) 64) (is_bytes q.bytes) r.content) (all_replicate is_byte 64 0 refl) in
        and_i (and_i (and_i (and_i (and_i (and_i name program) terminal) size) full) bytes) (phase_typed q.phase)

    pub every_typed : Typed (table_of i)
    every_typed = record {
      register = omega arith;
      pcount = omega (arith, v.programs.fit);
      programs = length_over i.programs (replicate 16 0) v.programs.fit;
      each_program = all_over word i.programs (replicate 16 0) (words i.programs v.programs.named) refl;
      tcount = omega (arith, v.terminals.fit);
      terminals = length_over i.terminals (replicate 8 0) v.terminals.fit;
      each_terminal = all_over word i.terminals (replicate 8 0) (words i.terminals v.terminals.named) refl;
      count = omega (arith, v.requests.fit);
      rows = length_over (map row_of i.requests) (replicate 32 no_row) (omega (arith, length-map i.requests row_of, v.requests.fit));
      each_row =
          all_over typed_row (map row_of i.requests) (replicate 32 no_row)
          (all_map_imp row_of (model.sound_request cabinet i) typed_row row_typed i.requests v.requests.sound) refl;
    }
