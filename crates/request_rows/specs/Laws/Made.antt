-- The memory that is made for a state: each request has the slot of its place, its data lie there, and the words of its row stand for it.
-- Assumes nothing.
use Rattle.std.specs.Prelude.{ℕ, suc, ◌+◌, ◌*◌, ◌%◌, ◌^◌, ◌<◌, ◌≤◌, min, ◌≡◌, refl, true, List, [], ◌∷◌, ◌++◌, map, length, take, drop, replicate}
use Rattle.std.proofs.Common.{sym, ap, ap₂, ◌∙◌, append_assoc, arith, length-append, drop_at, le-leb}
use Rattle.std.proofs.Math.Seq.{take-append_seam}
use Rattle.base.specs.Lists.{all, over}
use Rattle.base.specs.Bytes.{is_byte, is_bytes}
use Rattle.base.specs.Laws.Tests.{and_i}
use Rattle.base.specs.Laws.Keep.{all_append, all_replicate}
use Rattle.base.specs.Laws.Over.{length_over, all_over}
use Rattle.model.specs.Interval as model
use Rattle.names.specs.Names.{Names}
use Rattle.request_rows.specs.declared.Phase.{Phase}
use Rattle.request_rows.specs.declared.Phase.TheVariants.{Waiting, Expired, Active}
use Rattle.request_rows.specs.declared.Request.{Request}
use Rattle.request_rows.specs.Rows.{Row, no_row, len_of, slot_of, encode}
use Rattle.request_rows.specs.Table.{Requests}
use Rattle.request_rows.specs.Stands.{Memory, memory, phase_at, request_at}
use Rattle.request_rows.specs.Typed.{typed_row}
use Rattle.request_rows.specs.Laws.Ties.{short}
use Rattle.request_rows.specs.Laws.Standing.{OnCircle, phase_again}
use Rattle.request_rows.specs.Laws.Common.{up_from}
use Rattle.request_rows.specs.Laws.Encoded.{Fits, program_again, terminal_again, len_again, slot_again, encode_typed}

-- ---- the memory of a state

-- a due tick on the register's circle
abbrev pub phase_for : model.Phase → Phase
phase_for (model.Waiting d) = Waiting (d % 2 ^ 32)
phase_for model.Expired = Expired
phase_for (model.Active t) = Active t

abbrev pub request_for : ℕ → model.Request → Request
request_for k x = record { name = x.name; program = x.program; terminal = x.terminal; phase = phase_for x.phase; len = length x.bytes; slot = k }

abbrev pub rows_from : ℕ → List model.Request → List Row
rows_from k [] = []
rows_from k (x ∷ l) = encode (request_for k x) ∷ rows_from (suc k) l

-- the data, and zeros behind them up to the slot's end
abbrev pub padded : model.Request → List ℕ
padded x = over x.bytes (replicate 64 0)

abbrev pub data_for : List model.Request → List ℕ
data_for [] = []
data_for (x ∷ l) = padded x ++ data_for l

abbrev pub names_for : ℕ → List ℕ → Names
names_for most l = record { count = length l; places = over l (replicate most 0) }

abbrev pub requests_for : ℕ → model.Interval → Requests
requests_for most i =
    record { register = i.clock % 2 ^ 32 ∷ []; count = length i.requests; rows = over (rows_from 0 i.requests) (replicate most no_row); past = [] }

-- of so many programs, terminals and requests
abbrev pub memory_for : ℕ → ℕ → ℕ → model.Interval → Memory
memory_for programs terminals requests i =
    memory (names_for programs i.programs) (names_for terminals i.terminals) (requests_for requests i)
    (over (data_for i.requests) (replicate (requests * 64) 0))

-- ---- a request

-- what is asked of it, at a clock
pub record One (c : ℕ) (x : model.Request) : Type 0 where
  pub name : x.name < 2 ^ 64
  pub program : x.program < 2 ^ 32
  pub terminal : x.terminal < 2 ^ 32
  pub size : length x.bytes ≤ 64
  pub bytes : is_bytes x.bytes ≡ true
  pub phase : phase_at c (c % 2 ^ 32) (phase_for x.phase) ≡ x.phase

phase_fits_lem : (p : model.Phase) → OnCircle (phase_for p)
phase_fits_lem (model.Waiting d) = omega arith
phase_fits_lem model.Expired = tt
phase_fits_lem (model.Active t) = tt

module _ (c k : ℕ) (x : model.Request) (o : One c x) where
  padded_full : length (padded x) ≡ 64
  padded_full = length_over x.bytes (replicate 64 0) o.size

  module _ (below : k < 256) where
    fits : Fits (request_for k x)
    fits = record { name = o.name; program = o.program; terminal = o.terminal; phase = phase_fits_lem x.phase; len = omega (arith, o.size); slot = below }

    row_short : short (encode (request_for k x)) ≡ true
    row_short = le-leb (len_of (encode (request_for k x))) 64 (omega (arith, len_again (request_for k x) fits, o.size))

    -- its row stands for it, where its data lie in its slot
    row_stands : (pre post : List ℕ) → length pre ≡ k * 64 → request_at c (c % 2 ^ 32) (pre ++ (padded x ++ post)) (encode (request_for k x)) ≡ x
    row_stands pre post n =
        let y : Request = request_for k x in
        let few : min (length x.bytes) 64 ≡ length x.bytes = omega (arith, o.size) in
        let zeros : List ℕ = drop (length x.bytes) (replicate 64 0) in
        let content : take (length x.bytes) (drop (k * 64) (pre ++ (padded x ++ post))) ≡ x.bytes =
        ap (take (length x.bytes)) (drop_at pre (padded x ++ post) (k * 64) n ∙ append_assoc x.bytes zeros post)
        ∙ take-append_seam x.bytes (zeros ++ post) in
        rw (
          program_again y fits,
          terminal_again y fits,
          len_again y fits,
          slot_again y fits,
          phase_again (phase_for x.phase) (phase_fits_lem x.phase),
          o.phase,
          few,
          content,
        )

-- ---- some, one after another

abbrev pub Each : ℕ → List model.Request → Type 0
Each c [] = Unit {0}
Each c (x ∷ l) = One c x × Each c l

pub rows_length : (k : ℕ) (l : List model.Request) → length (rows_from k l) ≡ length l
rows_length k [] = refl
rows_length k (x ∷ l) = ap suc (rows_length (suc k) l)

module _ (c : ℕ) where
  pub rows_typed : (k : ℕ) (l : List model.Request) → k + length l ≤ 128 → Each c l → all typed_row (rows_from k l) ≡ true
  rows_typed k [] b e = refl
  rows_typed k (x ∷ l) b e = and_i (encode_typed (request_for k x) (fits c k x e.0 (omega arith))) (rows_typed (suc k) l (omega arith) e.1)

  pub rows_short : (k : ℕ) (l : List model.Request) → k + length l ≤ 128 → Each c l → all short (rows_from k l) ≡ true
  rows_short k [] b e = refl
  rows_short k (x ∷ l) b e = and_i (row_short c k x e.0 (omega arith)) (rows_short (suc k) l (omega arith) e.1)

  pub rows_slots : (k : ℕ) (l : List model.Request) → k + length l ≤ 128 → Each c l → map slot_of (rows_from k l) ≡ up_from k (length l)
  rows_slots k [] b e = refl
  rows_slots k (x ∷ l) b e =
      ap₂ (λ (n : ℕ) (w : List ℕ). n ∷ w) (slot_again (request_for k x) (fits c k x e.0 (omega arith))) (rows_slots (suc k) l (omega arith) e.1)

  pub data_bytes : (l : List model.Request) → Each c l → is_bytes (data_for l) ≡ true
  data_bytes [] e = refl
  data_bytes (x ∷ l) e =
      all_append is_byte (padded x) (data_for l)
      ∙ and_i (all_over is_byte x.bytes (replicate 64 0) e.0.bytes (all_replicate is_byte 64 0 refl)) (data_bytes l e.1)

  pub data_full : (l : List model.Request) → Each c l → length (data_for l) ≡ length l * 64
  data_full [] e = refl
  data_full (x ∷ l) e = omega (arith, length-append (padded x) (data_for l), padded_full c 0 x e.0, data_full l e.1)

  pub rows_stand : (k : ℕ) (l : List model.Request) (pre post : List ℕ) → k + length l ≤ 128 → length pre ≡ k * 64 → Each c l
      → map (request_at c (c % 2 ^ 32) (pre ++ (data_for l ++ post))) (rows_from k l) ≡ l
  rows_stand k [] pre post b n e = refl
  rows_stand k (x ∷ l) pre post b n e =
      let a : pre ++ ((padded x ++ data_for l) ++ post) ≡ pre ++ (padded x ++ (data_for l ++ post)) =
      ap (λ (w : List ℕ). pre ++ w) (append_assoc (padded x) (data_for l) post) in
      let d : pre ++ (padded x ++ (data_for l ++ post)) ≡ (pre ++ padded x) ++ (data_for l ++ post) = sym (append_assoc pre (padded x) (data_for l ++ post)) in
      let m : length (pre ++ padded x) ≡ suc k * 64 = omega (arith, length-append pre (padded x), padded_full c 0 x e.0) in
      ap₂ (λ (y : model.Request) (z : List model.Request). y ∷ z)
      (ap (λ (w : List ℕ). request_at c (c % 2 ^ 32) w (encode (request_for k x))) a ∙ row_stands c k x e.0 (omega arith) pre (data_for l ++ post) n)
      (ap (λ (w : List ℕ). map (request_at c (c % 2 ^ 32) w) (rows_from (suc k) l)) (a ∙ d)
      ∙ rows_stand (suc k) l (pre ++ padded x) post (omega arith) m e.1)
