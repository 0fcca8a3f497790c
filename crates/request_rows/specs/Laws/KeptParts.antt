-- What the types say of names, and of requests, and how many there can be, is kept by each exact definition. Assumes nothing.
use Prim.Native.Nat.{ℕ, ◌*◌, ◌^◌, ◌<◌, ◌≤◌}
use Rattle.std.specs.Prelude.{◌≡◌, true, not, ◌&&◌, ◌||◌, List, [], ◌∷◌, ◌++◌, eqb, leb, length, get_or, replicate}
use Rattle.std.proofs.Math.Path.{refl}
use Rattle.std.proofs.Common.{◌∙◌, arith, length-append, leb-false, ltb-true, ltb-false, lt-ltb}
use Rattle.std.proofs.Math.Bool.{Bool, false}
use Rattle.std.proofs.Math.Dec.{ltb}
use Rattle.std.proofs.Math.ListN.{length-set, length-replicate}
use Rattle.std.proofs.lemmas.Bool.{not-false}
use Rattle.base.specs.Lists.{all, any, has, over, cut_at, first_at}
use Rattle.base.specs.Bytes.{blank, is_bytes}
use Rattle.base.specs.Laws.Tests.{and_i, both, pick_elim}
use Rattle.base.specs.Laws.Keep.{all_take, all_set, all_get_d_or, all_replicate}
use Rattle.base.specs.Laws.Over.{length_over, all_over}
use Rattle.base.specs.Laws.Stored.{length_stored}
use Rattle.model.specs.Plans.{Outcome}
use Rattle.model.specs.Interval.{Asked, none_or_known}
use Rattle.names.specs.Names.{Names, names_in, with_names, fresh_of, define_in}
use Rattle.request_rows.specs.declared.Phase.{Phase}
use Rattle.request_rows.specs.declared.Phase.TheVariants.{Waiting, Expired, Active}
use Rattle.request_rows.specs.Circle.{after}
use Rattle.request_rows.specs.Rows.{Row, no_row, program_of, terminal_of, in_phase, active, named}
use Rattle.request_rows.specs.Table.{Requests, register_of, live, with_live, with_row, with_register, slots_in}
use Rattle.request_rows.specs.Remove.{remove_at, place_of, remove_in}
use Rattle.request_rows.specs.Cancel.{cancel_in}
use Rattle.request_rows.specs.Start.{Kept, kept, begun_at, free_slot, room_in, new_row, begin, start_in}
use Rattle.request_rows.specs.Dispatch.{Picked, At, None, pick_in, dispatched, dispatch_in}
use Rattle.request_rows.specs.Retrieve.{has_own, serves, row_at, retrieve_at}
use Rattle.request_rows.specs.Advance.{lapse, advance_in, ask_in}
use Rattle.request_rows.specs.Fresh.{fresh_at}
use Rattle.request_rows.specs.Typed.{word, typed_row, TypedNames, TypedRequests, TypedAsked}
use Rattle.request_rows.specs.Laws.Circle.{after_lt}
use Rattle.request_rows.specs.Laws.Standing.{OnCircle, live_few}
use Rattle.request_rows.specs.Laws.Common.{all_cut, all_snoc, cut_few, bytes_stored}
use Rattle.request_rows.specs.Laws.Encoded.{phase_word_lem, encode_typed}
use Rattle.request_rows.specs.Laws.Lapse.{lapse_length, all_lapse}

-- ---- names

pub record KeepsNames (v v' : Names) : Type 0 where
  pub typed : TypedNames v'
  pub sizes : length v'.places ≡ length v.places

-- another list of them
names_kept : (v : Names) → TypedNames v → (l : List ℕ) → length l ≤ length v.places → all word l ≡ true → KeepsNames v (with_names v l)
names_kept v y l few h =
    let same : length (over l v.places) ≡ length v.places = length_over l v.places few in
    record { typed = record { count = omega (arith, y.size); size = omega (arith, y.size); each = all_over word l v.places h y.each }; sizes = same }

pub define_keeps : (v : Names) → TypedNames v → (n : ℕ) → n < 2 ^ 32 → KeepsNames v (define_in v n).state
unfolding define_in
define_keeps v y n wide =
    let Good : Outcome Names → Type 0 = λ (o : Outcome Names). KeepsNames v o.state in
    let same : KeepsNames v v = record { typed = y; sizes = refl } in
    pick_elim Good (eqb n (blank 4)) _ _ (λ _. same)
    (λ _. pick_elim Good (has n (names_in v)) _ _ (λ _. same)
    (λ _. pick_elim Good (leb (length v.places) (length (names_in v))) _ _ (λ _. same)
    (λ room.
    names_kept v y (names_in v ++ (n ∷ [])) (simp length-append (omega (arith, leb-false (length v.places) (length (names_in v)) room)))
    (all_snoc word (names_in v) n (all_take word v.count v.places y.each) (lt-ltb n (2 ^ 64) (omega arith))))))

pub fresh_names : (v : Names) → TypedNames v → KeepsNames v (fresh_of v)
fresh_names v y =
    let same : length {A = ℕ} (replicate (length v.places) 0) ≡ length v.places = length-replicate {A = ℕ} (length v.places) 0 in
    record { typed = record { count = omega arith; size = omega (arith, y.size); each = all_replicate word (length v.places) 0 refl }; sizes = same }

-- ---- a row in another phase, and a new one

in_phase_lem : (p : Phase) (q : Row) → OnCircle p → typed_row q ≡ true → typed_row (in_phase p q) ≡ true
in_phase_lem p q e h =
    let p4 = both (word q.name && word q.who && word q.phase) (word q.rest) h in
    let p3 = both (word q.name && word q.who) (word q.phase) p4.0 in
    and_i (and_i p3.0 (phase_word_lem p e)) p4.1

begun_fits : (register i : ℕ) → OnCircle (begun_at register i)
unfolding begun_at
begun_fits register i = pick_elim OnCircle (eqb i 0) Expired (Waiting (after register i)) (λ _. tt) (λ _. after_lt register i)

new_typed : (register k : ℕ) (a : Asked) → TypedAsked a → length a.bytes ≤ 64 → k < 128 → typed_row (new_row register k a) ≡ true
new_typed register k a w size slot =
    encode_typed (record { name = a.name; program = a.program; terminal = a.terminal; phase = begun_at register a.interval; len = length a.bytes; slot = k })
    (record {
      name = w.name;
      program = w.program;
      terminal = w.terminal;
      phase = begun_fits register a.interval;
      len = omega arith;
      slot = omega arith;
    })

-- ---- requests

pub record KeepsRequests (t t' : Requests) : Type 0 where
  pub typed : TypedRequests t'
  pub register : length t'.register ≡ length t.register
  pub rows : length t'.rows ≡ length t.rows
  pub past : length t'.past ≡ length t.past

pub record KeepsKept (t : Requests) (area : List ℕ) (k : Kept) : Type 0 where
  pub requests : KeepsRequests t k.requests
  pub bytes : is_bytes k.area ≡ true
  pub size : length k.area ≡ length area

module _ (t : Requests) (y : TypedRequests t) where
  same : KeepsRequests t t
  same = record { typed = y; register = refl; rows = refl; past = refl }

  live_typed : all typed_row (live t) ≡ true
  live_typed = all_take typed_row t.count t.rows y.each

  row_typed : (i : ℕ) → typed_row (row_at t i) ≡ true
  row_typed i = all_get_d_or typed_row (live t) i no_row refl live_typed

  -- other live rows
  live_kept : (l : List Row) → length l ≤ length t.rows → all typed_row l ≡ true → KeepsRequests t (with_live t l)
  live_kept l few h =
      let same : length (over l t.rows) ≡ length t.rows = length_over l t.rows few in
      record {
        typed = record {
          register = y.register;
          count = omega (arith, y.size);
          size = omega (arith, y.size);
          each = all_over typed_row l t.rows h y.each;
          past = y.past;
        };
        register = refl;
        rows = same;
        past = refl;
      }

  -- another register
  register_kept : (u : Requests) → KeepsRequests t u → (register : ℕ) → register < 2 ^ 64 → KeepsRequests t (with_register u register)
  register_kept u k register wide =
      let z = k.typed in
      record {
        typed = record {
          register = all_set word u.register 0 register z.register (lt-ltb register (2 ^ 64) wide);
          count = z.count;
          size = z.size;
          each = z.each;
          past = z.past;
        };
        register = length-set u.register 0 register ∙ k.register;
        rows = k.rows;
        past = k.past;
      }

  -- another phase of a row
  turned_kept : (i : ℕ) (b : Bool) → KeepsRequests t (with_row t i (in_phase (Active b) (row_at t i)))
  turned_kept i b =
      let q : Row = in_phase (Active b) (row_at t i) in
      record {
        typed = record {
          register = y.register;
          count = y.count;
          size = omega (arith, y.size, length-set t.rows i q);
          each = all_set typed_row t.rows i q y.each (in_phase_lem (Active b) (row_at t i) tt (row_typed i));
          past = y.past;
        };
        register = refl;
        rows = length-set t.rows i q;
        past = refl;
      }

  -- ---- each definition

  pub remove_at_keeps : (i : ℕ) → KeepsRequests t (remove_at t i)
  unfolding remove_at
  remove_at_keeps i =
      pick_elim (KeepsRequests t) (ltb i (length (live t))) (with_live t (cut_at i (live t))) t
      (λ _. live_kept (cut_at i (live t)) (omega (arith, cut_few i (live t), live_few t)) (all_cut typed_row i (live t) live_typed)) (λ _. same)

  pub remove_keeps : (n : ℕ) → KeepsRequests t (remove_in t n)
  unfolding remove_in
  remove_keeps n = remove_at_keeps (place_of t n)

  abbrev Good : Outcome Requests → Type 0
  Good o = KeepsRequests t o.state

  pub cancel_keeps : (n : ℕ) → Good (cancel_in t n)
  unfolding cancel_in
  cancel_keeps n =
      pick_elim Good (eqb n (blank 8)) _ _ (λ _. same)
      (λ _. pick_elim Good (not (any (named n) (live t)) || active (get_or (live t) (place_of t n) no_row)) _ _ (λ _. same) (λ _. remove_at_keeps (place_of t n)))

  pub dispatch_keeps : Good (dispatch_in t)
  unfolding dispatch_in
  dispatch_keeps = by (pick_in (live t)) where
    by : (p : Picked) → Good (dispatched t p)
    by (At i k) = turned_kept i false
    by (None k) = same

  pub retrieve_keeps : (area : List ℕ) (i room : ℕ) → Good (retrieve_at t area i room)
  unfolding retrieve_at
  retrieve_keeps area i room =
      let serve : Row → Bool = serves area (program_of (row_at t i)) (terminal_of (row_at t i)) in
      pick_elim Good (has_own area (row_at t i)) _ _ (λ _. turned_kept i true)
      (λ _. pick_elim Good (any serve (live t)) _ _ (λ _. remove_at_keeps (first_at serve (live t))) (λ _. same))

  pub advance_keeps : (ticks : ℕ) → Good (advance_in t ticks)
  unfolding advance_in
  advance_keeps ticks =
      let r : ℕ = register_of t in
      pick_elim Good (ltb 1_000_000_000 ticks) _ _ (λ _. same)
      (λ _.
      register_kept (with_live t (lapse r ticks (live t)))
      (live_kept (lapse r ticks (live t)) (omega (arith, lapse_length r ticks (live t), live_few t))
      (all_lapse r ticks typed_row (λ q. in_phase_lem Expired q tt) (live t) live_typed))
      (after r ticks) (omega (arith, after_lt r ticks)))

  pub ask_keeps : Good (ask_in t)
  unfolding ask_in
  ask_keeps = same

  -- with the bytes of the data
  begin_keeps : (area : List ℕ) (a : Asked) → TypedAsked a → is_bytes area ≡ true → length a.bytes ≤ 64 → room_in t area ≡ true
      → KeepsKept t area (begin t area a (free_slot (live t)))
  begin_keeps area a w bytes short room =
      let k : ℕ = free_slot (live t) in
      let new : Row = new_row (register_of t) k a in
      let r = both (ltb (length (live t)) (length t.rows)) (ltb k (slots_in area)) room in
      let behind : length (live t) < length t.rows = ltb-true (length (live t)) (length t.rows) r.0 in
      let slot : free_slot (live t) < slots_in area = ltb-true k (slots_in area) r.1 in
      record {
        requests =
            live_kept (live t ++ (new ∷ [])) (simp length-append (omega arith))
            (all_snoc typed_row (live t) new live_typed (new_typed (register_of t) k a w short (omega arith)));
        bytes = bytes_stored area (k * 64) a.bytes bytes w.bytes;
        size = length_stored area (k * 64) a.bytes;
      }

  pub start_keeps : (programs terminals : Names) (area : List ℕ) (a : Asked) → TypedAsked a → is_bytes area ≡ true
      → KeepsKept t area (start_in programs terminals t area a).state
  unfolding start_in
  start_keeps programs terminals area a w bytes =
      let Done : Outcome Kept → Type 0 = λ (o : Outcome Kept). KeepsKept t area o.state in
      let none : KeepsKept t area (kept t area) = record { requests = same; bytes = bytes; size = refl } in
      pick_elim Done (eqb a.name (blank 8) || ltb 359_999_000 a.interval) _ _ (λ _. none)
      (λ _. pick_elim Done (ltb 64 (length a.bytes)) _ _ (λ _. none)
      (λ short. pick_elim Done (not (has a.program (names_in programs))) _ _ (λ _. none)
      (λ _. pick_elim Done (not (none_or_known a.terminal (names_in terminals))) _ _ (λ _. none)
      (λ _. pick_elim Done (any (named a.name) (live t)) _ _ (λ _. none)
      (λ _. pick_elim Done (not (room_in t area)) _ _ (λ _. none)
      (λ room. begin_keeps area a w bytes (ltb-false 64 (length a.bytes) short) (not-false (room_in t area) room)))))))

  pub fresh_keeps : (register : ℕ) → register < 2 ^ 64 → KeepsRequests t (fresh_at t register)
  unfolding fresh_at
  fresh_keeps register wide =
      let rows = length-replicate (length t.rows) no_row in
      record {
        typed = record {
          register = all_set word t.register 0 register y.register (lt-ltb register (2 ^ 64) wide);
          count = omega arith;
          size = omega (arith, y.size);
          each = all_replicate typed_row (length t.rows) no_row refl;
          past = all_replicate word (length t.past) 0 refl;
        };
        register = length-set t.register 0 register;
        rows = rows;
        past = length-replicate {A = ℕ} (length t.past) 0;
      }
