-- What the struct's type says, the lengths of the arrays and the widths of the numbers, is so of fresh tables; each exact definition keeps it,
-- of sound tables and of others, and so does any number of them. Assumes nothing.
use Rattle.std.specs.Prelude.{◌≡◌, ℕ, suc, ◌^◌, ◌<◌, ◌≤◌, Bool, true, false, not, ◌&&◌, ◌||◌, List, [], ◌∷◌, ◌++◌, map, length, take, drop, replicate, ◌==◌, nat_lt, is_ok, slice_index_or}
use Rattle.std.proofs.Math.Path.{refl}
use Rattle.std.proofs.Common.{◌∙◌, arith, length-take, length-drop, length-set, lt-ltb, eq-eqb}
use Rattle.std.proofs.Math.ListN.{length-append}
use Rattle.base.specs.Lists.{all, any, first_at, keep, over, cut_at}
use Rattle.base.specs.Sort.{sort}
use Rattle.base.specs.Bytes.{blank, is_byte, is_bytes}
use Rattle.base.specs.Laws.Tests.{and_l, and_r, and_i, both, pick_elim}
use Rattle.base.specs.Laws.Keep.{all_append, all_drop, all_take, all_set, all_keep, all_get_d, first_or, all_replicate}
use Rattle.base.specs.Laws.Maps.{all_map_imp}
use Rattle.base.specs.Laws.Over.{length_over, all_over}
use Rattle.base.specs.Laws.Sorting.{all_sort}
use Rattle.model.specs.Limits.{cabinet}
use Rattle.model.specs.Interval as model
use Rattle.interval.specs.declared.Phase.{Phase}
use Rattle.interval.specs.declared.Phase.TheVariants.{Waiting, Expired, Active}
use Rattle.interval.specs.declared.Request.{Request}
use Rattle.interval.specs.declared.Requests.{Requests}
use Rattle.interval.specs.Answers.{Advanced, Cancelled, Retrieved}
use Rattle.interval.specs.Circle.{after}
use Rattle.interval.specs.Laws.Circle.{after_lt}
use Rattle.interval.specs.Table.{live, with_live, in_phase}
use Rattle.interval.specs.Rows.{active, named, no_row, out_row, with_row}
use Rattle.interval.specs.Typed.{word, typed_phase, typed_rest, typed_row, Typed}
use Rattle.interval.specs.Advance.{due_in, no_later, newly, lapse, moved, advance_of}
use Rattle.interval.specs.Cancel.{cancel_in}
use Rattle.interval.specs.Define as define
use Rattle.interval.specs.Dispatch.{Picked, At, Nothing, pick_in, dispatched, dispatch_in}
use Rattle.interval.specs.Fresh.{fresh_at}
use Rattle.interval.specs.Remove.{remove_in}
use Rattle.interval.specs.Retrieve.{has_own, serves, task_of, retrieve_in}
use Rattle.interval.specs.Start as start
use Rattle.interval.specs.Runs.{Ask, Program, Terminal, Advance, AskTicks, Dispatch, Start, Cancel, Retrieve, Remove, wide_names, in_range, turn, tables}
use Rattle.interval.specs.Laws.Define as defines
use Rattle.interval.proofs.Laws.Dispatch.{pick_below}
use Rattle.interval.proofs.Laws.Start as starts
use Rattle.interval.specs.Laws.Advance as tied

-- ---- rows

in_phase_lem : (p : Phase) (q : Request) → typed_phase p ≡ true → typed_row q ≡ true → typed_row (in_phase p q) ≡ true
in_phase_lem p q e h = and_i (and_l (typed_rest q) (typed_phase q.phase) h) e

begun_typed : (r i : ℕ) → typed_phase (start.begun_at r i) ≡ true
unfolding start.begun_at
begun_typed r i = pick_elim (λ (p : Phase). typed_phase p ≡ true) (i == 0) Expired (Waiting (after r i)) (λ _. refl) (λ _. lt-ltb (after r i) (2 ^ 32) (after_lt r i))

new_typed : (r : ℕ) (a : model.Asked) → in_range (Start a) ≡ true → length a.bytes ≤ 64 → typed_row (start.new_row r a) ≡ true
new_typed r a h k =
    let w = both (wide_names a && nat_lt a.interval (2 ^ 32)) (is_bytes a.bytes) h in
    let x = both (wide_names a) (nat_lt a.interval (2 ^ 32)) w.0 in
    let zeros : List ℕ = replicate 64 0 in
    let full : length (over a.bytes (replicate 64 0)) ≡ 64 = length_over a.bytes (replicate 64 0) k in
    let bytes : is_bytes (over a.bytes (replicate 64 0)) ≡ true =
    all_append is_byte a.bytes (drop (length a.bytes) zeros) ∙ and_i w.1 (all_drop is_byte (length a.bytes) zeros (all_replicate is_byte 64 0 refl)) in
    and_i (and_i (and_i (and_i x.0 (lt-ltb (length a.bytes) (2 ^ 8) (omega arith))) (eq-eqb (length (over a.bytes (replicate 64 0))) 64 full)) bytes)
    (begun_typed r a.interval)

all_cut : (i : ℕ) (l : List Request) → all typed_row l ≡ true → all typed_row (cut_at i l) ≡ true
all_cut i l h = all_append typed_row (take i l) (drop (suc i) l) ∙ and_i (all_take typed_row i l h) (all_drop typed_row (suc i) l h)

cut_few : (i : ℕ) (l : List Request) → length (cut_at i l) ≤ length l
cut_few i l = simp (length-append, length-take, length-drop) (omega arith)

all_lapse : (r ticks : ℕ) (l : List Request) → all typed_row l ≡ true → all typed_row (lapse r ticks l) ≡ true
all_lapse r ticks l h =
    let due : Request → Bool = λ (q : Request). due_in r ticks q.phase in
    let late : Request → Request → Bool = λ (q p : Request). no_later r q.phase p.phase in
    let line : List Request = sort late (newly r ticks l) in
    all_append typed_row (keep (λ (q : Request). not (due q)) l) (map (in_phase Expired) line)
    ∙ and_i (all_keep typed_row (λ (q : Request). not (due q)) l h)
    (all_map_imp (in_phase Expired) typed_row typed_row (λ q e. in_phase_lem Expired q refl e) line
    (all_sort late typed_row (newly r ticks l) ∙ all_keep typed_row due l h))

all_snoc : {A : Type 0} (p : A → Bool) (l : List A) (x : A) → all p l ≡ true → p x ≡ true → all p (l ++ (x ∷ [])) ≡ true
all_snoc p l x h e = all_append p l (x ∷ []) ∙ and_i h (and_i e refl)

-- ---- the struct

pub fresh_typed : (v : ℕ) → v < 2 ^ 32 → Typed (fresh_at v)
unfolding fresh_at
fresh_typed v h = record {
  register = h;
  pcount = omega arith;
  programs = refl;
  each_program = refl;
  tcount = omega arith;
  terminals = refl;
  each_terminal = refl;
  count = omega arith;
  rows = refl;
  each_row = refl;
}

module _ (t : Requests) (y : Typed t) where
  live_typed : all typed_row (live t) ≡ true
  live_typed = all_take typed_row t.count t.rows y.each_row

  live_few : length (live t) ≤ 32
  live_few = omega (arith, length-take t.count t.rows, y.rows)

  -- another register, and other live rows
  moved_typed : (r : ℕ) (l : List Request) → r < 2 ^ 32 → length l ≤ 32 → all typed_row l ≡ true → Typed (moved t r l)
  moved_typed r l hr n h = record {
    register = hr;
    pcount = y.pcount;
    programs = y.programs;
    each_program = y.each_program;
    tcount = y.tcount;
    terminals = y.terminals;
    each_terminal = y.each_terminal;
    count = omega arith;
    rows = length_over l t.rows (omega (arith, y.rows)) ∙ y.rows;
    each_row = all_over typed_row l t.rows h y.each_row;
  }

  cut_typed : (i : ℕ) → Typed (with_live t (cut_at i (live t)))
  cut_typed i = moved_typed t.register (cut_at i (live t)) y.register (omega (arith, cut_few i (live t), live_few)) (all_cut i (live t) live_typed)

  row_typed : (i : ℕ) (q : Request) → typed_row q ≡ true → Typed (with_row t i q)
  row_typed i q h = record {
    register = y.register;
    pcount = y.pcount;
    programs = y.programs;
    each_program = y.each_program;
    tcount = y.tcount;
    terminals = y.terminals;
    each_terminal = y.each_terminal;
    count = y.count;
    rows = length-set t.rows i q ∙ y.rows;
    each_row = all_set typed_row t.rows i q y.each_row h;
  }

  -- ---- each operation

  -- a list of names, whichever, with one more
  define_typed : (most count : ℕ) (l : List ℕ) (put : ℕ → List ℕ → Requests) (n : ℕ) → word n ≡ true → length l ≡ most → all word l ≡ true
      → ((k : ℕ) (r : List ℕ) → k ≤ most → length r ≡ most → all word r ≡ true → Typed (put k r))
      → Typed (define.define most count l t put n).requests
  define_typed most count l put n w long each f =
      let known : List ℕ = take count l in
      let more : List ℕ = known ++ (n ∷ []) in
      pick_elim Typed (is_ok (define.ruling most known n)) (put (length more) (over more l)) t
      (λ e.
      let few : length more ≤ most = simp length-append (omega (arith, defines.room most known n e)) in
      f (length more) (over more l) few (length_over more l (omega (arith, long)) ∙ long)
      (all_over word more l (all_snoc word known n (all_take word count l each) w) each))
      (λ _. y)

  pub program_typed : (n : ℕ) → word n ≡ true → Typed (define.define_program t n).requests
  unfolding define.define_program
  program_typed n w =
      define_typed 16 t.pcount t.programs (define.put_programs t) n w y.programs y.each_program
      (λ k r few long each. record {
        register = y.register;
        pcount = omega arith;
        programs = long;
        each_program = each;
        tcount = y.tcount;
        terminals = y.terminals;
        each_terminal = y.each_terminal;
        count = y.count;
        rows = y.rows;
        each_row = y.each_row;
      })

  pub terminal_typed : (n : ℕ) → word n ≡ true → Typed (define.define_terminal t n).requests
  unfolding define.define_terminal
  terminal_typed n w =
      define_typed 8 t.tcount t.terminals (define.put_terminals t) n w y.terminals y.each_terminal
      (λ k r few long each. record {
        register = y.register;
        pcount = y.pcount;
        programs = y.programs;
        each_program = y.each_program;
        tcount = omega arith;
        terminals = long;
        each_terminal = each;
        count = y.count;
        rows = y.rows;
        each_row = y.each_row;
      })

  pub advance_typed : (ticks : ℕ) → Typed (advance_of t ticks).requests
  unfolding advance_of
  advance_typed ticks =
      let r : ℕ = t.register in
      pick_elim (λ (a : Advanced). Typed a.requests) (nat_lt cabinet.advance ticks) _ _ (λ _. y)
      (λ _. moved_typed (after r ticks) (lapse r ticks (live t)) (after_lt r ticks) (omega (arith, tied.lapse_length 0 r ticks (live t), live_few))
      (all_lapse r ticks (live t) live_typed))

  pub dispatch_typed : Typed (dispatch_in t).requests
  unfolding dispatch_in
  dispatch_typed = by (pick_in (live t)) refl where
    by : (p : Picked) → pick_in (live t) ≡ p → Typed (dispatched t p).requests
    by (At i k) e =
        row_typed i (in_phase (Active false) (slice_index_or t.rows i out_row))
        (in_phase_lem (Active false) (slice_index_or t.rows i out_row) refl
        (all_get_d typed_row t.rows i out_row y.each_row (omega (arith, pick_below t i k e, live_few, y.rows))))
    by (Nothing k) e = y

  pub start_typed : (a : model.Asked) → in_range (Start a) ≡ true → Typed (start.start_in t a).requests
  unfolding start.start_in
  start_typed a h =
      pick_elim Typed (is_ok (start.ruled t a)) (with_live t (live t ++ (start.new_row t.register a ∷ []))) t
      (λ e.
      let f = starts.facts t a e in
      moved_typed t.register (live t ++ (start.new_row t.register a ∷ [])) y.register (simp length-append (omega (arith, f.room)))
      (all_snoc typed_row (live t) (start.new_row t.register a) live_typed (new_typed t.register a h f.fits)))
      (λ _. y)

  pub cancel_typed : (n : ℕ) → Typed (cancel_in t n).requests
  unfolding cancel_in
  cancel_typed n =
      pick_elim (λ (r : Cancelled). Typed r.requests) (n == blank 8) _ _ (λ _. y)
      (λ _. pick_elim (λ (r : Cancelled). Typed r.requests) (not (any (named n) (live t)) || active (slice_index_or t.rows (first_at (named n) (live t)) out_row)) _ _
      (λ _. y) (λ _. cut_typed (first_at (named n) (live t))))

  pub retrieve_typed : (n room : ℕ) → Typed (retrieve_in t n room).requests
  unfolding retrieve_in
  retrieve_typed n room =
      pick_elim (λ (r : Retrieved). Typed r.requests) (has_own (task_of t n)) _ _
      (λ _. row_typed (first_at (named n) (live t)) (in_phase (Active true) (task_of t n))
      (in_phase_lem (Active true) (task_of t n) refl (first_or (named n) typed_row no_row (live t) refl live_typed)))
      (λ _. pick_elim (λ (r : Retrieved). Typed r.requests) (any (serves (task_of t n).program (task_of t n).terminal) (live t)) _ _
      (λ _. cut_typed (first_at (serves (task_of t n).program (task_of t n).terminal) (live t))) (λ _. y))

  pub remove_typed : (n : ℕ) → Typed (remove_in t n)
  unfolding remove_in
  remove_typed n = pick_elim Typed (any (named n) (live t)) _ _ (λ _. cut_typed (first_at (named n) (live t))) (λ _. y)

  pub turn_typed : (a : Ask) → in_range a ≡ true → Typed (turn t a).state
  turn_typed (Program n) h = program_typed n h
  turn_typed (Terminal n) h = terminal_typed n h
  turn_typed (Advance n) h = advance_typed n
  turn_typed AskTicks h = y
  turn_typed Dispatch h = dispatch_typed
  turn_typed (Start a) h = start_typed a h
  turn_typed (Cancel n) h = cancel_typed n
  turn_typed (Retrieve n room) h = retrieve_typed n room
  turn_typed (Remove n) h = remove_typed n

-- any number of them
pub tables_typed : (l : List Ask) (t : Requests) → Typed t → all in_range l ≡ true → Typed (tables t l)
unfolding tables
tables_typed [] t y h = y
tables_typed (a ∷ l) t y h = tables_typed l (turn t a).state (turn_typed t y a (and_l (in_range a) (all in_range l) h)) (and_r (in_range a) (all in_range l) h)

-- from fresh tables
pub fresh_kept : (v : ℕ) → v < 2 ^ 32 → (l : List Ask) → all in_range l ≡ true → Typed (tables (fresh_at v) l)
fresh_kept v k l h = tables_typed l (fresh_at v) (fresh_typed v k) h
