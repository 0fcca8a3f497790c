-- A row's test is what the layout and the model ask of it, where its bytes are bytes and its name is a word. Assumes nothing.
use Rattle.std.specs.Prelude.{◌≡◌, ℕ, ◌+◌, ◌*◌, min, Bool, true, false, not, ◌&&◌, ◌||◌, leb, List, [], ◌∷◌, length, drop, ◌==◌, nat_le, nat_lt, slice_index, refl}
use Rattle.std.proofs.Common.{sym, ◌∙◌, add_comm, zero-add, arith, length-take, length-drop, Fits, leb-true, ltb-true}
use Rattle.std.proofs.Math.Path.{ap}
use Rattle.std.specs.Int.{w64}
use Rattle.base.specs.Lists.{all, has}
use Rattle.base.specs.Bytes.{is_bytes, blank}
use Rattle.base.specs.Laws.Tests.{by_test, and_l, and_r, and_i, leb_add, ltb_add}
use Rattle.base.specs.Laws.Keep.{all_take, all_drop}
use Rattle.base.specs.Laws.Bytes.{is_bytes_take, is_bytes_drop}
use Rattle.model.specs.Limits.{is_data}
use Rattle.model.specs.Interval as model
use Rattle.names.specs.Names.{Names, names_in}
use Rattle.request_rows.specs.declared.Phase.{Phase}
use Rattle.request_rows.specs.declared.Phase.TheVariants.{Waiting, Expired, Active}
use Rattle.request_rows.specs.declared.Request.{Request}
use Rattle.request_rows.specs.Circle.{to_go}
use Rattle.request_rows.specs.Rows.{Row, rows_of, phase_of, program_of, terminal_of, len_of, slot_of, data_of, decode}
use Rattle.request_rows.specs.Table.{Requests, view_of, register_of, live, slots_in}
use Rattle.request_rows.specs.Stands.{Memory, limits_of, phase_at, request_at, interval_at}
use Rattle.request_rows.specs.Laws.Ties.{short, inside}
use Rattle.request_sound.specs.Sound.{phase_fits, sound_row, sound_in}
use Rattle.request_sound.specs.Laws.Lists.{is_word, words_told}

and_true : (a : Bool) → a ≡ (a && true)
and_true true = refl
and_true false = refl

-- ---- its phase

-- the register's tick and those ahead of it
ltb_ahead : (r g : ℕ) → nat_lt r (r + g) ≡ nat_le 1 g
ltb_ahead r g = rw (add_comm r g) (rw (zero-add r) at (ltb_add r 0 g))

leb_ahead : (r g k : ℕ) → nat_le (r + g) (r + k) ≡ nat_le g k
leb_ahead r g k = rw (add_comm r g, add_comm r k) (leb_add r g k)

phase_is : (m : Memory) (r : ℕ) (b : List ℕ) (p : Phase) → model.sound_phase (limits_of m) r b (phase_at r r p) ≡ phase_fits r (length b) p
phase_is m r b (Waiting d) = rw (ltb_ahead r (to_go d r), leb_ahead r (to_go d r) 359_999_000)
phase_is m r b Expired = refl
phase_is m r b (Active t) = refl

-- ---- its name

abbrev pub word_name : Row → Bool
word_name q = is_word q.name

names_words : (l : List ℕ) → all is_word l ≡ true → all word_name (rows_of l) ≡ true
names_words [] h = refl
names_words (a ∷ []) h = refl
names_words (a ∷ b ∷ []) h = refl
names_words (a ∷ b ∷ c ∷ []) h = refl
names_words (a ∷ b ∷ c ∷ d ∷ l) h =
    let t = and_r (is_word b) _ (and_r (is_word a) _ h) in
    and_i (and_l (is_word a) _ h) (names_words l (and_r (is_word d) _ (and_r (is_word c) _ t)))

pub live_words : (w : List ℕ) → ((i : ℕ) → Fits w64 (slice_index w i)) → all word_name (live (view_of w)) ≡ true
live_words w h = all_take word_name (slice_index w 1) (rows_of (drop 2 w)) (names_words (drop 2 w) (all_drop is_word 2 w (words_told w h)))

-- ---- the row

module _ (m : Memory) where
  -- what the model asks of it
  abbrev pub ruled : Row → Bool
  ruled q = model.sound_request (limits_of m) (interval_at (register_of m.requests) m) (request_at (register_of m.requests) (register_of m.requests) m.area q)

  -- what it has of data is as long as it says
  data_long : (q : Row) → (short q && inside m.area q) ≡ true → length (data_of m.area q) ≡ len_of q
  data_long q e =
      let a = leb-true (len_of q) 64 (and_l (short q) (inside m.area q) e) in
      let b = ltb-true (slot_of q) (slots_in m.area) (and_r (short q) (inside m.area q) e) in
      simp (length-take, length-drop) (omega arith)

  pub row_is : (q : Row) → is_bytes m.area ≡ true → word_name q ≡ true
      → sound_in m.programs m.terminals m.requests (slots_in m.area) q ≡ (short q && inside m.area q && ruled q)
  unfolding sound_row interval_at
  row_is q bytes word =
      let r : ℕ = register_of m.requests in
      by_test (short q && inside m.area q)
      (λ e.
      let n : length (data_of m.area q) ≡ len_of q = data_long q e in
      let d : is_data (limits_of m) (data_of m.area q) ≡ true =
      and_i (ap (λ (k : ℕ). leb k 64) n ∙ and_l (short q) (inside m.area q) e) (is_bytes_take (min (len_of q) 64) _ (is_bytes_drop (slot_of q * 64) m.area bytes)) in
      let p : model.sound_phase (limits_of m) r (data_of m.area q) (phase_at r r (phase_of q.phase)) ≡ phase_fits r (len_of q) (phase_of q.phase) =
      phase_is m r (data_of m.area q) (phase_of q.phase) ∙ ap (λ (k : ℕ). phase_fits r k (phase_of q.phase)) n in
      rw (e, word, d, p)
      (ap (λ (x : Bool). x && phase_fits r (len_of q) (phase_of q.phase))
      (and_true (not (q.name == blank 8) && has (program_of q) (names_in m.programs) && (terminal_of q == blank 4 || has (terminal_of q) (names_in m.terminals))))))
      (λ e. rw e)

-- what is found of a row is what its test asks
pub row_answer : (register slots : ℕ) (program terminal : Bool) (q : Request) (l a b z : Bool)
    → z ≡ (l && not (q.name == blank 8) && program && a && b)
    → l ≡ (nat_le q.len 64 && nat_lt q.slot slots) → a ≡ (q.terminal == blank 4 || terminal) → b ≡ phase_fits register q.len q.phase
    → z ≡ sound_row register slots program terminal q
unfolding sound_row
row_answer register slots program terminal q l a b z h hl ha hb = h ∙ rw (hl, ha, hb)

pub row_tested : (p e : Names) (t : Requests) (slots tick : ℕ) (q : Row) (r : Request) (a b z : Bool) → tick ≡ register_of t → r ≡ decode q
    → a ≡ has r.program (names_in p) → b ≡ has r.terminal (names_in e) → z ≡ sound_row tick slots a b r → sound_in p e t slots q ≡ z
row_tested p e t slots tick q r a b z ht hr ha hb h = sym (h ∙ rw (ha, hb, hr, ht))
