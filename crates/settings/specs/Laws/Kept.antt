-- Each exact definition keeps the lengths, and the widths of the words. Assumes nothing.
use Rattle.std.specs.Prelude.{ℕ, ◌^◌, ◌<◌, ◌≤◌, ◌≡◌, Bool, true, ◌&&◌, ◌||◌, List, [], ◌∷◌, ◌++◌, ltb, length, set}
use Rattle.std.proofs.Math.Path.{refl}
use Rattle.std.proofs.Common.{ap, ◌∙◌, arith, length-set, lt-ltb}
use Rattle.std.proofs.Math.Dec.{eqb}
use Rattle.std.proofs.lemmas.List.{length-replicate}
use Rattle.base.specs.Lists.{all, any, cut_at}
use Rattle.base.specs.Laws.Tests.{and_l, and_r, and_i, pick_elim}
use Rattle.base.specs.Laws.Keep.{all_append, all_take, all_set, all_replicate, first_or}
use Rattle.base.specs.Laws.Over.{length_over, all_over}
use Rattle.model.specs.Plans.{Outcome}
use Rattle.settings.specs.declared.Setting.{Setting}
use Rattle.settings.specs.declared.Setting.TheVariants.{Unset, Ignore, Label}
use Rattle.settings.specs.Rows.{Line, setting_word, named, unset_line, no_line, with_word, with_setting}
use Rattle.settings.specs.Table.{Tasks, rows_in, live, with_live, place_in, line_in}
use Rattle.settings.specs.Fresh.{fresh_of}
use Rattle.settings.specs.Set.{put_in, set_in, set_to, handle_in, ignore_in, reset_in}
use Rattle.settings.specs.Forget.{forget_in}
use Rattle.settings.specs.Laws.Lines.{all_cut, eleven}
use Rattle.settings.specs.Laws.Set.{more_fits}
use Rattle.settings.specs.Laws.Forget.{cut_fits}
use Rattle.settings.specs.Laws.Typed.{wide_word, typed_row, Typed}

-- ---- rows

unset_typed : (n : ℕ) → n < 2 ^ 64 → typed_row (unset_line n) ≡ true
unset_typed n h = and_i (lt-ltb n (2 ^ 64) h) refl

word_typed : (c w : ℕ) (v : Line) → wide_word w ≡ true → typed_row v ≡ true → typed_row (with_word c w v) ≡ true
word_typed c w v k h =
    let cells = v.cells in
    let rest = and_r (wide_word v.name) (eleven v && all wide_word cells) h in
    let long : eqb (length (set cells c w)) 11 ≡ true = ap (λ (m : ℕ). eqb m 11) (length-set cells c w) ∙ and_l (eleven v) (all wide_word cells) rest in
    and_i (and_l (wide_word v.name) (eleven v && all wide_word cells) h)
    (and_i long (all_set wide_word cells c w (and_r (eleven v) (all wide_word cells) rest) k))

-- ---- the tables

module _ (R P : ℕ) (t : Tasks) (y : Typed R P t) (few : R < 2 ^ 64) where
  live_typed : all typed_row (live t) ≡ true
  live_typed = all_take typed_row t.count t.rows y.each

  -- other live rows
  live_put : (l : List Line) → length l ≤ rows_in t → all typed_row l ≡ true → Typed R P (with_live t l)
  live_put l n h = record {
    counted = omega (arith, y.rows);
    rows = length_over l t.rows n ∙ y.rows;
    each = all_over typed_row l t.rows h y.each;
    past = y.past;
    rest = y.rest;
  }

  put_typed : (i : ℕ) (v : Line) → typed_row v ≡ true → Typed R P (put_in t i v)
  put_typed i v h =
      pick_elim (Typed R P) (ltb i (length (live t))) _ _
      (λ _. record {
        counted = y.counted;
        rows = length-set t.rows i v ∙ y.rows;
        each = all_set typed_row t.rows i v y.each h;
        past = y.past;
        rest = y.rest;
      })
      (λ _. pick_elim (Typed R P) (ltb (length (live t)) (rows_in t)) _ _
      (λ e. live_put (live t ++ (v ∷ [])) (more_fits t i v e)
      (all_append typed_row (live t) (v ∷ []) ∙ and_i live_typed (and_i h refl)))
      (λ _. y))

  module _ (n : ℕ) (w : n < 2 ^ 64) where
    set_typed : (c : ℕ) (x : Setting) → wide_word (setting_word x) ≡ true → Typed R P (set_in t n c x)
    unfolding set_in
    set_typed c x h =
        put_typed (place_in t n) (with_setting c x (line_in t n))
        (word_typed c (setting_word x) (line_in t n) h (first_or (named n) typed_row (unset_line n) (live t) (unset_typed n w) live_typed))

    -- all three commands
    to_typed : (refused : Bool) (c : ℕ) (x : Setting) → wide_word (setting_word x) ≡ true → Typed R P (set_to refused t n c x).state
    to_typed refused c x h = pick_elim (λ (o : Outcome Tasks). Typed R P o.state) refused _ _ (λ _. y) (λ _. set_typed c x h)

    pub handle_typed : (c label : ℕ) → label < 2 ^ 16 → Typed R P (handle_in t n c label).state
    unfolding handle_in
    handle_typed c label h = to_typed (ltb 10 c || eqb label 0) c (Label label) (lt-ltb label (2 ^ 64) (omega arith))

    pub ignore_typed : (c : ℕ) → Typed R P (ignore_in t n c).state
    unfolding ignore_in
    ignore_typed c = to_typed (ltb 10 c) c Ignore refl

    pub reset_typed : (c : ℕ) → Typed R P (reset_in t n c).state
    unfolding reset_in
    reset_typed c = to_typed (ltb 10 c) c Unset refl

  pub forget_typed : (n : ℕ) → Typed R P (forget_in t n)
  unfolding forget_in
  forget_typed n =
      let i = place_in t n in
      pick_elim (Typed R P) (any (named n) (live t)) _ _
      (λ h. live_put (cut_at i (live t)) (cut_fits t n h) (all_cut typed_row i (live t) live_typed))
      (λ _. y)

-- from any
pub fresh_typed : (t : Tasks) → Typed (rows_in t) (length t.past) (fresh_of t)
unfolding fresh_of
fresh_typed t = record {
  counted = omega arith;
  rows = length-replicate (rows_in t) no_line;
  each = all_replicate typed_row (rows_in t) no_line refl;
  past = length-replicate (length t.past) 0;
  rest = all_replicate wide_word (length t.past) 0 refl;
}
