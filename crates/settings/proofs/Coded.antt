-- What the code makes of the place that it finds is what the definitions say. Assumes nothing.
use Prim.Native.Nat.{ℕ, zero, suc, ◌+◌, ◌-◌, ◌≤◌, ◌<◌}
use mathlib.Core.Path.{◌≡◌, refl, sym, ap, ap₂, ◌∙◌}
use mathlib.Core.Bool.{true, false}
use mathlib.Core.List.{List, [], ◌∷◌, ◌++◌, map}
use native.Mathlib.Omega.{arith}
use lib.ListN.{length, take, get_or, set, replicate, length-take, length-append, get_or-map}
use lib.Seq.{get_or-take}
use borrow.Author.Tests.{lt-ltb, le-ltb, lt-leb, le-leb}
use Rattle.std.specs.Prelude.{Some, None, position}
use Rattle.base.specs.Lists.{all, any, has, once, over, cut_at}
use Rattle.base.specs.Laws.Keep.{first_at_any, first_none, first_default, get_d_first_at}
use Rattle.base.specs.Laws.Library.{position_some, position_none}
use Rattle.base.specs.Laws.Maps.{map_take}
use Rattle.base.specs.Laws.Counting.{has_map}
use Rattle.base.specs.Laws.Over.{over_put}
use Rattle.base.specs.Laws.Scans.{take_least}
use Rattle.base.specs.Laws.Cut.{length_cut}
use Rattle.settings.specs.declared.Setting.{Setting}
use Rattle.settings.specs.declared.Setting.TheVariants.{Unset}
use Rattle.settings.specs.Rows.{Line, name_of, read_setting, setting_word, named, unset_line, no_line, setting_at, with_word}
use Rattle.settings.specs.Table.{Tasks, tasks, rows_in, live, with_row, place_in, line_in, sound_h}
use Rattle.settings.specs.Decide.{or_else, decide_in}
use Rattle.settings.specs.Set.{add_in, set_in}
use Rattle.settings.specs.Forget.{forget_in}
use Rattle.settings.specs.Laws.Lines.{eleven}
use Rattle.settings.specs.Laws.Standing.{sound_once}

zero_at : (n c : ℕ) → ◌≡◌ {A = ℕ} (get_or (replicate n 0) c 0) 0
zero_at zero c = refl
zero_at (suc n) zero = refl
zero_at (suc n) (suc c) = zero_at n c

-- as many as count
module _ (t : Tasks) (n : ℕ) (e : n ≡ length (live t)) where
  pub fits : n ≤ rows_in t
  fits = omega (arith, length-take t.count t.rows)

  pub first_live : take n t.rows ≡ live t
  first_live = ap (λ (k : ℕ). take k t.rows) (e ∙ length-take t.count t.rows) ∙ take_least t.count t.rows

  -- a row behind them
  pub add_put : (v : Line) → n < rows_in t → tasks (n + 1) (set t.rows n v) t.past ≡ add_in t v
  add_put v h =
      let l : set t.rows n v ≡ over (live t ++ (v ∷ [])) t.rows =
      over_put n t.rows v h ∙ ap (λ (r : List Line). over (r ++ (v ∷ [])) t.rows) first_live in
      let m : n + 1 ≡ length (live t ++ (v ∷ [])) = omega (arith, length-append (live t) (v ∷ [])) in
      rw (lt-ltb (length (live t)) (rows_in t) (omega arith)) (ap₂ (λ (j : ℕ) (r : List Line). tasks j r t.past) m l)

  -- the count is within the rows, or not
  pub sound_large : n < t.count → false ≡ sound_h t
  unfolding sound_h
  sound_large h = rw (lt-leb t.count (rows_in t) (omega (arith, length-take t.count t.rows)))

  pub sound_named : t.count ≤ n → all eleven t.rows ≡ true → once (map name_of (take n t.rows)) ≡ sound_h t
  unfolding sound_h
  sound_named h s =
      rw (le-leb t.count (rows_in t) (omega (arith, length-take t.count t.rows)))
      (ap (λ (l : List Line). once (map name_of l)) first_live ∙ sym (sound_once t s))

-- n tasks have settings, and i is the place that was found for the task's
pub record Found (t : Tasks) (n task i : ℕ) : Type 0 where
  pub many : n ≡ length (live t)
  pub place : Some i ≡ position (named task) (take n t.rows)

pub found : (t : Tasks) {n task i : ℕ} → n ≡ length (live t) → Some i ≡ position (named task) (take n t.rows) → Found t n task i
found t m p = record { many = m; place = p }

module _ {t : Tasks} {n task i : ℕ} (f : Found t n task i) where
  -- the task has a row
  placed : (place_in t task ≡ i) × (i < length (live t))
  placed = position_some (named task) (live t) i (sym (f.place ∙ ap (position (named task)) (first_live t n f.many)))

  at_place : i ≡ place_in t task
  at_place = sym placed.0

  before_end : place_in t task < length (live t)
  before_end = omega (arith, placed.1, placed.0)

  held : any (named task) (live t) ≡ true
  held = first_at_any (named task) (live t) ∙ lt-ltb (place_in t task) (length (live t)) before_end

  pub before : i < n
  before = omega (arith, placed.1, f.many)

  pub there : i < rows_in t
  there = omega (arith, before, fits t n f.many)

  row_held : get_or t.rows i no_line ≡ line_in t task
  row_held =
      let b : i < t.count = omega (arith, before, f.many, length-take t.count t.rows) in
      sym (get_or-take t.count t.rows i no_line b) ∙ ap (λ (k : ℕ). get_or (live t) k no_line) at_place
      ∙ get_d_first_at (named task) no_line (live t) ∙ first_default (named task) no_line (unset_line task) (live t) held

  pub decide_held : (c : ℕ) {x y r : Setting} → r ≡ or_else x y → x ≡ setting_at c (get_or t.rows i no_line) → y ≡ setting_at 0 (get_or t.rows i no_line)
      → r ≡ decide_in t task c
  unfolding decide_in
  decide_held c d own general = d ∙ ap₂ or_else (own ∙ ap (setting_at c) row_held) (general ∙ ap (setting_at 0) row_held)

  pub set_held : (c w : ℕ) (x : Setting) → w ≡ setting_word x → with_row t i (with_word c w (get_or t.rows i no_line)) ≡ set_in t task c x
  unfolding set_in
  set_held c w x e =
      rw (lt-ltb (place_in t task) (length (live t)) before_end)
      (ap₂ (with_row t) at_place (ap₂ (λ (k : ℕ) (v : Line). with_word c k v) e row_held))

  pub forget_held : tasks (n - 1) (over (cut_at i (take n t.rows)) t.rows) t.past ≡ forget_in t task
  unfolding forget_in
  forget_held =
      let k : cut_at i (take n t.rows) ≡ cut_at (place_in t task) (live t) = ap₂ cut_at at_place (first_live t n f.many) in
      let m : n - 1 ≡ length (cut_at (place_in t task) (live t)) =
      omega (arith, f.many, length_cut (place_in t task) (live t) before_end) in
      rw held (ap₂ (λ (j : ℕ) (l : List Line). tasks j (over l t.rows) t.past) m k)

-- it has none
module _ (t : Tasks) (n task : ℕ) (many : n ≡ length (live t)) (missed : None ≡ position (named task) (take n t.rows)) where
  at_end : place_in t task ≡ length (live t)
  at_end = position_none (named task) (live t) (sym (missed ∙ ap (position (named task)) (first_live t n many)))

  none : any (named task) (live t) ≡ false
  none = first_at_any (named task) (live t) ∙ le-ltb (place_in t task) (length (live t)) (omega (arith, at_end))

  row_none : line_in t task ≡ unset_line task
  row_none = first_none (named task) (unset_line task) (live t) none

  pub decide_none : (c : ℕ) → Unset ≡ decide_in t task c
  unfolding decide_in read_setting
  decide_none c = rw (row_none, zero_at 11 c)

  pub set_none : (c w : ℕ) (x : Setting) → w ≡ setting_word x → add_in t (with_word c w (unset_line task)) ≡ set_in t task c x
  unfolding set_in
  set_none c w x e =
      rw (le-ltb (place_in t task) (length (live t)) (omega (arith, at_end)))
      (ap (add_in t) (ap₂ (λ (k : ℕ) (v : Line). with_word c k v) e (sym row_none)))

  pub forget_none : t ≡ forget_in t task
  unfolding forget_in
  forget_none = rw none

-- ---- a name is looked for among those before it

module _ (l : List Line) (i : ℕ) (h : i < length l) where
  pub named_before : (name : ℕ) → name ≡ name_of (get_or l i no_line)
      → has (get_or (map name_of l) i 0) (take i (map name_of l)) ≡ any (named name) (take i l)
  named_before name e =
      ap₂ has (get_or-map name_of l i no_line ∙ sym e) (sym (map_take name_of i l)) ∙ has_map name_of name (take i l)
