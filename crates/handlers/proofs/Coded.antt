-- What the code makes of the place that it finds is what the definitions say, for every value of the struct. Assumes nothing.
use Rattle.std.specs.Prelude.{Some, None, Err, position}
use Rattle.std.specs.List.{copy_within}
use Rattle.std.proofs.Common.{add-one, take-take}
use Rattle.std.proofs.lemmas.List.{drop-take}
use Prim.Native.Nat.{ℕ, zero, suc, ◌+◌, ◌-◌, ◌≤◌, ◌<◌}
use mathlib.Core.Path.{◌≡◌, refl, sym, ap, ap₂, ◌∙◌}
use mathlib.Core.Bool.{Bool, true, false, ◌||◌}
use mathlib.Core.List.{List, [], ◌∷◌, ◌++◌}
use native.Mathlib.Omega.{arith}
use lib.Dec.{eqb, ltb}
use lib.ListN.{length, take, drop, set, get_or, replicate, length-take, length-append}
use lib.Seq.{get_or-take}
use borrow.Author.Tests.{lt-ltb, le-ltb, eq-eqb, ne_eqb}
use Rattle.base.specs.Lists.{any, over, cut_at}
use Rattle.base.specs.Laws.Tests.{or_r}
use Rattle.base.specs.Laws.Keep.{first_at_any, first_none, first_default, get_d_first_at}
use Rattle.base.specs.Laws.Library.{position_some, position_none}
use Rattle.base.specs.Laws.Over.{over_self, over_set}
use Rattle.base.specs.Laws.Scans.{take_least}
use Rattle.base.specs.Laws.Cut.{length_cut}
use Rattle.handlers.specs.declared.Setting.{Setting}
use Rattle.handlers.specs.declared.Setting.TheVariants.{Unset, Label}
use Rattle.handlers.specs.declared.Task.{Task}
use Rattle.handlers.specs.declared.Tasks.{Tasks}
use Rattle.handlers.specs.declared.answers.Handled.{Handled}
use Rattle.handlers.specs.Table.{live, with_live}
use Rattle.handlers.specs.Rows.{named, unset, unset_row, setting_at, place_in, task_in, with_row, with_setting}
use Rattle.handlers.specs.Decide.{or_else, decide_in}
use Rattle.handlers.specs.Set.{set_in, set_to, handle_in}
use Rattle.handlers.specs.Forget.{forget_in}
use Rattle.handlers.proofs.Typed.{tabled}

filled : (n c : ℕ) → get_or (replicate n unset) c unset ≡ unset
filled zero c = refl
filled (suc n) zero = refl
filled (suc n) (suc c) = filled n c

-- ---- the place that was found, or none

module _ (t : Tasks) (n : ℕ) where
  module _ (i : ℕ) (f : Some i ≡ position (named n) (live t)) where
    placed : (place_in t n ≡ i) × (i < length (live t))
    placed = position_some (named n) (live t) i (sym f)

    pub before : i < length (live t)
    before = placed.1

    held : any (named n) (live t) ≡ true
    held = first_at_any (named n) (live t) ∙ lt-ltb (place_in t n) (length (live t)) (omega (arith, placed.0, before))

    pub row_held : (d : Task) → get_or t.rows i d ≡ task_in t n
    row_held d =
        sym (get_or-take t.count t.rows i d (omega (arith, before, length-take t.count t.rows))) ∙ ap (λ (k : ℕ). get_or (live t) k d) (sym placed.0)
        ∙ get_d_first_at (named n) d (live t) ∙ first_default (named n) d (unset_row n) (live t) held

    pub decide_held : (c : ℕ) (d : Task) {x y r : Setting} → r ≡ or_else x y → x ≡ setting_at c (get_or t.rows i d) → y ≡ setting_at 0 (get_or t.rows i d)
        → r ≡ decide_in t n c
    unfolding decide_in
    decide_held c d e own general = e ∙ ap₂ or_else (own ∙ ap (setting_at c) (row_held d)) (general ∙ ap (setting_at 0) (row_held d))

    pub set_held : (c : ℕ) (x : Setting) (d : Task) → with_row t i (with_setting c x (get_or t.rows i d)) ≡ set_in t n c x
    unfolding set_in
    set_held c x d =
        rw (lt-ltb (place_in t n) (length (live t)) (omega (arith, placed.0, before)))
        (ap₂ (with_row t) (sym placed.0) (ap (with_setting c x) (row_held d)))

    -- those behind it have moved down
    moved : copy_within t.rows (i + 1) (length (live t)) i ≡ over (cut_at i (live t)) t.rows
    moved =
        let l = live t in
        let m = length l in
        let r = t.rows in
        let e : take m r ≡ l = ap (λ (k : ℕ). take k r) (length-take t.count r) ∙ take_least t.count r in
        let front : take i r ≡ take i l = sym (take-take i m r (omega (arith, before))) ∙ ap (take i) e in
        let k : i + 1 + (m - (i + 1)) ≡ m = omega (arith, before) in
        let back : take (m - (i + 1)) (drop (i + 1) r) ≡ drop (suc i) l =
        sym (drop-take (i + 1) (m - (i + 1)) r) ∙ ap₂ (λ (a b : ℕ). drop a (take b r)) (add-one i) k ∙ ap (drop (suc i)) e in
        let j : i + (m - (i + 1)) ≡ length (cut_at i l) = omega (arith, length_cut i l before, before) in
        ap₂ (λ (a b : List Task). a ++ b ++ drop (i + (m - (i + 1))) r) front back ∙ ap (λ (a : ℕ). cut_at i l ++ drop a r) j

    pub forget_held : tabled (length (live t) - 1) (copy_within t.rows (i + 1) (length (live t)) i) ≡ forget_in t n
    unfolding forget_in
    forget_held =
        let m : length (live t) - 1 ≡ length (cut_at i (live t)) = omega (arith, length_cut i (live t) before) in
        rw held (ap₂ tabled m moved ∙ ap (λ (k : ℕ). with_live t (cut_at k (live t))) (sym placed.0))

  module _ (f : None ≡ position (named n) (live t)) where
    at_end : place_in t n ≡ length (live t)
    at_end = position_none (named n) (live t) (sym f)

    none : any (named n) (live t) ≡ false
    none = first_at_any (named n) (live t) ∙ le-ltb (place_in t n) (length (live t)) (omega (arith, at_end))

    row_none : task_in t n ≡ unset_row n
    row_none = first_none (named n) (unset_row n) (live t) none

    pub decide_none : (c : ℕ) → Unset ≡ decide_in t n c
    unfolding decide_in
    decide_none c = rw (row_none, filled 11 c)

    pub set_new : (c : ℕ) (x : Setting) → length (live t) < 16 → length t.rows ≡ 16
        → tabled (length (live t) + 1) (set t.rows (length (live t)) (with_setting c x (unset_row n))) ≡ set_in t n c x
    unfolding set_in
    set_new c x h k =
        let v = with_setting c x (unset_row n) in
        let e : length (live t) + 1 ≡ length (live t ++ (v ∷ [])) = omega (arith, length-append (live t) (v ∷ [])) in
        let r : set t.rows (length (live t)) v ≡ over (live t ++ (v ∷ [])) t.rows =
        ap (λ (l : List Task). set l (length (live t)) v) (sym (over_self t.count t.rows)) ∙ over_set (live t) t.rows v (omega arith) in
        rw (at_end, row_none, le-ltb (length (live t)) (length (live t)) (omega arith), lt-ltb (length (live t)) 16 h) (ap₂ tabled e r)

    pub set_full : (c : ℕ) (x : Setting) → 16 ≤ length (live t) → t ≡ set_in t n c x
    unfolding set_in
    set_full c x h =
        rw (at_end, le-ltb (length (live t)) (length (live t)) (omega arith), le-ltb (length (live t)) 16 h)

    pub forget_none : t ≡ forget_in t n
    unfolding forget_in
    forget_none = rw none

-- ---- the commands

or_no : (a : Bool) {b : Bool} → b ≡ false → (a || b) ≡ a
or_no true e = refl
or_no false e = e

abbrev refused : Tasks → Handled
refused t = record { tasks = t; outcome = Err (record {}) }

module _ (t : Tasks) (n c : ℕ) where
  pub handle_zero : (label : ℕ) → label ≡ 0 → ◌≡◌ {A = Handled} (refused t) (handle_in t n c label)
  unfolding handle_in
  handle_zero label h = rw (or_r (ltb 10 c) (eqb label 0) (eq-eqb label 0 h))

  pub handle_some : (label : ℕ) (r : Handled) → (label ≡ 0 → ⊥) → r ≡ set_to (ltb 10 c) t n c (Label label) → r ≡ handle_in t n c label
  unfolding handle_in
  handle_some label r h e = e ∙ ap (λ (b : Bool). set_to b t n c (Label label)) (sym (or_no (ltb 10 c) (ne_eqb label 0 h)))
