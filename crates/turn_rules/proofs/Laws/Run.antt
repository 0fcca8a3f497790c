-- A run: from fresh tables of any sizes that the cabinet's bounds allow, records one after the other get the model's answers, at every clock that the
-- start value can mean, though no test of soundness stands between them: the tables stay sound. Assumes nothing.
use Rattle.std.specs.Prelude.{ℕ, ◌%◌, ◌^◌, ◌≡◌, refl, Bool, false, not, eqb}
use Rattle.std.proofs.Common.{sym, ap, subst, ◌∙◌, arith, ne_eqb}
use Rattle.std.proofs.Math.Path.{ap₂}
use Rattle.std.proofs.Math.Bool.{true}
use mathlib.Core.List.{List, [], ◌∷◌}
use Rattle.base.specs.Bytes.{is_bytes}
use Rattle.base.specs.Lists.{all}
use Rattle.base.specs.Laws.Tests.{and_l, and_r, and_i}
use Rattle.model.specs.Limits.{Limits}
use Rattle.model.specs.Commands.{Answer, Turn, step}
use Rattle.model.specs.State.{State, empty_at}
use Rattle.model.specs.Lists.{answers_from, state_after}
use Rattle.model.specs.Demands.{answers, are_bytes}
use Rattle.model.proofs.Laws.Conditions.{turn_is, fine_heard}
use Rattle.model.proofs.Laws.Generic as generic
use Rattle.request_rows.specs.Table.{register_of}
use Rattle.turn_rules.specs.Tables.{Tables}
use Rattle.turn_rules.specs.Turn.{turn_of}
use Rattle.turn_rules.specs.Standing.{state_at, StandsFor, sound_t, Typed, fresh_of, Sizes, limits, Fit, Sized}
use Rattle.turn_rules.specs.Run.{answers_in, tables_after}
use Rattle.turn_rules.proofs.Monitor.{Held, keeping, monitor_of}
use Rattle.turn_rules.specs.Laws.Kept.{Keeps, keeps_itself, keeps_then}
use Rattle.turn_rules.proofs.Laws.TurnKept.{turn_kept}
use Rattle.turn_rules.proofs.Laws.Fresh.{fresh_kept, fresh_stands, fresh_fine, fresh_sound}
use Rattle.turn_rules.specs.Laws.Sizes.{sized_roomy, sized_kept}
use Rattle.turn_rules.proofs.Laws.Step.{turn_sound}
use Rattle.turn_rules.proofs.Laws.Held.{turn_answer, turn_stands}
use Rattle.turn_rules.proofs.Laws.Demands.{own_stands, demand2}

-- ---- "Through the list only 33 and 34 can arise."

abbrev pub broken : Answer → Bool
broken a = eqb a.condition 32

never_broken : (L : Limits) (s : State) (r : List ℕ) → broken (step L s r).answer ≡ false
never_broken L s r =
    turn_is L s r (λ (x : Turn). broken x.answer ≡ false)
    (λ e a. let small = (fine_heard L s r e a).small in ne_eqb (step L s r).answer.condition 32 (λ z. omega arith)) refl refl

model_unbroken : (L : Limits) (rs : List (List ℕ)) (s : State) → all (λ (a : Answer). not (broken a)) (answers_from L s rs) ≡ true
unfolding answers_from
model_unbroken L [] s = refl
model_unbroken L (r ∷ rs) s = and_i (ap not (never_broken L s r)) (model_unbroken L rs (step L s r).state)

-- ---- from sound tables

-- what a run from t comes to, where t stands for s
pub record Ran (z : Sizes) (t : Tables) (s : State) (rs : List (List ℕ)) : Type 0 where
  pub answers : answers_in t rs ≡ answers_from (limits z) s rs
  pub soundly : sound_t (tables_after t rs) ≡ true
  pub stands : StandsFor (tables_after t rs) (state_after (limits z) s rs)
  pub kept : Keeps t (tables_after t rs)

pub unbroken : {z : Sizes} {t : Tables} {s : State} {rs : List (List ℕ)} → Ran z t s rs → all (λ (a : Answer). not (broken a)) (answers_in t rs) ≡ true
unbroken {z} {t} {s} {rs} x = subst (λ (l : List Answer). all (λ (a : Answer). not (broken a)) l ≡ true) (sym x.answers) (model_unbroken (limits z) rs s)

module _ {z : Sizes} (f : Fit z) where
  pub runs_on : (rs : List (List ℕ)) (h : Held z) (s : State) → are_bytes rs ≡ true → sound_t h.tables ≡ true → StandsFor h.tables s
      → Ran z h.tables s rs
  unfolding answers_in tables_after answers_from state_after
  runs_on [] h s b k d = record { answers = refl; soundly = k; stands = d; kept = keeps_itself h.tables h.typed }
  runs_on (r ∷ rs) h s b k d =
      let y : is_bytes r ≡ true = and_l (is_bytes r) (are_bytes rs) b in
      let t = h.tables in
      let one : Keeps h.tables (turn_of h.tables r).tables = turn_kept t h.typed r y in
      let x = runs_on rs (keeping h (turn_of t r).tables one) (step (limits z) s r).state (and_r (is_bytes r) (are_bytes rs) b)
      (turn_sound t h.typed k r y) (turn_stands f h r y k s d) in
      record {
        answers = ap₂ (λ (a : Answer) (l : List Answer). a ∷ l) (turn_answer f h r y k s d) x.answers;
        soundly = x.soundly;
        stands = x.stands;
        kept = keeps_then t (turn_of t r).tables (tables_after t (r ∷ rs)) one x.kept;
      }

  -- a test of soundness before each record would change nothing
  pub untested : (rs : List (List ℕ)) (h : Held z) → are_bytes rs ≡ true → sound_t h.tables ≡ true → answers (monitor_of z f) h rs ≡ answers_in h.tables rs
  untested rs h b k =
      let d = own_stands h.tables in
      let s = state_at (register_of h.tables.requests) h.tables in
      generic.from_sound (limits z) (monitor_of z f) (demand2 z f) rs h s b k d ∙ sym (runs_on rs h s b k d).answers

-- ---- from fresh ones

-- made of any tables of those sizes, at every clock that the start value can mean
pub runs_fresh : (z : Sizes) → Fit z → (t : Tables) → Typed t → Sized z t → (v c : ℕ) → c % 2 ^ 32 ≡ v → (rs : List (List ℕ)) → are_bytes rs ≡ true
    → Ran z (fresh_of t v) (empty_at c) rs
runs_fresh z f t y h v c e rs b =
    let k = fresh_kept t v y (omega arith) in
    let fresh : Held z = record { tables = fresh_of t v; typed = k.typed; sized = sized_kept z t h (fresh_of t v) k } in
    let d : StandsFor (fresh_of t v) (empty_at c) = record { means = (fresh_fine t v h.register c e).interval.means; state = fresh_stands t v c } in
    runs_on f rs fresh (empty_at c) b (fresh_sound t v h.register y (sized_roomy z t h) (omega arith)) d
