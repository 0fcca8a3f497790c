-- The monitor's answers are the model's, so the run is the model's, and meets the demands on a list entry. Assumes nothing.
use Rattle.std.specs.Prelude.{◌≡◌, refl, true, not, List, [], ◌∷◌, ℕ, ◌*◌, ◌^◌, ◌<◌, eqb, leb, length}
use Rattle.std.proofs.Common.{ap, subst, sym, ◌∙◌, mod-eq_of_lt, arith, ne_eqb}
use Rattle.base.specs.Choice.{pick}
use Rattle.base.specs.Lists.{all}
use Rattle.base.specs.Bytes.{is_bytes}
use Rattle.base.specs.Laws.Tests.{and_l, and_r, and_i}
use Rattle.model.specs.Limits.{cabinet}
use Rattle.model.specs.State.{State, empty_at}
use Rattle.model.specs.Commands.{Answer, Turn, step}
use Rattle.model.specs.Demands.{are_bytes, ListDemands}
use Rattle.model.specs.Lists.{Framed, bad, good, framed, Ran, refusal, answered, answers_from, ran, run}
use Rattle.model.proofs.Laws.Conditions.{turn_is, fine_heard}
use Rattle.model.proofs.Laws.Entry.{value_fits, framed_bytes, entry_meets}
use Rattle.interval.specs.Fresh.{fresh_at}
use Rattle.interval.specs.Stands.{Means}
use Rattle.monitor.specs.Step.{step_on}
use Rattle.monitor.specs.Table.{fresh_parts, fresh_tables, no_items, state_at, sound_p}
use Rattle.monitor.specs.Laws.Fine.{Typed, fresh_fine, fresh_sound, fresh_stands}
use Rattle.monitor.specs.Laws.Step.{step_typed}
use Rattle.monitor.proofs.Laws.Step.{goes_at, step_keeps}
use Rattle.monitor.specs.declared.Tables.{Tables}
use Rattle.lists.specs.Run.{answers_on, run_on}

-- from sound tables, at a clock that their register can mean, any number of records
answers_on_lem : (rs : List (List ℕ)) (t : Tables) → Typed t → sound_p t.parts ≡ true → (c : ℕ) → Means t.parts.requests c → are_bytes rs ≡ true
    → answers_on t rs ≡ answers_from cabinet (state_at c t) rs
unfolding answers_on answers_from
answers_on_lem [] t y k c m h = refl
answers_on_lem (r ∷ rs) t y k c m h =
    let b = and_l (is_bytes r) (are_bytes rs) h in
    let g = goes_at t y k r b c m in
    let head : (step_on t r).answer ≡ (step cabinet (state_at c t) r).answer = g.answer in
    let tail : answers_on (step_on t r).tables rs ≡ answers_from cabinet (step cabinet (state_at c t) r).state rs =
    answers_on_lem rs (step_on t r).tables (step_typed t y k r b) (step_keeps t y k r b) g.clock g.means (and_r (is_bytes r) (are_bytes rs) h)
    ∙ ap (λ (s : State). answers_from cabinet s rs) g.stands in
    cc

-- and so from fresh ones
pub answers_fresh : (v : ℕ) (rs : List (List ℕ)) → v < 2 ^ 32 → are_bytes rs ≡ true → answers_on (fresh_tables v) rs ≡ answers_from cabinet (empty_at v) rs
unfolding fresh_parts fresh_at
answers_fresh v rs h b =
    answers_on_lem rs (fresh_tables v) (fresh_fine v h).typed (fresh_sound v h) v (sym (mod-eq_of_lt h)) b ∙ ap (λ (s : State). answers_from cabinet s rs) (fresh_stands v no_items v)

ran_is : (l b : List ℕ) (f : Framed) → is_bytes l ≡ true → framed l ≡ f → run_on f b ≡ ran cabinet b f
unfolding run_on
ran_is l b bad h e = refl
ran_is l b (good v rs) h e =
    ap (λ (a : List Answer). pick (leb (74 * length rs) (length b)) (answered a b) (refusal 36 b)) (answers_fresh v rs (value_fits l v rs h e) (framed_bytes l v rs h e))

pub run_is : (l b : List ℕ) → is_bytes l ≡ true → run_on (framed l) b ≡ run cabinet l b
unfolding run
run_is l b h = ran_is l b (framed l) h refl

-- the exact clause of `run`, and the model's with it
pub both : (l b : List ℕ) (x : Ran) → is_bytes l ≡ true → x ≡ run_on (framed l) b → (x ≡ run_on (framed l) b) × (x ≡ run cabinet l b)
both l b x h e = (e, e ∙ run_is l b h)

-- the demands on a list entry
pub run_meets : ListDemands cabinet (λ l b. run_on (framed l) b)
run_meets = record {
  refused = λ l b h e. run_is l b h ∙ (entry_meets cabinet).refused l b h e;
  short = λ l b v rs h e f. run_is l b h ∙ (entry_meets cabinet).short l b v rs h e f;
  runs = λ l b v c rs h e f g. run_is l b h ∙ (entry_meets cabinet).runs l b v c rs h e f g;
  moved = λ l m b v w rs hl hm el em f. run_is m b hm ∙ (entry_meets cabinet).moved l m b v w rs hl hm el em f;
}

-- ---- "Through the list only 33 and 34 can arise."

-- a record that is heard has a condition of 0..10
not_32 : (s : State) (r : List ℕ) → (step cabinet s r).answer.condition ≡ 32 → ⊥
not_32 s r =
    turn_is cabinet s r (λ (x : Turn). x.answer.condition ≡ 32 → ⊥)
    (λ f a e. omega (arith, (fine_heard cabinet s r f a).small)) (λ e. omega arith) (λ e. omega arith)

never_from : (rs : List (List ℕ)) (s : State) → all (λ (a : Answer). not (eqb a.condition 32)) (answers_from cabinet s rs) ≡ true
unfolding answers_from
never_from [] s = refl
never_from (r ∷ rs) s = and_i (ap not (ne_eqb (step cabinet s r).answer.condition 32 (not_32 s r))) (never_from rs (step cabinet s r).state)

-- of the answers that a run writes, no one has condition 32
pub never_32 : (v : ℕ) (rs : List (List ℕ)) → v < 2 ^ 32 → are_bytes rs ≡ true → all (λ (a : Answer). not (eqb a.condition 32)) (answers_on (fresh_tables v) rs) ≡ true
never_32 v rs h b = ap (all (λ (a : Answer). not (eqb a.condition 32))) (answers_fresh v rs h b) ∙ never_from rs (empty_at v)
