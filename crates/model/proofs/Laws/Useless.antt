-- Document 01's four useless monitors, each as a class, and the demand that keeps it out. Assumes nothing.
use Rattle.std.specs.Prelude.{ℕ, ◌^◌, ◌<◌, true, eqb}
use native.Mathlib.Omega.{arith}
use Rattle.std.proofs.Math.Path.{◌≡◌, refl, ap, sym}
use Rattle.std.proofs.Common.{◌∙◌}
use mathlib.Core.List.{List, [], ◌∷◌, map}
use lib.ListN.{length}
use Rattle.base.specs.Bytes.{blank}
use Rattle.model.specs.Limits.{cabinet}
use Rattle.model.specs.Queues.{append, read_next}
use Rattle.model.specs.Interval.{define_program}
use Rattle.model.specs.State.{State, empty_at}
use Rattle.model.specs.Commands.{Answer, plain, command, issuer, formed, allowed, obeyed, step}
use Rattle.model.specs.Lists.{answers_from}
use Rattle.model.specs.Examples.{defines, appends, next_of}
use Rattle.model.specs.Demands.{Monitor, Stepping, Demand2, Demand3, answers}

-- the answers of a list, by their places
abbrev nth : ℕ → List Answer → Answer
nth n l = lib.ListN.get_or l n (plain 99)

-- an append, a read, and the same append three times
abbrev put : List ℕ
put = appends 1 (7 ∷ [])

abbrev read : List ℕ
read = next_of 1 9

-- ---- what the model does on fresh tables, by computation

fits : 0 < 2 ^ 32
fits = omega arith

program_formed : formed (defines 1) ≡ true
unfolding formed
program_formed = refl

no_item_formed : formed (appends 1 []) ≡ true
unfolding formed
no_item_formed = refl

program_defined : (step cabinet (empty_at 0) (defines 1)).answer.condition ≡ 0
unfolding step formed allowed obeyed define_program
program_defined = refl

no_item_refused : (step cabinet (empty_at 0) (appends 1 [])).answer.condition ≡ 4
unfolding step formed allowed obeyed append
no_item_refused = refl

one_queue : length (step cabinet (empty_at 0) put).state.queues ≡ 1
unfolding step formed allowed obeyed append
one_queue = refl

clock_stays : (step cabinet (empty_at 0) put).state.interval.clock ≡ 0
unfolding step formed allowed obeyed append
clock_stays = refl

read_behind : (nth 1 (answers_from cabinet (empty_at 0) (put ∷ read ∷ []))).condition ≡ 0
unfolding answers_from step formed allowed obeyed append read_next
read_behind = refl

read_alone : (nth 0 (answers_from cabinet (empty_at 0) (read ∷ []))).condition ≡ 2
unfolding answers_from step formed allowed obeyed read_next
read_alone = refl

second_place : (nth 1 (answers_from cabinet (empty_at 0) (put ∷ put ∷ put ∷ []))).number ≡ 2
unfolding answers_from step formed allowed obeyed append
second_place = refl

third_place : (nth 2 (answers_from cabinet (empty_at 0) (put ∷ put ∷ put ∷ []))).number ≡ 3
unfolding answers_from step formed allowed obeyed append
third_place = refl

module _ (M : Monitor) where
  -- ---- one condition to everything: 10 and 0 are two of these

  pub record SaysOnly (k : ℕ) : Type 0 where
    pub says : (t : M.Tables) (r : List ℕ) → formed r ≡ true → eqb (issuer r) (blank 8) ≡ true → (M.step t r).answer.condition ≡ k

  pub no_one_condition : (k : ℕ) → SaysOnly k → Demand2 cabinet M → ⊥
  no_one_condition k u D =
      let so : M.Sound (M.fresh 0) = D.begins 0 fits in
      let st : M.Stands (M.fresh 0) (empty_at 0) = D.empty 0 0 fits refl in
      let a : Stepping cabinet M (M.fresh 0) (empty_at 0) (defines 1) = D.steps (M.fresh 0) (empty_at 0) (defines 1) refl so st in
      let b : Stepping cabinet M (M.fresh 0) (empty_at 0) (appends 1 []) = D.steps (M.fresh 0) (empty_at 0) (appends 1 []) refl so st in
      let x : k ≡ 0 = sym (u.says (M.fresh 0) (defines 1) program_formed refl) ∙ ap (λ (z : Answer). z.condition) a.answer ∙ program_defined in
      let y : k ≡ 4 = sym (u.says (M.fresh 0) (appends 1 []) no_item_formed refl) ∙ ap (λ (z : Answer). z.condition) b.answer ∙ no_item_refused in
      omega arith

  pub no_tens : SaysOnly 10 → Demand2 cabinet M → ⊥
  no_tens = no_one_condition 10

  pub no_zeros : SaysOnly 0 → Demand2 cabinet M → ⊥
  no_zeros = no_one_condition 0

  -- ---- no table is altered, by append at least

  pub record AltersNothing : Type 0 where
    pub same : (t : M.Tables) (r : List ℕ) → command r ≡ 10 → (M.step t r).tables ≡ t

  -- demand 2 fails on append
  pub no_still_2 : AltersNothing → Demand2 cabinet M → ⊥
  no_still_2 u D =
      let so : M.Sound (M.fresh 0) = D.begins 0 fits in
      let st : M.Stands (M.fresh 0) (empty_at 0) = D.empty 0 0 fits refl in
      let a : Stepping cabinet M (M.fresh 0) (empty_at 0) put = D.steps (M.fresh 0) (empty_at 0) put refl so st in
      let st' : M.Stands (M.fresh 0) (step cabinet (empty_at 0) put).state = rw (u.same (M.fresh 0) put refl) at a.state in
      let e : empty_at 0 ≡ (step cabinet (empty_at 0) put).state = D.one (M.fresh 0) (empty_at 0) (step cabinet (empty_at 0) put).state so st st' (sym clock_stays) in
      let z : ◌≡◌ {A = ℕ} 0 1 = ap (λ (x : State). length x.queues) e ∙ one_queue in
      omega arith

  -- demand 3 fails on the read behind it
  pub no_still_3 : AltersNothing → Demand3 cabinet M → ⊥
  unfolding answers
  no_still_3 u D =
      let r : (M.step (M.step (M.fresh 0) put).tables read).answer.condition ≡ 0 = ap (λ (l : List Answer). (nth 1 l).condition) (D.runs 0 0 fits refl (put ∷ read ∷ []) refl) ∙ read_behind in
      let q : (M.step (M.fresh 0) read).answer.condition ≡ 2 = ap (λ (l : List Answer). (nth 0 l).condition) (D.runs 0 0 fits refl (read ∷ []) refl) ∙ read_alone in
      let p : (M.step (M.fresh 0) read).answer.condition ≡ 0 = rw (u.same (M.fresh 0) put refl) at r in
      let z : ◌≡◌ {A = ℕ} 2 0 = sym q ∙ p in
      omega arith

  -- ---- the first command is honoured, and the rest mimicked: each later answer goes by the first record and its own alone

  pub record Mimics : Type 0 where
    pub later : List ℕ → List ℕ → Answer
    pub mimics : (r : List ℕ) (rs : List (List ℕ)) → answers M (M.fresh 0) (r ∷ rs) ≡ (M.step (M.fresh 0) r).answer ∷ map (later r) rs

  pub no_mimic : Mimics → Demand3 cabinet M → ⊥
  no_mimic u D =
      let e : answers_from cabinet (empty_at 0) (put ∷ put ∷ put ∷ []) ≡ (M.step (M.fresh 0) put).answer ∷ map (u.later put) (put ∷ put ∷ []) =
      sym (D.runs 0 0 fits refl (put ∷ put ∷ put ∷ []) refl) ∙ u.mimics put (put ∷ put ∷ []) in
      let x : (u.later put put).number ≡ 2 = sym (ap (λ (a : List Answer). (nth 1 a).number) e) ∙ second_place in
      let y : (u.later put put).number ≡ 3 = sym (ap (λ (a : List Answer). (nth 2 a).number) e) ∙ third_place in
      omega arith
