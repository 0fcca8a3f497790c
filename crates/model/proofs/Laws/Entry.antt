-- The model's own run meets the demands on a list entry. Assumes nothing.
use Rattle.std.specs.Prelude.{ℕ, suc, zero, ◌+◌, ◌*◌, ◌/◌, ◌%◌, ◌^◌, ◌<◌, ◌≤◌, ◌≡◌, Bool, true, take, drop, eqb}
use Rattle.std.proofs.Math.Nat.{add-mul-mod_self_right}
use Rattle.std.proofs.Common.{div-add-mod', arith, sym, ◌∙◌, le-leb}
use Rattle.std.proofs.Math.Path.{refl, ap}
use mathlib.Core.List.{List, [], ◌∷◌}
use Rattle.std.proofs.Math.ListN.{length}
use Rattle.std.proofs.lemmas.Bool.{lt-leb}
use Rattle.base.specs.Choice.{pick}
use Rattle.base.specs.Bytes.{num, is_bytes}
use Rattle.base.specs.Laws.Tests.{and_i, pick_elim}
use Rattle.base.specs.Laws.Bytes.{num_bound, is_bytes_take, is_bytes_drop}
use Rattle.model.specs.Limits.{Limits}
use Rattle.model.specs.State.{State, empty_at}
use Rattle.model.specs.Commands.{step}
use Rattle.model.specs.Lists.{Framed, bad, good, behind, whole, records, headed, framed, answers_from, refusal, answered, ran, run}
use Rattle.model.specs.Demands.{ListDemands, are_bytes}
use Rattle.model.proofs.Laws.Shift.{shift, state_shift, answer_same}
use Rattle.model.proofs.Laws.Moved.{from_two, round}

-- ---- an accepted list tells its header's start value

value_of : ℕ → Framed → ℕ
value_of d bad = d
value_of d (good v rs) = v

behind_value : (v : ℕ) (r : List ℕ) (x : Framed) → value_of v x ≡ v → value_of v (behind r x) ≡ v
unfolding value_of
behind_value v r bad e = e
behind_value v r (good w rs) e = e

pick_value : (v : ℕ) (b : Bool) (x y : Framed) → value_of v x ≡ v → value_of v y ≡ v → value_of v (pick b x y) ≡ v
pick_value v b x y e f = pick_elim (λ (z : Framed). value_of v z ≡ v) b x y (λ _. e) (λ _. f)

records_value : (v f : ℕ) (l : List ℕ) → value_of v (records v f l) ≡ v
unfolding value_of
records_value v zero l = pick_value v (eqb (length l) 0) (good v []) bad refl refl
records_value v (suc f) l =
    pick_value v (eqb (length l) 0) (good v []) _ refl
    (pick_value v (whole l) _ bad (behind_value v (take (num 0 2 l) (drop 2 l)) (records v f (drop (2 + num 0 2 l) l)) (records_value v f (drop (2 + num 0 2 l) l))) refl)

pub framed_value : (l : List ℕ) (v : ℕ) (rs : List (List ℕ)) → framed l ≡ good v rs → v ≡ num 5 4 l
unfolding framed value_of
framed_value l v rs e =
    sym (ap (value_of (num 5 4 l)) e) ∙ pick_value (num 5 4 l) (headed l) (records (num 5 4 l) (length l) (drop 9 l)) bad (records_value (num 5 4 l) (length l) (drop 9 l)) refl

pub value_fits : (l : List ℕ) (v : ℕ) (rs : List (List ℕ)) → is_bytes l ≡ true → framed l ≡ good v rs → v < 2 ^ 32
value_fits l v rs b e = let h : num 5 4 l < 256 ^ 4 = num_bound 5 4 l b in rw (framed_value l v rs e) h

-- ---- the records of a list of bytes are bytes
bytes_in : Framed → Bool
bytes_in bad = true
bytes_in (good v rs) = are_bytes rs

behind_bytes : (r : List ℕ) (x : Framed) → is_bytes r ≡ true → bytes_in x ≡ true → bytes_in (behind r x) ≡ true
unfolding bytes_in
behind_bytes r bad b h = refl
behind_bytes r (good v rs) b h = and_i b h

records_bytes : (v f : ℕ) (l : List ℕ) → is_bytes l ≡ true → bytes_in (records v f l) ≡ true
unfolding bytes_in
records_bytes v zero l b = pick_elim (λ (x : Framed). bytes_in x ≡ true) (eqb (length l) 0) (good v []) bad (λ _. refl) (λ _. refl)
records_bytes v (suc f) l b =
    let n = num 0 2 l in
    pick_elim (λ (x : Framed). bytes_in x ≡ true) (eqb (length l) 0) (good v []) _ (λ _. refl)
    (λ _. pick_elim (λ (x : Framed). bytes_in x ≡ true) (whole l) _ bad
    (λ _. behind_bytes (take n (drop 2 l)) (records v f (drop (2 + n) l)) (is_bytes_take n (drop 2 l) (is_bytes_drop 2 l b)) (records_bytes v f (drop (2 + n) l) (is_bytes_drop (2 + n) l b)))
    (λ _. refl))

pub framed_bytes : (l : List ℕ) (v : ℕ) (rs : List (List ℕ)) → is_bytes l ≡ true → framed l ≡ good v rs → are_bytes rs ≡ true
unfolding framed bytes_in
framed_bytes l v rs b e =
    sym (ap bytes_in e)
    ∙ pick_elim (λ (x : Framed). bytes_in x ≡ true) (headed l) (records (num 5 4 l) (length l) (drop 9 l)) bad (λ _. records_bytes (num 5 4 l) (length l) (drop 9 l) (is_bytes_drop 9 l b)) (λ _. refl)

module _ (L : Limits) where
  -- a clock that has gone round any number of times answers the same
  rounds_same : (n : ℕ) (rs : List (List ℕ)) (s : State) → answers_from L (shift (n * 2 ^ 32) s) rs ≡ answers_from L s rs
  unfolding answers_from
  rounds_same n [] s = refl
  rounds_same n (r ∷ rs) s =
      let x : (step L (shift (n * 2 ^ 32) s) r).answer ≡ (step L s r).answer = answer_same (n * 2 ^ 32) L s r (add-mul-mod_self_right s.interval.clock n (2 ^ 32)) in
      let y : answers_from L (step L (shift (n * 2 ^ 32) s) r).state rs ≡ answers_from L (step L s r).state rs =
      ap (λ (z : State). answers_from L z rs) (state_shift (n * 2 ^ 32) L s r) ∙ rounds_same n rs (step L s r).state in
      cc

  pub any_clock : (v c : ℕ) → c % 2 ^ 32 ≡ v → (rs : List (List ℕ)) → answers_from L (empty_at c) rs ≡ answers_from L (empty_at v) rs
  any_clock v c e rs =
      let d : c ≡ v + c / 2 ^ 32 * 2 ^ 32 = omega (arith, div-add-mod' c (2 ^ 32)) in
      ap (λ (n : ℕ). answers_from L (empty_at n) rs) d ∙ rounds_same (c / 2 ^ 32) rs (empty_at v)

  run_bad : (l b : List ℕ) → framed l ≡ bad → run L l b ≡ refusal 35 b
  unfolding run
  run_bad l b e = ap (ran L b) e

  run_short : (l b : List ℕ) (v : ℕ) (rs : List (List ℕ)) → framed l ≡ good v rs → length b < 74 * length rs → run L l b ≡ refusal 36 b
  unfolding run
  run_short l b v rs e h = ap (ran L b) e ∙ ap (λ (t : Bool). pick t (answered (answers_from L (empty_at v) rs) b) (refusal 36 b)) (lt-leb (74 * length rs) (length b) h)

  run_whole : (l b : List ℕ) (v : ℕ) (rs : List (List ℕ)) → framed l ≡ good v rs → 74 * length rs ≤ length b → run L l b ≡ answered (answers_from L (empty_at v) rs) b
  unfolding run
  run_whole l b v rs e h = ap (ran L b) e ∙ ap (λ (t : Bool). pick t (answered (answers_from L (empty_at v) rs) b) (refusal 36 b)) (le-leb (74 * length rs) (length b) h)

  pub entry_meets : ListDemands L (run L)
  entry_meets = record {
    refused = λ l b h e. run_bad l b e;
    short = λ l b v rs h e f. run_short l b v rs e f;
    runs = λ l b v c rs h e f g. run_whole l b v rs e f ∙ ap (λ x. answered x b) (sym (any_clock v c g rs));
    moved = λ l m b v w rs hl hm el em f.
        run_whole m b w rs em f
        ∙ ap (λ x. answered x b) (sym (any_clock w (w + 2 ^ 32) (round L w (value_fits m w rs hm em)) rs) ∙ from_two L v w (value_fits l v rs hl el) rs);
  }
