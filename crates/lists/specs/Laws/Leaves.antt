-- What every run leaves, whatever the monitor answers: one reply, one of three codes, nothing at all where the list is refused,
-- and else the answers at the front of the buffer and each byte behind them as it was. Assumes nothing.
use Rattle.std.specs.Prelude.{◌≡◌, ◌⊎◌, List, [], ◌∷◌, ℕ, suc, ◌*◌, ◌≤◌, ◌<◌, eqb, leb, take, drop, get_or, Result, Ok, Err}
use Rattle.std.proofs.Math.Path.{refl}
use Rattle.std.proofs.Common.{ap, sym, ◌∙◌, inl, inr, arith, length-append, le-leb}
use Rattle.std.proofs.Math.ListN.{length}
use Rattle.std.proofs.lemmas.Bool.{lt-leb}
use Rattle.base.specs.Choice.{pick}
use Rattle.base.specs.Lists.{over}
use Rattle.base.specs.Laws.Over.{take_over, drop_over, over_read}
use Rattle.base.specs.Laws.Tests.{by_test}
use Rattle.base.specs.Laws.Unique as unique
use Rattle.model.specs.Lists as model
use Rattle.frames.specs.declared.refused.Refused.{Refused}
use Rattle.frames.specs.declared.refused.Refused.TheVariants.{NotFramed, NoRoom}
use Rattle.monitor.specs.Step.{step_on}
use Rattle.monitor.specs.Table.{fresh_tables}
use Rattle.monitor.specs.declared.Tables.{Tables}
use Rattle.lists.specs.Run.{answers_on, run_on, ran}

-- ---- as many answers as records

pub answers_long : (t : Tables) (rs : List (List ℕ)) → length (answers_on t rs) ≡ length rs
unfolding answers_on
answers_long t [] = refl
answers_long t (r ∷ rs) = ap suc (answers_long (step_on t r).tables rs)

-- ---- 35, 36 or 0

module _ (b : List ℕ) where
  pub on_bad : run_on model.bad b ≡ model.refusal 35 b
  unfolding run_on
  on_bad = refl

  module _ (v : ℕ) (rs : List (List ℕ)) where
    pub on_short : length b < 74 * length rs → run_on (model.good v rs) b ≡ model.refusal 36 b
    unfolding run_on
    on_short h = rw (lt-leb (74 * length rs) (length b) h)

    pub on_good : 74 * length rs ≤ length b → run_on (model.good v rs) b ≡ model.answered (answers_on (fresh_tables v) rs) b
    unfolding run_on
    on_good h = rw (le-leb (74 * length rs) (length b) h)

-- the bytes that are written, and that there are none where the code is not 0
pub record Leaves (b : List ℕ) (x : model.Ran) : Type 0 where
  pub front : List ℕ
  pub count : x.written ≡ length front
  pub buffer : x.buffer ≡ over front b
  pub code : (x.code ≡ 0) ⊎ ((x.code ≡ 35) ⊎ (x.code ≡ 36))
  pub nothing : (x.code ≡ 0 → ⊥) → front ≡ []

pub run_leaves : (f : model.Framed) (b : List ℕ) → Leaves b (run_on f b)
unfolding run_on
run_leaves model.bad b = record { front = []; count = refl; buffer = refl; code = inr (inl refl); nothing = λ n. refl }
run_leaves (model.good v rs) b =
    by_test (leb (74 * length rs) (length b))
    (λ t.
    let all : List ℕ = model.encoded_all (answers_on (fresh_tables v) rs) in
    rw t (record { front = all; count = refl; buffer = refl; code = inl refl; nothing = λ n. absurd (n refl) }))
    (λ t. rw t (record { front = []; count = refl; buffer = refl; code = inr (inr refl); nothing = λ n. refl }))

module _ {b : List ℕ} {x : model.Ran} (S : Leaves b x) where
  -- "bytes past the last answer keep their values"
  pub past_kept : drop x.written x.buffer ≡ drop x.written b
  past_kept =
      ap (λ (k : ℕ). drop k x.buffer) S.count ∙ ap (drop (length S.front)) S.buffer ∙ drop_over S.front b
      ∙ ap (λ (k : ℕ). drop k b) (sym S.count)

  pub byte_kept : (i d : ℕ) → x.written ≤ i → get_or x.buffer i d ≡ get_or b i d
  byte_kept i d h = ap (λ (o : List ℕ). get_or o i d) S.buffer ∙ over_read S.front b i d (omega (arith, S.count))

  pub written_front : take x.written x.buffer ≡ S.front
  written_front = ap (λ (k : ℕ). take k x.buffer) S.count ∙ ap (take (length S.front)) S.buffer ∙ take_over S.front b

  -- "A refused list runs nothing and writes nothing."
  pub refused_kept : (x.code ≡ 0 → ⊥) → (x.written ≡ 0) × (x.buffer ≡ b)
  refused_kept n = let e = S.nothing n in (S.count ∙ ap length e, S.buffer ∙ ap (λ (o : List ℕ). over o b) e)

  -- a buffer that is as long as it was lent, as every buffer is that the code leaves, holds all that is written
  pub written_within : length x.buffer ≡ length b → x.written ≤ length b
  written_within h =
      let n = ap length S.buffer in
      let a = length-append S.front (drop (length S.front) b) in
      omega (arith, S.count)

-- ---- what is promised is one reply

-- what the code returned, read off it
abbrev read : model.Ran → Result ℕ Refused
read y = pick (eqb y.code 35) (Err NotFramed) (pick (eqb y.code 36) (Err NoRoom) (Ok y.written))

read_ran : (r : Result ℕ Refused) (o : List ℕ) → read (ran r o) ≡ r
read_ran (Ok n) o = refl
read_ran (Err NotFramed) o = refl
read_ran (Err NoRoom) o = refl

left_ran : (r : Result ℕ Refused) (o : List ℕ) → (ran r o).buffer ≡ o
left_ran (Ok n) o = refl
left_ran (Err e) o = refl

pub one_reply : (x : model.Ran) (r s : Result ℕ Refused) (o p : List ℕ) → ran r o ≡ x → ran s p ≡ x → (r ≡ s) × (o ≡ p)
one_reply x r s o p e f =
    let q : ran r o ≡ ran s p = unique.one_reply e f in
    (sym (read_ran r o) ∙ ap read q ∙ read_ran s p, sym (left_ran r o) ∙ ap (λ (y : model.Ran). y.buffer) q ∙ left_ran s p)
