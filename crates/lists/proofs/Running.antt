-- The state of the loop that runs the records of a framed list, and a turn of it. Assumes nothing.
use mathlib.Core.Path.{◌≡◌, refl, ap, sym, subst, ◌∙◌}
use mathlib.Core.Bool.{true}
use mathlib.Core.List.{List, [], ◌++◌, append_assoc, append-nil}
use Prim.Native.Nat.{ℕ, suc, ◌+◌, ◌*◌, ◌-◌, ◌≤◌}
use native.Mathlib.Omega.{arith}
use lib.Dec.{leb}
use borrow.Author.Tests.{leb-true, leb-false}
use lib.ListN.{length, take, drop, length-append}
use Rattle.base.specs.Bytes.{is_byte, is_bytes}
use Rattle.base.specs.Lists.{over}
use Rattle.base.specs.Laws.Keep.{all_take, all_drop}
use Rattle.base.specs.Laws.Over.{length_over}
use Rattle.base.specs.Laws.Tests.{by_test}
use Rattle.model.specs.Lists.{encoded, encoded_all, answered}
use Rattle.monitor.specs.Answers.{laid}
use Rattle.monitor.specs.Step.{step_on, Lent, lent, turned}
use Rattle.monitor.specs.Table.{tables, sound_p}
use Rattle.monitor.specs.Laws.Fine.{Typed}
use Rattle.monitor.specs.Laws.Step.{step_typed}
use Rattle.monitor.proofs.Laws.Step.{step_keeps}
use Rattle.monitor.specs.declared.Tables.{Tables}
use Rattle.monitor.specs.declared.settle.Turned.{Turned}
use Rattle.frames.specs.Reading.{next_at, part_at, records_from, Filled}
use Rattle.frames.specs.Writing.{written, written_over}
use Rattle.frames.specs.Laws.Reading.{Onward, filled_next, filled_record, from_end}
use Rattle.frames.specs.Laws.Tails.{tail_of, put_tail, tail_told, over_put_tail}
use Rattle.frames.specs.declared.reading.Part.{Part}
use Rattle.frames.specs.declared.reading.Part.TheVariants.{Record}
use Rattle.lists.specs.Run.{answers_on, reply, Fitting}
use Rattle.lists.specs.Laws.Answers.{held, held_laid, laid_max}

-- the answers of the records passed stand at the front of the buffer; those of the records left, from the tables as they are, are the
-- rest of all answers, and the buffer has room for them; the tables keep their types' bounds, and are sound
pub record Running (l out₀ : List ℕ) (t₀ : Tables) (out : List ℕ) (t : Tables) (at w : ℕ) : Type 0 where
  pub filled : Filled l at
  pub front : List ℕ
  pub buffer : out ≡ over front out₀
  pub count : w ≡ length front
  pub room : w + 74 * length (records_from l at) ≤ length out₀
  pub bytes : is_bytes l ≡ true
  pub typed : Typed t
  pub sound : sound_p t.parts ≡ true
  pub all : front ++ encoded_all (answers_on t (records_from l at)) ≡ encoded_all (answers_on t₀ (records_from l 9))

pub running_none : (l out : List ℕ) (t : Tables) → Fitting l out → is_bytes l ≡ true → Typed t → sound_p t.parts ≡ true → Running l out t out t 9 0
running_none l out t f b y k =
    record { filled = f.filled; front = []; buffer = refl; count = refl; room = omega arith; bytes = b; typed = y; sound = k; all = refl }

module _ {l out₀ : List ℕ} {t₀ : Tables} {out : List ℕ} {t : Tables} {at w : ℕ} (R : Running l out₀ t₀ out t at w) where
  pub running_long : length out ≡ length out₀
  running_long = ap length R.buffer ∙ length_over R.front out₀ (omega arith)

  -- a reader that says no record stands at the end
  pub running_end : (r : Part) → r ≡ part_at l at → ((start next : ℕ) → r ≡ Record start next → ⊥) → length l ≤ at
  running_end r is other =
      by_test (leb (length l) at) (λ t. leb-true (length l) at t)
      (λ t. absurd (other (at + 2) (next_at l at) (is ∙ filled_record l at R.filled (leb-false (length l) at t))))

  pub running_all : length l ≤ at → reply 0 w out ≡ answered (answers_on t₀ (records_from l 9)) out₀
  unfolding answers_on
  running_all h =
      let none : records_from l at ≡ [] = from_end l at h in
      let whole : R.front ≡ encoded_all (answers_on t₀ (records_from l 9)) =
      sym (append-nil R.front) ∙ ap (λ (r : List (List ℕ)). R.front ++ encoded_all (answers_on t r)) (sym none) ∙ R.all in
      ap (λ (k : ℕ). reply 0 k out) R.count ∙ ap (reply 0 (length R.front)) R.buffer
      ∙ ap (λ (e : List ℕ). reply 0 (length e) (over e out₀)) whole

  module _ (start next : ℕ) (said : Record start next ≡ part_at l at) where
    abbrev rec : List ℕ
    rec = take (next - start) (drop start l)

    pub onward : Onward l at start next
    onward = filled_next l at R.filled start next said

    one_bytes : is_bytes rec ≡ true
    one_bytes = all_take is_byte (next - start) (drop start l) (all_drop is_byte start l R.bytes)

    one : length (records_from l at) ≡ suc (length (records_from l next))
    one = ap length (sym onward.cut)

    module _ (s : Turned) (items : List ℕ) (stepped : lent s items ≡ turned (step_on t rec)) (long : length s.answer.bytes ≡ 64) where
      tables_is : tables s.parts items ≡ (step_on t rec).tables
      tables_is = ap (λ (x : Lent Turned). tables x.reply.parts x.items) stepped

      answer_is : s.answer ≡ laid (step_on t rec).answer
      answer_is = ap (λ (x : Lent Turned). x.reply.answer) stepped

      encoded_is : encoded (held s.answer) ≡ encoded (step_on t rec).answer
      encoded_is = ap encoded (held_laid (step_on t rec).answer s.answer answer_is long)

      -- there is room for its answer
      pub running_fits : w + length (encoded (held s.answer)) ≤ length out
      running_fits =
          let o = one in
          let k = running_long in
          let m = laid_max (step_on t rec).answer s.answer answer_is long in
          let e = ap length encoded_is in
          omega arith

      module _ (n : ℕ) (ys : List ℕ) (wrote : written n ys ≡ written_over (encoded (held s.answer)) (tail_of w out)) where
        pub running_moved : w + n ≤ length out
        running_moved = let a = (tail_told w out (encoded (held s.answer)) ys n running_fits wrote).0 in let f = running_fits in omega arith

        pub running_more : Running l out₀ t₀ (put_tail w out ys) (tables s.parts items) next (w + n)
        unfolding answers_on
        running_more =
            let e : List ℕ = encoded (held s.answer) in
            let a = tail_told w out e ys n running_fits wrote in
            let m = laid_max (step_on t rec).answer s.answer answer_is long in
            let o = one in
            let q = ap length encoded_is in
            record {
              filled = onward.filled;
              front = R.front ++ e;
              buffer = over_put_tail w out e ys running_fits a.1 R.front out₀ R.buffer R.count;
              count = omega (arith, length-append R.front e);
              room = omega arith;
              bytes = R.bytes;
              typed = subst Typed (sym tables_is) (step_typed t R.typed R.sound rec one_bytes);
              sound = ap (λ (x : Tables). sound_p x.parts) tables_is ∙ step_keeps t R.typed R.sound rec one_bytes;
              all =
                  append_assoc R.front e (encoded_all (answers_on (tables s.parts items) (records_from l next)))
                  ∙ ap (λ (x : Tables). R.front ++ (e ++ encoded_all (answers_on x (records_from l next)))) tables_is
                  ∙ ap (λ (x : List ℕ). R.front ++ (x ++ encoded_all (answers_on (step_on t rec).tables (records_from l next)))) encoded_is
                  ∙ ap (λ (r : List (List ℕ)). R.front ++ encoded_all (answers_on t r)) onward.cut ∙ R.all;
            }
