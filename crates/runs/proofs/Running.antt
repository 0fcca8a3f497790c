-- The state of the loop that runs the records of a framed list, and a turn of it. Assumes nothing.
use mathlib.Core.Path.{◌≡◌, refl, ap, sym, ◌∙◌}
use mathlib.Core.List.{List, [], ◌++◌, append_assoc, append-nil}
use Prim.Native.Nat.{ℕ, suc, ◌+◌, ◌*◌, ◌-◌, ◌≤◌}
use native.Mathlib.Omega.{arith}
use lib.Dec.{leb}
use borrow.Author.Tests.{leb-true, leb-false, le-ltb}
use lib.ListN.{length, take, drop, length-append}
use Rattle.base.specs.Lists.{over}
use Rattle.base.specs.Laws.Over.{length_over}
use Rattle.base.specs.Laws.Tests.{by_test}
use Rattle.model.specs.Lists.{encoded, encoded_all}
use Rattle.frames.specs.Reading.{next_at, part_at, records_from, Filled}
use Rattle.frames.specs.Laws.Reading.{Onward, filled_next, filled_record, from_end}
use Rattle.frames.specs.Laws.Tails.{tail_of, put_tail, over_put_tail, tail_length}
use Rattle.frames.specs.declared.reading.Part.{Part}
use Rattle.frames.specs.declared.reading.Part.TheVariants.{Record}
use Rattle.turn_rules.specs.Tables.{Tables}
use Rattle.turn_rules.specs.Lent.{SameLoans}
use Rattle.turn_rules.specs.declared.Lent.{Lent}
use Rattle.turn_rules.specs.Turn.{Left, left, left_over, turned, turned_in, turn_of}
use Rattle.turn_rules.specs.Run.{answers_in, tables_after}
use Rattle.runs.specs.Run.{run_of, Fitting}

-- the answers of the records passed stand at the front of the buffer; what is left, from the tables as they are, is the rest of all
pub record Running (l out₀ : List ℕ) (t₀ : Tables) (out : List ℕ) (t : Tables) (at w : ℕ) : Type 0 where
  pub filled : Filled l at
  pub front : List ℕ
  pub buffer : out ≡ over front out₀
  pub count : w ≡ length front
  pub room : w + 74 * length (records_from l at) ≤ length out₀
  pub all : front ++ encoded_all (answers_in t (records_from l at)) ≡ encoded_all (answers_in t₀ (records_from l 9))
  pub last : tables_after t (records_from l at) ≡ tables_after t₀ (records_from l 9)

pub running_none : (l out : List ℕ) (t : Tables) → Fitting l out → Running l out t out t 9 0
running_none l out t f =
    record {
      filled = f.filled;
      front = [];
      buffer = refl;
      count = refl;
      room = omega arith;
      all = refl;
      last = refl;
    }

-- where there is room for an answer
turned_room : (t : Tables) (r b : List ℕ) → 74 ≤ length b → turned_in t r b ≡ turned (turn_of t r) b
unfolding turned_in
turned_room t r b h = rw (le-ltb (length b) 74 h)

module _ {l out₀ : List ℕ} {t₀ : Tables} {out : List ℕ} {t : Tables} {at w : ℕ} (R : Running l out₀ t₀ out t at w) where
  pub running_long : length out ≡ length out₀
  running_long = ap length R.buffer ∙ length_over R.front out₀ (omega arith)

  -- a reader that says no record stands at the end
  pub running_end : (r : Part) → r ≡ part_at l at → ((start next : ℕ) → r ≡ Record start next → ⊥) → length l ≤ at
  running_end r is other =
      by_test (leb (length l) at) (λ t. leb-true (length l) at t)
      (λ t. absurd (other (at + 2) (next_at l at) (is ∙ filled_record l at R.filled (leb-false (length l) at t))))

  pub running_all : length l ≤ at → left w t out ≡ run_of t₀ (records_from l 9) out₀
  unfolding answers_in tables_after run_of
  running_all h =
      let none : records_from l at ≡ [] = from_end l at h in
      let whole : R.front ≡ encoded_all (answers_in t₀ (records_from l 9)) =
      sym (append-nil R.front) ∙ ap (λ (r : List (List ℕ)). R.front ++ encoded_all (answers_in t r)) (sym none) ∙ R.all in
      let end : t ≡ tables_after t₀ (records_from l 9) = ap (tables_after t) (sym none) ∙ R.last in
      ap (λ (k : ℕ). left k t out) R.count ∙ ap (left (length R.front) t) R.buffer
      ∙ ap (λ (e : List ℕ). left_over e t out₀) whole ∙ ap (λ (u : Tables). left_over (encoded_all (answers_in t₀ (records_from l 9))) u out₀) end

  module _ (start next : ℕ) (said : Record start next ≡ part_at l at) where
    abbrev rec : List ℕ
    rec = take (next - start) (drop start l)

    pub onward : Onward l at start next
    onward = filled_next l at R.filled start next said

    one : length (records_from l at) ≡ suc (length (records_from l next))
    one = ap length (sym onward.cut)

    -- there is room for its answer
    pub running_fits : w + 74 ≤ length out
    running_fits = let o = one in let k = running_long in let m = R.room in omega arith

    module _ (n : ℕ) (u : Tables) (ys : List ℕ) (wrote : left n u ys ≡ turned_in t rec (tail_of w out)) (short : n ≤ 74) where
      turns : left n u ys ≡ turned (turn_of t rec) (tail_of w out)
      turns = let f = running_fits in let k = tail_length w out in wrote ∙ turned_room t rec (tail_of w out) (omega arith)

      pub running_more : Running l out₀ t₀ (put_tail w out ys) u next (w + n)
      unfolding answers_in tables_after
      running_more =
          let e : List ℕ = encoded (turn_of t rec).answer in
          let ne : n ≡ length e = ap (λ (x : Left). x.count) turns in
          let ue : u ≡ (turn_of t rec).tables = ap (λ (x : Left). x.tables) turns in
          let ye : ys ≡ over e (tail_of w out) = ap (λ (x : Left). x.buffer) turns in
          let o = one in
          let f = running_fits in
          let m = R.room in
          record {
            filled = onward.filled;
            front = R.front ++ e;
            buffer = over_put_tail w out e ys (omega arith) ye R.front out₀ R.buffer R.count;
            count = omega (arith, length-append R.front e);
            room = omega arith;
            all =
                append_assoc R.front e (encoded_all (answers_in u (records_from l next)))
                ∙ ap (λ (x : Tables). R.front ++ (e ++ encoded_all (answers_in x (records_from l next)))) ue
                ∙ ap (λ (r : List (List ℕ)). R.front ++ encoded_all (answers_in t r)) onward.cut ∙ R.all;
            last = ap (λ (x : Tables). tables_after x (records_from l next)) ue ∙ ap (tables_after t) onward.cut ∙ R.last;
          }

-- the caller's own, call after call
pub loans_then : {t u v : Lent} → SameLoans t u → SameLoans u v → SameLoans t v
loans_then a b = record {
  programs = a.programs ∙ b.programs;
  terminals = a.terminals ∙ b.terminals;
  requests = a.requests ∙ b.requests;
  area = a.area ∙ b.area;
  queues = a.queues ∙ b.queues;
  items = a.items ∙ b.items;
  settings = a.settings ∙ b.settings;
}
