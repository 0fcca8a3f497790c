-- `pick` finds the first that can start, and counts the line before it. Assumes nothing.
use Rattle.std.proofs.Common.{◌≡◌, ℕ, ◌+◌, Bool, true, false, List, get_or, take, count_by, sym, ap, ◌∙◌, arith}
use Rattle.std.proofs.lemmas.List.Sums.{count_by_more_yes, count_by_more_no}
use Rattle.base.specs.Lists.{keep, first_at}
use Rattle.interval.specs.declared.Request.{Request}
use Rattle.interval.specs.declared.dispatch.Busy.{Busy}
use Rattle.interval.specs.Rows.{active, expired, out_row}
use Rattle.interval.specs.Dispatch.{Runs, free_of, ready}
use Rattle.interval.proofs.Busy.{frees_is}
use Rattle.interval.proofs.Places.{seeks_on, seeks_hit, seeks_found, seeks_none}
use Rattle.interval.proofs.dispatch.pick.Goals as goal
use Rattle.interval.proofs.dispatch.pick.Goals.{Then-frees, then-is_expired+else-frees, else-is_expired}

-- whether a row of the line can start, as the code asks it
can_start : (rows : List Request) (b : Busy) → Runs (keep active rows) b → (q : Request) → expired q ≡ true → (f : Bool)
    → f ≡ free_of (take b.n b.programs) (take b.n b.terminals) q.program q.terminal → ready rows q ≡ f
can_start rows b r q e f h = rw e (sym (h ∙ frees_is rows b r q.program q.terminal))

module _ (c : Then-frees) where
  abbrev rows : List Request
  rows = c.args.rows.now

  here : ready rows (get_or rows c.loop-i.i out_row) ≡ true
  here =
      can_start rows c.busy_in-busy.result c.busy_in-busy.ensures (get_or rows c.loop-i.i out_row) (sym c.is_expired.ensures ∙ c.if-is_expired.true) c.frees.result
      c.frees.ensures ∙ c.if-frees.true

pub returns-then-frees-clause-at : goal.returns-then-frees-clause-at
returns-then-frees-clause-at c =
    seeks_found (ready c.args.rows.now) out_row c.args.rows.now c.loop-i.i c.loop-i-test.true (here c) c.loop-i.invariant.sought

pub returns-then-frees-clause-passed : goal.returns-then-frees-clause-passed
returns-then-frees-clause-passed c =
    let at : first_at (ready c.args.rows.now) c.args.rows.now ≡ c.loop-i.i =
    seeks_hit (ready c.args.rows.now) out_row c.args.rows.now c.loop-i.i c.loop-i-test.true (here c) c.loop-i.invariant.sought in
    c.loop-i.invariant.line ∙ ap (λ (k : ℕ). count_by expired (take k c.args.rows.now)) (sym at)

pub loop-i-preserved : goal.loop-i-preserved
loop-i-preserved c =
    let l = c.loop-i in
    let v = l.invariant in
    let rows : List Request = c.args.rows.now in
    let q : Request = get_or rows l.i out_row in
    let low = c.loop-i-test.true in
    elim c.if-is_expired.branch [
      | then-is_expired+else-frees w ↦
          let e : expired q ≡ true = sym c.is_expired.ensures ∙ w.if-is_expired.true in
          let no : ready rows q ≡ false =
          can_start rows c.busy_in-busy.result c.busy_in-busy.ensures q e w.frees.result w.frees.ensures ∙ w.if-frees.false in
          record {
            sought = seeks_on (ready rows) out_row rows l.i low no v.sought;
            line = w.passed-is ∙ ap (λ (k : ℕ). k + 1) v.line ∙ sym (count_by_more_yes expired rows l.i out_row low e);
          }
      | else-is_expired w ↦
          let e : expired q ≡ false = sym c.is_expired.ensures ∙ w.if-is_expired.false in
          let no : ready rows q ≡ false = rw e in
          record {
            sought = seeks_on (ready rows) out_row rows l.i low no v.sought;
            line = w.passed-is ∙ v.line ∙ sym (count_by_more_no expired rows l.i out_row low e);
          }
    ]

pub returns-clause-at : goal.returns-clause-at
returns-clause-at c =
    seeks_none (ready c.args.rows.now) c.args.rows.now c.loop-i.i (omega arith) c.loop-i.invariant.sought
