-- `rows::find` meets its contract: what was passed has none of the name, so the first is among what is left. Assumes nothing.
use Rattle.std.proofs.Common.{◌≡◌, ℕ, ◌+◌, ◌-◌, ◌^◌, ◌<◌, min, List, ◌++◌, ap, ◌∙◌, Some, arith, eq-eqb, ne_eqb, length, length-append}
use Rattle.words.specs.Laws.Column.{is_row, scan_hit, scan_on, scan_end}
use Rattle.words.proofs.rows.find.Goals as goal

-- a chunk is a row of what is left: no slice is so long that the width that is asked for would matter
row_of : (gap size : ℕ) (left row rest : List ℕ) → size ≡ min (gap + 1) (2 ^ 64 - 1) → length left < 2 ^ 64 - 1
    → left ≡ row ++ rest → length row ≡ min size (length left) → 0 < length left → is_row gap row rest
row_of gap size left row rest w b e n h = let k = ap length e in (omega arith, omega arith)

pub returns-then-row-name : goal.returns-then-row-name
returns-then-row-name c =
    let s = c.in-Some.ensures.steps in
    let v = c.loop-i.invariant in
    record {
      exact = ap Some s.1
          ∙ scan_hit v.scanned _ _ s.0.1.0 (row_of _ _ _ _ _ v.width (omega arith) s.0.1.0 s.0.1.1 s.0.1.2) (eq-eqb _ _ c.if-row-name.true);
    }

pub loop-i-preserved : goal.loop-i-preserved
loop-i-preserved c =
    let s = c.in-Some.ensures.steps in
    let v = c.loop-i.invariant in
    record {
      scanned = scan_on v.scanned _ _ s.0.1.0 (row_of _ _ _ _ _ v.width (omega arith) s.0.1.0 s.0.1.1 s.0.1.2) _ s.2 (ne_eqb _ _ c.if-row-name.false);
      width = s.0.0 ∙ v.width;
      short = omega (arith, ap length s.0.1.0, length-append {A = ℕ});
    }

pub returns : goal.returns
returns c =
    let s = c.in-None.ensures.steps in record { exact = scan_end c.loop-i.invariant.scanned s.0.1.0 }
