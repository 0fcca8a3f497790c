-- `reading::record_at` meets its contract: each way out is a case of `whole` of what is left of the list.
-- Assumes nothing.
use mathlib.Core.Path.{◌≡◌, ap, sym, ◌∙◌}
use Prim.Native.Nat.{ℕ, ◌+◌}
use native.Mathlib.Omega.{arith}
use Rattle.base.specs.Bytes.{num}
use Rattle.frames.specs.Laws.Records.{Whole, whole_is, whole_not}
use Rattle.frames.specs.Laws.Reading.{part_end, part_bad, part_record}
use Rattle.frames.specs.declared.reading.Part.TheVariants.{Record}
use Rattle.frames.proofs.reading.record_at.Goals as goal

pub returns-then-list-at : goal.returns-then-list-at
returns-then-list-at c = record { exact = sym (part_end c.args.list.now c.args.at c.if-list-at.true) }

pub returns-then-room-lt2 : goal.returns-then-room-lt2
returns-then-room-lt2 c =
    let l = c.args.list.now in
    let at = c.args.at in
    record { exact = sym (part_bad l at (omega arith) (whole_not l at (λ (h : Whole l at). omega arith))) }

pub returns-then-n-lt-LEAST : goal.returns-then-n-lt-LEAST
returns-then-n-lt-LEAST c =
    let l = c.args.list.now in
    let at = c.args.at in
    let e : c.length_at-n.result ≡ num at 2 l = c.length_at-n.ensures in
    record { exact = sym (part_bad l at (omega arith) (whole_not l at (λ (h : Whole l at). omega arith))) }

pub returns-then-room-n : goal.returns-then-room-n
returns-then-room-n c =
    let l = c.args.list.now in
    let at = c.args.at in
    let e : c.length_at-n.result ≡ num at 2 l = c.length_at-n.ensures in
    record { exact = sym (part_bad l at (omega arith) (whole_not l at (λ (h : Whole l at). omega arith))) }

pub returns : goal.returns
returns c =
    let l = c.args.list.now in
    let at = c.args.at in
    let e : c.length_at-n.result ≡ num at 2 l = c.length_at-n.ensures in
    let w : Whole l at = record { two = omega arith; nine = omega arith; within = omega arith } in
    record { exact = sym (part_record l at (omega arith) (whole_is l at w) ∙ ap (λ (k : ℕ). Record (at + 2) (at + 2 + k)) (sym e)) }
