use Rattle.std.proofs.Common.{◌≡◌, ◌+◌, ◌-◌, ◌^◌, ◌≤◌, eqb, length, min}
use Rattle.std.specs.Iterator.Adapters.{enumerate_source, enumerate_count}
use Rattle.std.specs.Slice.Iter.{chunks_rest, chunks_size}
use Rattle.words.specs.Laws.Column.{Scanned}
use Rattle.words.proofs.rows.find.Given as goal

abbrev pub invariant-loop-i : goal.invariant-loop-i
invariant-loop-i l = record {
  scanned : Scanned l.gap l.t (λ m. eqb m l.name) (enumerate_count l.i-iterator) (chunks_rest (enumerate_source l.i-iterator));
  width : chunks_size (enumerate_source l.i-iterator) ≡ min (l.gap + 1) (2 ^ 64 - 1);
  short : length (chunks_rest (enumerate_source l.i-iterator)) ≤ length l.t;
}
