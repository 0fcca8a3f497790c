use mathlib.Core.Path.{◌≡◌}
use lib.ListN.{drop}
use Rattle.frames.specs.Writing.{written}
use Rattle.print.specs.Text.{puts, hex_of}
use Rattle.print.proofs.text.put_hex.Given as goal

abbrev pub invariant-loop-byte : goal.invariant-loop-byte
invariant-loop-byte l = puts (written l.end l.out) (hex_of (drop l.byte-index l.bytes)) ≡ puts (written l.at l.initial.out) (hex_of l.bytes)
