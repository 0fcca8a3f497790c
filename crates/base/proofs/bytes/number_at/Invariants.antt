use Rattle.std.proofs.Common.{◌≡◌, ◌<◌, ◌^◌, take}
use Rattle.base.specs.Bytes.{num_from}
use Rattle.base.proofs.bytes.number_at.Given as goal

abbrev pub invariant-loop-byte : goal.invariant-loop-byte
invariant-loop-byte l = record { exact : l.a ≡ num_from 0 (take l.byte-index l.byte-items); small : l.a < 256 ^ l.byte-index }
