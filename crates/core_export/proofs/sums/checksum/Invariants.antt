use Rattle.std.proofs.Common.{◌≡◌, drop}
use Rattle.core_export.specs.Checksum.{bytes_behind, checksum}
use Rattle.core_export.proofs.sums.checksum.Given as goal

abbrev pub invariant-loop-byte : goal.invariant-loop-byte
invariant-loop-byte l = bytes_behind l.sum (drop l.byte-index l.bytes) ≡ checksum l.bytes
