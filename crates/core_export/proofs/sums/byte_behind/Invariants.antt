use Rattle.std.proofs.Common.{◌≡◌, ◌-◌}
use Rattle.core_export.specs.Checksum.{bits_behind, byte_behind}
use Rattle.core_export.proofs.sums.byte_behind.Given as goal

abbrev pub invariant-loop-bit : goal.invariant-loop-bit
invariant-loop-bit l = bits_behind (8 - l._bit) l.sum ≡ byte_behind l.fn.sum l.byte
