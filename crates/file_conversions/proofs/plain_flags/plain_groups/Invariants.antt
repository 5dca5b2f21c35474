use Rattle.std.proofs.Common.{◌≡◌, ◌+◌, ◌-◌, ◌*◌}
use Rattle.file_conversions.specs.PlainFlags.{plain_groups}
use Rattle.file_conversions.proofs.plain_flags.plain_groups.Given as goal

abbrev pub invariant-loop-i : goal.invariant-loop-i
invariant-loop-i l = plain_groups l.bytes (l.place + 24 * l.i) (l.count - l.i) l.out ≡ plain_groups l.bytes l.place l.count l.fn.out
