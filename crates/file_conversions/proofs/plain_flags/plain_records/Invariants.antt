use Rattle.std.proofs.Common.{◌≡◌, ◌+◌, ◌-◌, ◌*◌}
use Rattle.file_conversions.specs.PlainFlags.{plain_records}
use Rattle.file_conversions.proofs.plain_flags.plain_records.Given as goal

abbrev pub invariant-loop-i : goal.invariant-loop-i
invariant-loop-i l = plain_records l.bytes (l.place + 20 * l.i) (l.count - l.i) l.out ≡ plain_records l.bytes l.place l.count l.fn.out
