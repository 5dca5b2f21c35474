use Rattle.std.proofs.Common.{◌≡◌, ◌+◌, ◌-◌, ◌*◌}
use Rattle.core_export.specs.Readable.{are_records_pointed}
use Rattle.core_export.proofs.pointing.are_records_pointed.Given as goal

abbrev pub invariant-loop-i : goal.invariant-loop-i
invariant-loop-i l = are_records_pointed l.bytes (l.place + 20 * l.i) (l.count - l.i) ≡ are_records_pointed l.bytes l.place l.count
