use Rattle.std.proofs.Common.{◌≡◌, ◌+◌, ◌-◌, ◌*◌}
use Rattle.core_export.specs.Export.{end_in_records}
use Rattle.core_export.proofs.zero_units.end_in_records.Given as goal

abbrev pub invariant-loop-i : goal.invariant-loop-i
invariant-loop-i l = end_in_records l.bytes (l.place + 20 * l.i) (l.count - l.i) ≡ end_in_records l.bytes l.place l.count
