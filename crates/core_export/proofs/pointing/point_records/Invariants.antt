use Rattle.std.proofs.Common.{◌≡◌, ◌+◌, ◌-◌, ◌*◌}
use Rattle.core_export.specs.Export.{pointed_records}
use Rattle.core_export.proofs.pointing.point_records.Given as goal

abbrev pub invariant-loop-i : goal.invariant-loop-i
invariant-loop-i l = pointed_records l.bytes l.unit (l.place + 20 * l.i) (l.count - l.i) l.out ≡ pointed_records l.bytes l.unit l.place l.count l.fn.out
