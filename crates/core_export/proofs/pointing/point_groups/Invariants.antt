use Rattle.std.proofs.Common.{◌≡◌, ◌+◌, ◌-◌, ◌*◌}
use Rattle.core_export.specs.Export.{pointed_groups}
use Rattle.core_export.proofs.pointing.point_groups.Given as goal

abbrev pub invariant-loop-i : goal.invariant-loop-i
invariant-loop-i l = pointed_groups l.bytes l.unit (l.place + 24 * l.i) (l.count - l.i) l.out ≡ pointed_groups l.bytes l.unit l.place l.count l.fn.out
