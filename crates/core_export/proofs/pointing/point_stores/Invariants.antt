use Rattle.std.proofs.Common.{◌≡◌, ◌+◌, ◌-◌, ◌*◌}
use Rattle.core_export.specs.Export.{pointed_stores}
use Rattle.core_export.proofs.pointing.point_stores.Given as goal

abbrev pub invariant-loop-i : goal.invariant-loop-i
invariant-loop-i l = pointed_stores l.bytes l.unit (l.place + 12 * l.i) (l.count - l.i) l.out ≡ pointed_stores l.bytes l.unit l.place l.count l.fn.out
