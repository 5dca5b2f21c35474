use Rattle.std.proofs.Common.{◌≡◌, ◌+◌, ◌-◌, ◌*◌}
use Rattle.core_export.specs.Readable.{are_groups_pointed}
use Rattle.core_export.proofs.pointing.are_groups_pointed.Given as goal

abbrev pub invariant-loop-i : goal.invariant-loop-i
invariant-loop-i l = are_groups_pointed l.bytes (l.place + 24 * l.i) (l.count - l.i) ≡ are_groups_pointed l.bytes l.place l.count
